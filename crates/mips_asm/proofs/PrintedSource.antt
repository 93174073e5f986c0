-- A text that is read as a word, after an `.org` of its address, assembles to that word.
use Rattle.std.proofs.Common.{◌≡◌, ◌<◌, ◌+◌, ◌-◌, ◌%◌, ◌^◌, ◌==◌, ◌&&◌, ◌||◌, ℕ, zero, suc, Bool, true, false, not, List, [], ◌∷◌, ◌++◌, cond, nat_lt, Option, Some, None, IfSome, codes, map, refl, ap, ◌∙◌, arith, Ok}
use Rattle.std.proofs.lemmas.Grind.{common_steps}
use Rattle.flat_ram.specs.Bytes.{bytes_of, zeros_of}
use Rattle.flat_ram.specs.Map.{ram_size}
use Rattle.flat_ram.specs.Unmapped.{is_unmapped}
use Rattle.mips3_table.specs.declared.instruction.Inst.{Inst}
use Rattle.mips3_table.specs.Instructions.{IsInst}
use Rattle.mips3_code.specs.Coding.{decoded, encoded}
use Rattle.mips3_code.proofs.RoundTrip.{decoded_in_range}
use Rattle.mips_text.specs.declared.reason.AsmWhy.TheVariants as why
use Rattle.mips_text.specs.declared.item.Item.{Item}
use Rattle.mips_text.specs.declared.item.Item.TheVariants.{Bytes, Zeros, Origin, Aligned}
use Rattle.mips_text.specs.declared.item.Line.{Line}
use Rattle.mips_text.specs.Line.{read_line}
use Rattle.mips_text.specs.Coded.{Given, coded_at}
use Rattle.mips_text.specs.Values.{hex_text}
use Rattle.mips_text.specs.Printed.{text_of, decoded_text, word_text}
use Rattle.mips_text.specs.ReadBack.{ReadsAs, word_kept}
use Rattle.mips_text.proofs.ReadBack.{printed_is_read}
use Rattle.mips_text.proofs.ReadReserved.{reserved_is_read}
use Rattle.mips_asm.specs.Layout.{Placed, placed_at, placed, readings_of, base_of, size_at, moves_wrongly, is_misplaced, fault_at, layout_fault}
use Rattle.mips_asm.specs.Assembly.{Image, HasNoFault, bytes_given, reason_lacking, coding_fault, bytes_of_lines, assembled_all, assembled_readings, assembled}
use Rattle.mips_asm.specs.PrintedSource.{IsPlace, source_at, AssemblesTo}
use Rattle.mips_asm.proofs.Sizes.{given_length}
use Rattle.mips_asm.proofs.Outcomes.{image_of_lines}
use Rattle.mips_asm.proofs.OneLine.{IsLine, joined, lines_of_first, lines_of_only, hexadecimal_in_line, printed_is_line, reserved_is_line}
use Rattle.mips_asm.proofs.OrgLine.{org_is_read}

-- a statement without a label
abbrev line_with : Item → Line
line_with item = record { label = None; item = Some item }

-- THE FIRST KIND OF FAULT

stands_by : (range align : Bool) → range ≡ false → align ≡ false → cond range (Some why.Range) (cond align (Some why.Align) None) ≡ None
stands_by true align range_is align_is = absurd (cc)
stands_by false true range_is align_is = absurd (cc)
stands_by false false range_is align_is = refl

neither : (first second : Bool) → first ≡ false → second ≡ false → (first || second) ≡ false
neither true second is_first is_second = absurd (cc)
neither false second is_first is_second = is_second

-- a statement of at most 4 bytes leaves room at the base
room : (at size : ℕ) → size < 5 → nat_lt ram_size (at + size - at) ≡ false
room at size lt = grind (arith, common_steps)

-- a statement of no range fault and no alignment fault stands at its address
stands : (at : ℕ) (item : Item) → moves_wrongly at at (Some item) ≡ false → size_at at item < 5 → is_misplaced at item ≡ false → fault_at at at [] (line_with item) ≡ None
unfolding fault_at
stands at item moves size placed_is =
    stands_by (moves_wrongly at at (Some item) || nat_lt ram_size (at + size_at at item - at)) (is_misplaced at item || false)
    (neither (moves_wrongly at at (Some item)) (nat_lt ram_size (at + size_at at item - at)) moves (room at (size_at at item) size)) (neither (is_misplaced at item) false placed_is refl)

not_mapped : (b : Bool) → b ≡ true → not b ≡ false
not_mapped true is = refl
not_mapped false is = absurd (cc)

at_least : (origin at : ℕ) → at < origin + 1 → nat_lt origin at ≡ false
at_least origin at le = grind (arith, common_steps)

org_stands : (at : ℕ) → is_unmapped at ≡ true → fault_at at at [] (line_with (Origin at)) ≡ None
unfolding size_at
org_stands at unmapped = stands at (Origin at) (neither (nat_lt at at) (not (is_unmapped at)) (at_least at at (omega arith)) (not_mapped (is_unmapped at) unmapped)) (omega arith) refl

-- a statement of 4 bytes
moves_rightly : (at : ℕ) (item : Item) → is_unmapped at ≡ true → size_at at item ≡ 4 → moves_wrongly at at (Some item) ≡ false
unfolding size_at
moves_rightly at (Origin origin) unmapped size = neither (nat_lt origin at) (not (is_unmapped at)) (at_least origin at (omega (arith, size))) (not_mapped (is_unmapped at) unmapped)
moves_rightly at _ unmapped size = refl

not_false : (b : Bool) → b ≡ true → (true && not b) ≡ false
not_false true is = refl
not_false false is = absurd (cc)

is_aligned : (at : ℕ) → at % 4 ≡ 0 → (at % 4 == 0) ≡ true
is_aligned at is = grind (arith, common_steps)

well_placed : (at : ℕ) (item : Item) → at % 4 ≡ 0 → size_at at item ≡ 4 → is_misplaced at item ≡ false
unfolding size_at
well_placed at (Aligned None) aligned size = absurd (omega (arith, size))
well_placed at (Aligned (Some power)) aligned size = refl
well_placed at (Bytes bytes) aligned size = refl
well_placed at (Zeros count) aligned size = refl
well_placed at (Origin origin) aligned size = refl
well_placed at _ aligned size = not_false (at % 4 == 0) (is_aligned at aligned)

-- THE TWO LINES

abbrev two_lines : ℕ → Item → List Placed
two_lines at item = placed_at at (Ok (line_with (Origin at))) ∷ placed_at at (Ok (line_with item)) ∷ []

laid : (at : ℕ) (item : Item) → IsPlace at → size_at at item ≡ 4 → HasNoFault (layout_fault at (two_lines at item))
unfolding layout_fault
laid at item is size zero = org_stands at is.unmapped
laid at item is size (suc zero) = stands at item (moves_rightly at item is.unmapped size) (omega (arith, size)) (well_placed at item is.aligned size)
laid at item is size (suc (suc n)) = refl

coded : (at word : ℕ) (item : Item) → coded_at [] at item ≡ Given (bytes_of word) → HasNoFault (coding_fault [] (two_lines at item))
unfolding coding_fault coded_at
coded at word item is zero = refl
coded at word item is (suc zero) = ap reason_lacking is
coded at word item is (suc (suc n)) = refl

no_bytes : (count : ℕ) → count ≡ 0 → zeros_of count ≡ []
unfolding zeros_of
no_bytes count none = ap zeros_of none

org_bytes : (at : ℕ) → bytes_given (coded_at [] at (Origin at)) ≡ []
unfolding coded_at
org_bytes at = no_bytes (at - at) (omega arith)

word_bytes : (at word : ℕ) (item : Item) → coded_at [] at item ≡ Given (bytes_of word) → bytes_of_lines [] (two_lines at item) ≡ bytes_of word
word_bytes at word item is =
    ap (λ front. front ++ (bytes_given (coded_at [] at item) ++ [])) (org_bytes at)
    ∙ ap (λ given. bytes_given given ++ []) is

-- the image of these lines
two_assemble : (at word : ℕ) (item : Item) → IsPlace at → coded_at [] at item ≡ Given (bytes_of word) → assembled_all at (two_lines at item) ≡ Image at at (bytes_of word)
two_assemble at word item is given =
    let size : size_at at item ≡ 4 = given_length [] at (Some item) (bytes_of word) given in
    image_of_lines at (two_lines at item) (laid at item is size) (coded at word item given) ∙ ap (Image at at) (word_bytes at word item given)

-- THE SOURCE

two_placed : (at : ℕ) (item : Item) → placed at (Ok (line_with (Origin at)) ∷ Ok (line_with item) ∷ []) ≡ two_lines at item
unfolding size_at
two_placed at item =
    let next : at + (at - at) ≡ at = omega arith in
    ap (λ address. placed_at at (Ok (line_with (Origin at))) ∷ placed_at address (Ok (line_with item)) ∷ []) next

readings_assemble : (at : ℕ) (item : Item) → assembled_readings (Ok (line_with (Origin at)) ∷ Ok (line_with item) ∷ []) ≡ assembled_all at (two_lines at item)
unfolding base_of
readings_assemble at item = ap (assembled_all at) (two_placed at item)

below : (at : ℕ) → is_unmapped at ≡ true → at < 2 ^ 32
below at is = grind (arith, common_steps)

source_readings : (at word : ℕ) (text : List ℕ) → IsPlace at → IsLine text → (reads : ReadsAs text at word) → readings_of (source_at at text) ≡ Ok (line_with (Origin at)) ∷ Ok (line_with reads.item) ∷ []
source_readings at word text is line reads =
    let org : List ℕ = codes ".org " ++ hex_text at in
    ap (map read_line) (lines_of_first org text (joined (codes ".org ") (hex_text at) refl (hexadecimal_in_line at)) ∙ ap (λ rest. org ∷ rest) (lines_of_only text line.some line.in_one))
    ∙ ap (λ reading. reading ∷ read_line text ∷ []) (org_is_read at (below at is.unmapped))
    ∙ ap (λ reading. Ok (line_with (Origin at)) ∷ reading ∷ []) reads.is_read

text_assembles : (at word : ℕ) (text : List ℕ) → IsPlace at → IsLine text → ReadsAs text at word → AssemblesTo text at word
unfolding assembled
text_assembles at word text is line reads =
    ap assembled_readings (source_readings at word text is line reads) ∙ readings_assemble at reads.item ∙ two_assemble at word reads.item is (reads.is_word [])

-- what is printed of an instruction
pub printed_assembles : (inst : Inst) (at : ℕ) → IsInst inst → IsPlace at → AssemblesTo (text_of inst at) at (encoded inst)
printed_assembles inst at is_inst is = text_assembles at (encoded inst) (text_of inst at) is (printed_is_line inst at is_inst) (printed_is_read inst at is_inst (below at is.unmapped))

-- and of a reserved word
reserved_assembles : (word at : ℕ) → word < 2 ^ 32 → IsPlace at → AssemblesTo (codes ".word " ++ hex_text word) at word
reserved_assembles word at small is = text_assembles at word (codes ".word " ++ hex_text word) is (reserved_is_line word) (reserved_is_read word at small)

decoded_assembles : (word at : ℕ) (found : Option Inst) → word < 2 ^ 32 → IfSome found IsInst → IsPlace at → AssemblesTo (decoded_text word found at) at (word_kept word found)
decoded_assembles word at (Some inst) small is_inst is = printed_assembles inst at is_inst is
decoded_assembles word at None small is_inst is = reserved_assembles word at small is

-- so of every word
pub word_assembles : (word at : ℕ) → word < 2 ^ 32 → IsPlace at → AssemblesTo (word_text word at) at (word_kept word (decoded word))
word_assembles word at small is = decoded_assembles word at (decoded word) small (decoded_in_range word small) is
