-- Decoding and encoding undo each other: the bits of a row's class, its fields and its unused bits share none, and are
-- all of a word. That is a test on each row, computed over the table.
use Rattle.std.proofs.Common.{◌≡◌, ◌==◌, ◌&&◌, ℕ, ◌+◌, ◌-◌, ◌*◌, ◌/◌, ◌^◌, ◌<◌, Bool, true, List, [], ◌∷◌, Option, Some, None, length, bit_and, slice_index_or, refl, sym, ap, ◌∙◌, arith}
use Rattle.std.proofs.Common.{IsNone, IfSome, ◌↔◌}
use Rattle.std.specs.List.{list_all}
use Rattle.std.proofs.lemmas.Bool.{and_parts, eqb-true}
use Rattle.std.proofs.lemmas.Nat.{pow_pos}
use Rattle.std.proofs.lemmas.Nat.Bits.{and_high}
use Rattle.std.proofs.Math.Nat.{mod-lt}
use Rattle.mips3_table.specs.declared.instruction.Inst.{Inst}
use Rattle.mips3_table.specs.declared.operand_forms.Widths.{Widths}
use Rattle.mips3_table.specs.Operands.{widths_of, bits_of, ones, rs_at, rt_at, rd_at, sa_at}
use Rattle.mips3_table.specs.Rows.{Row, rows, row_at, no_row}
use Rattle.mips3_table.specs.Matching.{row_of}
use Rattle.mips3_table.specs.Instructions.{widths_at, FitsWidths, IsInst}
use Rattle.mips3_table.proofs.Apart.{each_at, rows_count, row_of_match, match_of_row}
use Rattle.mips3_code.specs.Coding.{fields_by, fields_of, with_fields, decoded, placed_by, encoded, unused_bits, HasNoUnused}
use Rattle.mips3_code.proofs.Parts.{Part, no_part, total, Laid, disjoint, laid_from, part_read, field_within, field_read, whole, read_in, word_read}

-- the bits of a word by a row: unused, the fields, the row's own
abbrev pub bits_by : Row → List ℕ
bits_by row =
    let w = widths_of row.form in
    unused_bits row ∷ ones w.number_at w.number ∷ ones sa_at w.sa ∷ ones rd_at w.rd ∷ ones rt_at w.rt ∷ ones rs_at w.rs ∷ row.mask ∷ []

unfoldable pub is_laid_out : Row → Bool
is_laid_out row = disjoint (bits_by row) && ((total (whole (bits_by row)) == 2 ^ 32 - 1) && (bit_and row.match row.mask == row.match))

pub rows_laid_out : list_all is_laid_out rows ≡ true
unfolding rows is_laid_out
rows_laid_out = refl

-- what the test says of a row
pub record IsLaidOut (row : Row) : Type 0 where
  pub apart : disjoint (bits_by row) ≡ true
  pub all : total (whole (bits_by row)) ≡ 2 ^ 32 - 1
  pub own : bit_and row.match row.mask ≡ row.match

pub laid_out : (row : Row) → is_laid_out row ≡ true → IsLaidOut row
unfolding is_laid_out
laid_out row test =
    let first = and_parts (disjoint (bits_by row)) _ test in
    let second = and_parts (total (whole (bits_by row)) == 2 ^ 32 - 1) _ first.1 in
    record { apart = first.0; all = eqb-true _ _ second.0; own = eqb-true _ _ second.1 }

pub row_laid_out : (number : ℕ) → number < 129 → IsLaidOut (row_at number)
unfolding row_at
row_laid_out number is_row =
    let within : number < length rows = rw rows_count is_row in
    laid_out (slice_index_or rows number no_row) (each_at is_laid_out rows number rows_laid_out within)

-- an instruction's word in parts
abbrev pub field_part : ℕ → ℕ → ℕ → Part
field_part low width value = record { bits = value * 2 ^ low; mask = ones low width }

abbrev pub parts_by : Row → Inst → List Part
parts_by row inst =
    let w = widths_of row.form in
    record { bits = 0; mask = unused_bits row } ∷ field_part w.number_at w.number inst.imm ∷ field_part sa_at w.sa inst.sa ∷ field_part rd_at w.rd inst.rd
    ∷ field_part rt_at w.rt inst.rt ∷ field_part rs_at w.rs inst.rs ∷ record { bits = row.match; mask = row.mask } ∷ []

abbrev pub word_by : Row → Inst → ℕ
word_by row inst = row.match + placed_by (widths_of row.form) inst

pub total_parts : (row : Row) (inst : Inst) → total (parts_by row inst) ≡ word_by row inst
total_parts row inst = omega arith

pub parts_laid : (row : Row) (inst : Inst) → IsLaidOut row → FitsWidths (widths_of row.form) inst → Laid (parts_by row inst)
parts_laid row inst out fits =
    let w = widths_of row.form in
    laid_from (parts_by row inst) out.apart (
      refl,
      (
        field_within w.number_at w.number inst.imm fits.imm,
        (
          field_within sa_at w.sa inst.sa fits.sa,
          (
            field_within rd_at w.rd inst.rd fits.rd,
            (field_within rt_at w.rt inst.rt fits.rt, (field_within rs_at w.rs inst.rs fits.rs, (out.own, tt))),
          ),
        ),
      ),
    )

-- what stands in a part's bits of an instruction's word is the part
pub word_part : (row : Row) (inst : Inst) (at : ℕ) → IsLaidOut row → FitsWidths (widths_of row.form) inst → at < 7 →
    bit_and (word_by row inst) (slice_index_or (parts_by row inst) at no_part).mask ≡ (slice_index_or (parts_by row inst) at no_part).bits
word_part row inst at out fits within =
    ap (λ n. bit_and n (slice_index_or (parts_by row inst) at no_part).mask) (sym (total_parts row inst))
    ∙ part_read (parts_by row inst) at (parts_laid row inst out fits) within

-- so its fields are the instruction's
pub fields_back : (row : Row) (inst : Inst) → IsLaidOut row → FitsWidths (widths_of row.form) inst → fields_by (widths_of row.form) inst.row (word_by row inst) ≡ inst
fields_back row inst out fits =
    let w = widths_of row.form in
    let word = word_by row inst in
    let imm : bits_of word w.number_at w.number ≡ inst.imm = field_read word w.number_at w.number inst.imm fits.imm (word_part row inst 1 out fits (omega arith)) in
    let sa : bits_of word sa_at w.sa ≡ inst.sa = field_read word sa_at w.sa inst.sa fits.sa (word_part row inst 2 out fits (omega arith)) in
    let rd : bits_of word rd_at w.rd ≡ inst.rd = field_read word rd_at w.rd inst.rd fits.rd (word_part row inst 3 out fits (omega arith)) in
    let rt : bits_of word rt_at w.rt ≡ inst.rt = field_read word rt_at w.rt inst.rt fits.rt (word_part row inst 4 out fits (omega arith)) in
    let rs : bits_of word rs_at w.rs ≡ inst.rs = field_read word rs_at w.rs inst.rs fits.rs (word_part row inst 5 out fits (omega arith)) in
    ap (λ x. let r : Inst = record { row = inst.row; rs = x; rt = bits_of word rt_at w.rt; rd = bits_of word rd_at w.rd; sa = bits_of word sa_at w.sa; imm = bits_of word w.number_at w.number } in r) rs
    ∙ ap (λ x. let r : Inst = record { row = inst.row; rs = inst.rs; rt = x; rd = bits_of word rd_at w.rd; sa = bits_of word sa_at w.sa; imm = bits_of word w.number_at w.number } in r) rt
    ∙ ap (λ x. let r : Inst = record { row = inst.row; rs = inst.rs; rt = inst.rt; rd = x; sa = bits_of word sa_at w.sa; imm = bits_of word w.number_at w.number } in r) rd
    ∙ ap (λ x. let r : Inst = record { row = inst.row; rs = inst.rs; rt = inst.rt; rd = inst.rd; sa = x; imm = bits_of word w.number_at w.number } in r) sa
    ∙ ap (λ x. let r : Inst = record { row = inst.row; rs = inst.rs; rt = inst.rt; rd = inst.rd; sa = inst.sa; imm = x } in r) imm

-- an instruction's word is of its row
pub encoded_row : (inst : Inst) → IsInst inst → row_of (encoded inst) ≡ Some inst.row
unfolding encoded
encoded_row inst is_inst =
    row_of_match (encoded inst) inst.row
    (record { is_row = is_inst.row; is_match = word_part (row_at inst.row) inst 6 (row_laid_out inst.row is_inst.row) is_inst.fields (omega arith) })

-- decoding undoes encoding
pub decoded_encoded : (inst : Inst) → IsInst inst → decoded (encoded inst) ≡ Some inst
unfolding decoded encoded
decoded_encoded inst is_inst =
    ap (with_fields (encoded inst)) (encoded_row inst is_inst) ∙ ap Some (fields_back (row_at inst.row) inst (row_laid_out inst.row is_inst.row) is_inst.fields)

-- the unused bits of an instruction's word are zero
pub encoded_unused : (inst : Inst) → IsInst inst → HasNoUnused (encoded inst) inst.row
unfolding encoded
encoded_unused inst is_inst = word_part (row_at inst.row) inst 0 (row_laid_out inst.row is_inst.row) is_inst.fields (omega arith)

-- the fields of a word are in range
pub bits_fit : (word low width : ℕ) → bits_of word low width < 2 ^ width
bits_fit word low width = mod-lt (word / 2 ^ low) (pow_pos width)

pub fields_fit : (w : Widths) (number word : ℕ) → FitsWidths w (fields_by w number word)
fields_fit w number word = record {
  rs = bits_fit word rs_at w.rs;
  rt = bits_fit word rt_at w.rt;
  rd = bits_fit word rd_at w.rd;
  sa = bits_fit word sa_at w.sa;
  imm = bits_fit word w.number_at w.number;
}

-- encoding undoes decoding, where the unused bits are zero
pub word_back : (row : Row) (word number : ℕ) → IsLaidOut row → word < 2 ^ 32 → bit_and word row.mask ≡ row.match → bit_and word (unused_bits row) ≡ 0 →
    word_by row (fields_by (widths_of row.form) number word) ≡ word
word_back row word number out small own unused =
    let w = widths_of row.form in
    let split : total (read_in word (bits_by row)) ≡ word = word_read word (bits_by row) small out.apart out.all in
    let imm = and_high word w.number w.number_at in
    let sa = and_high word w.sa sa_at in
    let rd = and_high word w.rd rd_at in
    let rt = and_high word w.rt rt_at in
    let rs = and_high word w.rs rs_at in
    omega (arith, split, own, unused, imm, sa, rd, rt, rs)

pub record IsBack (word number : ℕ) : Type 0 where
  pub is_inst : IsInst (fields_of word number)
  pub encoded_back : HasNoUnused word number → encoded (fields_of word number) ≡ word

pub fields_are_back : (word number : ℕ) → word < 2 ^ 32 → row_of word ≡ Some number → IsBack word number
unfolding encoded
fields_are_back word number small found =
    let is_row = match_of_row word number found in
    record {
      is_inst = record { row = is_row.is_row; fields = fields_fit (widths_at number) number word };
      encoded_back = λ unused. word_back (row_at number) word number (row_laid_out number is_row.is_row) small is_row.is_match unused;
    }

-- what is said of a word's row, said of the word's instruction
pub with_fields_none : (word : ℕ) (row : Option ℕ) → IsNone (with_fields word row) ↔ IsNone row
with_fields_none word None = (λ none. none, λ none. none)
with_fields_none word (Some number) = (λ none. none, λ none. none)

pub with_fields_in_range : (word : ℕ) (row : Option ℕ) → word < 2 ^ 32 → row_of word ≡ row → IfSome (with_fields word row) IsInst
with_fields_in_range word None small found = tt
with_fields_in_range word (Some number) small found = (fields_are_back word number small found).is_inst

pub with_fields_encoded : (word : ℕ) (row : Option ℕ) → word < 2 ^ 32 → row_of word ≡ row →
    IfSome (with_fields word row) (λ inst. HasNoUnused word inst.row → encoded inst ≡ word)
with_fields_encoded word None small found = tt
with_fields_encoded word (Some number) small found = (fields_are_back word number small found).encoded_back

pub decoded_none : (word : ℕ) → IsNone (decoded word) ↔ IsNone (row_of word)
unfolding decoded
decoded_none word = with_fields_none word (row_of word)

pub decoded_in_range : (word : ℕ) → word < 2 ^ 32 → IfSome (decoded word) IsInst
unfolding decoded
decoded_in_range word small = with_fields_in_range word (row_of word) small refl

pub decoded_encoded_back : (word : ℕ) → word < 2 ^ 32 → IfSome (decoded word) (λ inst. HasNoUnused word inst.row → encoded inst ≡ word)
unfolding decoded
decoded_encoded_back word small = with_fields_encoded word (row_of word) small refl
