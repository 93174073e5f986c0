-- A statement has as many bytes as its size says.
use Rattle.std.proofs.Common.{◌≡◌, ◌-◌, ◌*◌, ◌%◌, ◌^◌, ℕ, List, [], ◌∷◌, Option, Some, None, length, Result, Ok, Err, OnOk, refl, ap, sym, arith, subst, ◌+◌, length-append}
use Rattle.std.proofs.lemmas.List.{length-replicate}
use Rattle.flat_ram.specs.Bytes.{zeros_of}
use Rattle.mips3_table.specs.declared.instruction.Inst.{Inst}
use Rattle.mips_text.specs.declared.item.Item.{Item}
use Rattle.mips_text.specs.declared.item.Item.TheVariants.{Plain, BranchTo, JumpTo, LoadNumber, LoadLabel, Words, Bytes, Zeros, Origin, Aligned}
use Rattle.mips_text.specs.declared.item.Line.{Line}
use Rattle.mips_text.specs.Line.{Reading}
use Rattle.mips_text.specs.Coded.{padding_to, label_at, Coded, Given, Lacking, address_of, where_known, word_with, branch_to, jump_to, distance_to, word_number, loading, bytes_of_words, coded_at, coded_of}
use Rattle.mips_asm.specs.Layout.{size_at, size_of, size_read, placed_at}
use Rattle.mips_asm.specs.Assembly.{coded_line}
use Rattle.mips_asm.specs.Shown.{IsAppended, IsCoded}
use Rattle.mips_asm.specs.declared.coding.Stop.{Stop}

abbrev pub HasLength : Coded → ℕ → Type 0
HasLength (Given bytes) size = length bytes ≡ size
HasLength (Lacking reason) size = Unit {0}

where_known_length : (found : Option ℕ) (coded : ℕ → Coded) (size : ℕ) → ((address : ℕ) → HasLength (coded address) size) → HasLength (where_known found coded) size
where_known_length (Some address) coded size each = each address
where_known_length None coded size each = tt

word_length : (inst : Inst) (number : Option ℕ) → HasLength (word_with inst number) 4
word_length inst (Some number) = refl
word_length inst None = tt

branch_length : (inst : Inst) (at target : ℕ) → HasLength (branch_to inst at target) 4
unfolding branch_to
branch_length inst at target = word_length inst (distance_to at target)

jump_length : (inst : Inst) (at target : ℕ) → HasLength (jump_to inst at target) 4
unfolding jump_to
jump_length inst at target = word_length inst (word_number at target)

loading_length : (register number : ℕ) → length (loading register number) ≡ 8
unfolding loading
loading_length register number = refl

zeros_length : (count : ℕ) → length (zeros_of count) ≡ count
unfolding zeros_of
zeros_length count = length-replicate count 0

words_length : (words : List ℕ) → length (bytes_of_words words) ≡ 4 * length words
words_length [] = refl
words_length (word ∷ words) = let hyp : length (bytes_of_words words) ≡ 4 * length words = words_length words in omega arith

-- a statement puts as many bytes as its size says
item_length : (labels : List (List ℕ × ℕ)) (address : ℕ) (item : Item) → HasLength (coded_at labels address item) (size_at address item)
unfolding coded_at size_at
item_length labels address (Plain inst) = refl
item_length labels address (BranchTo inst target) = where_known_length (address_of labels target) (branch_to inst (address % 2 ^ 32)) 4 (branch_length inst (address % 2 ^ 32))
item_length labels address (JumpTo inst target) = where_known_length (address_of labels target) (jump_to inst (address % 2 ^ 32)) 4 (jump_length inst (address % 2 ^ 32))
item_length labels address (LoadNumber register number) = loading_length register number
item_length labels address (LoadLabel register name) = where_known_length (label_at labels name) (λ number. Given (loading register number)) 8 (loading_length register)
item_length labels address (Words words) = words_length words
item_length labels address (Bytes bytes) = refl
item_length labels address (Zeros count) = zeros_length count
item_length labels address (Origin origin) = zeros_length (origin - address)
item_length labels address (Aligned power) = zeros_length (padding_to power address)

line_length : (labels : List (List ℕ × ℕ)) (address : ℕ) (item : Option Item) → HasLength (coded_of labels address item) (size_of address item)
line_length labels address (Some item) = item_length labels address item
line_length labels address None = refl

pub given_length : (labels : List (List ℕ × ℕ)) (address : ℕ) (item : Option Item) (bytes : List ℕ) → coded_of labels address item ≡ Given bytes → size_of address item ≡ length bytes
given_length labels address item bytes is = sym (subst (λ coded. HasLength coded (size_of address item)) is (line_length labels address item))

-- so does a line
pub line_given : (labels : List (List ℕ × ℕ)) (address : ℕ) (reading : Reading) (bytes : List ℕ) → coded_line labels (placed_at address reading) ≡ Given bytes → length bytes ≡ size_read address reading
line_given labels address (Ok line) bytes is = sym (given_length labels address line.item bytes is)
line_given labels address (Err reason) bytes is = subst (λ coded. HasLength coded 0) is refl

-- so many bytes are appended
appended_size : (labels : List (List ℕ × ℕ)) (address : ℕ) (item : Option Item) (old new : List ℕ) (coded : Coded) → coded_of labels address item ≡ coded → IsAppended coded old new → length new ≡ length old + size_of address item
appended_size labels address item old new (Given more) given same = grind (arith, given_length labels address item more given, length-append old more, ap length same)
appended_size labels address item old new (Lacking reason) lacking none = absurd none

coded_size : (labels : List (List ℕ × ℕ)) (address : ℕ) (item : Option Item) (done : Result (Unit {0}) Stop) (old new : List ℕ) → IsCoded (coded_of labels address item) done old new → OnOk done (length new ≡ length old + size_of address item)
coded_size labels address item (Ok done) old new appended = appended_size labels address item old new (coded_of labels address item) refl appended
coded_size labels address item (Err stop) old new lacking = tt

-- the same of the statement of a line
pub line_size : (labels : List (List ℕ × ℕ)) (address : ℕ) (reading : Reading) (said : Line) (item : Item) (done : Result (Unit {0}) Stop) (old new : List ℕ) → Ok said ≡ reading → said.item ≡ Some item → IsCoded (coded_at labels address item) done old new → OnOk done (length new ≡ length old + size_read address reading)
line_size labels address reading said item done old new read is coded =
    subst (λ one. OnOk done (length new ≡ length old + size_read address one)) read
    (coded_size labels address said.item done old new (subst (λ one. IsCoded (coded_of labels address one) done old new) (sym is) coded))
