-- The bytes that a statement puts at an address, or the reason for which it has none.
-- Source: MIPS R4000 Microprocessor User's Manual, 2nd edition (Heinrich), appendix A, for the targets of branches and
-- jumps; the further statements and the directives are this project's own.
use Rattle.std.specs.Prelude.{ℕ, Bool, ◌-◌, ◌/◌, ◌%◌, ◌^◌, ◌==◌, if◌then◌else◌, List, [], ◌∷◌, ◌++◌, Option, Some, None, bytes_eq}
use Rattle.flat_ram.specs.Bytes.{bytes_of, zeros_of}
use Rattle.mips3_table.specs.declared.instruction.Inst.{Inst}
use Rattle.mips3_code.specs.Coding.{encoded}
use Rattle.mips_text.specs.declared.reason.AsmWhy.{AsmWhy}
use Rattle.mips_text.specs.declared.reason.AsmWhy.TheVariants as why
use Rattle.mips3_code.specs.Targets.{branch_target, jump_target}
use Rattle.mips_text.specs.Least.{least}
use Rattle.mips_text.specs.declared.item.Target.{Target}
use Rattle.mips_text.specs.declared.item.Target.TheVariants.{Address, Label}
use Rattle.mips_text.specs.declared.item.Item.{Item}
use Rattle.mips_text.specs.declared.item.Item.TheVariants.{Plain, BranchTo, JumpTo, LoadNumber, LoadLabel, Words, Bytes, Zeros, Origin, Aligned}
use Rattle.mips_text.specs.Line.{bare, lui_row, ori_row}

-- the bytes of a statement, or the reason for which it has none
pub data Coded : Type 0 where
  Given : List ℕ → Coded
  Lacking : AsmWhy → Coded

-- a number, where it passes a test
abbrev pub passing : (ℕ → Bool) → ℕ → Option ℕ
passing test n = if test n then Some n else None

-- the number of 16 bits by which a branch at an address goes to a target, if it can
unfoldable pub distance_to : ℕ → ℕ → Option ℕ
distance_to at target = least (passing (λ distance. branch_target at distance == target)) (2 ^ 16)

-- the number of 26 bits by which a jump at an address goes to a target, if it can
unfoldable pub word_number : ℕ → ℕ → Option ℕ
word_number at target = least (passing (λ number. jump_target at number == target)) (2 ^ 26)

-- the bytes of an instruction
abbrev pub word_of : Inst → Coded
word_of inst = Given (bytes_of (encoded inst))

-- the bytes of an instruction with the number that reaches its target, if one does
abbrev pub word_with : Inst → Option ℕ → Coded
word_with inst (Some number) = word_of (record inst { imm = number })
word_with inst None = Lacking why.Range

-- a branch to an address, at a place of 32 bits
unfoldable pub branch_to : Inst → ℕ → ℕ → Coded
branch_to inst at target = word_with inst (distance_to at target)

-- a jump to one
unfoldable pub jump_to : Inst → ℕ → ℕ → Coded
jump_to inst at target = word_with inst (word_number at target)

-- the address of a label, by the first pair that has its name
abbrev pub label_at : List (List ℕ × ℕ) → List ℕ → Option ℕ
label_at [] name = None
label_at (pair ∷ labels) name = if bytes_eq name pair.0 then Some pair.1 else label_at labels name

-- the address of a target: a label's is among the labels
abbrev pub address_of : List (List ℕ × ℕ) → Target → Option ℕ
address_of labels (Address address) = Some address
address_of labels (Label name) = label_at labels name

-- what goes to an address, where it is known
abbrev pub where_known : Option ℕ → (ℕ → Coded) → Coded
where_known (Some address) coded = coded address
where_known None coded = Lacking why.NoLabel

-- lui and ori, which load a register with a number of 32 bits
unfoldable pub loading : ℕ → ℕ → List ℕ
loading register number =
    bytes_of (encoded (record (bare lui_row) { rt = register; imm = number / 2 ^ 16 % 2 ^ 16 }))
    ++ bytes_of (encoded (record (bare ori_row) { rs = register; rt = register; imm = number % 2 ^ 16 }))

-- the bytes of words, one after another
abbrev pub bytes_of_words : List ℕ → List ℕ
bytes_of_words [] = []
bytes_of_words (word ∷ words) = bytes_of word ++ bytes_of_words words

-- how many zeros lead from an address to a multiple of this power of two
abbrev pub padding : ℕ → ℕ → ℕ
padding power address = (2 ^ power - address % 2 ^ power) % 2 ^ power

-- the same of an alignment, if there is one
abbrev pub padding_to : Option ℕ → ℕ → ℕ
padding_to (Some power) address = padding power address
padding_to None address = 0

-- The bytes of a statement at an address, with all labels known. Branches and jumps go from an address of 32 bits.
unfoldable pub coded_at : List (List ℕ × ℕ) → ℕ → Item → Coded
coded_at labels address (Plain inst) = word_of inst
coded_at labels address (BranchTo inst target) = where_known (address_of labels target) (branch_to inst (address % 2 ^ 32))
coded_at labels address (JumpTo inst target) = where_known (address_of labels target) (jump_to inst (address % 2 ^ 32))
coded_at labels address (LoadNumber register number) = Given (loading register number)
coded_at labels address (LoadLabel register name) = where_known (label_at labels name) (λ number. Given (loading register number))
coded_at labels address (Words words) = Given (bytes_of_words words)
coded_at labels address (Bytes bytes) = Given bytes
coded_at labels address (Zeros count) = Given (zeros_of count)
coded_at labels address (Origin origin) = Given (zeros_of (origin - address))
coded_at labels address (Aligned power) = Given (zeros_of (padding_to power address))

-- the bytes of a line, if it has a statement
abbrev pub coded_of : List (List ℕ × ℕ) → ℕ → Option Item → Coded
coded_of labels address None = Given []
coded_of labels address (Some item) = coded_at labels address item
