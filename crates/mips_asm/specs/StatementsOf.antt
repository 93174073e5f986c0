-- What holds of each statement that a name tells, of each token that a statement expects, and of the values that are read.
use Rattle.std.specs.Prelude.{ℕ, ℤ, pos, negsuc, ◌-◌, ◌%◌, ◌^◌, ◌≡◌, ◌<◌, ◌≤◌, Bool, true, false, List, ◌++◌, Option, Some, None}
use Rattle.mips_text.specs.declared.operand.Field.{Field}
use Rattle.mips_text.specs.declared.operand.Field.TheVariants.{Imm}
use Rattle.mips_text.specs.declared.operand.Range.{Range}
use Rattle.mips_text.specs.declared.operand.Range.TheVariants.{Unsigned, WithSign, EitherSign}
use Rattle.mips_text.specs.declared.operand.Expected.{Expected}
use Rattle.mips_text.specs.declared.operand.Expected.TheVariants.{ANumber}
use Rattle.mips_text.specs.declared.statement.Statement.{Statement}
use Rattle.mips_text.specs.declared.statement.Statement.TheVariants.{Instruction}
use Rattle.mips_text.specs.Forms.{width_of}

-- the row of an instruction is one of the table
abbrev pub IsStatement : Statement → Type 0
IsStatement (Instruction row) = row < 129
IsStatement found = Unit {0}

-- a range has 32 bits at most, and one with a sign has one at least
abbrev pub IsNarrow : Range → Type 0
IsNarrow (Unsigned width) = width ≤ 32
IsNarrow (WithSign width) = (0 < width) × (width ≤ 32)
IsNarrow (EitherSign width) = (0 < width) × (width ≤ 32)

-- so many bits are the bits of a field, or fewer: every field but the number has 5
abbrev pub FitsField : Field → ℕ → Type 0
FitsField Imm bits = Unit {0}
FitsField field bits = bits ≤ 5

-- an expected number has few enough bits for its field
abbrev pub IsNarrowAt : Expected → Type 0
IsNarrowAt (ANumber field range) = IsNarrow range × FitsField field (width_of range)
IsNarrowAt expected = Unit {0}

-- a value of a field has the field's bits
abbrev pub IsOfField : Field → ℕ → Type 0
IsOfField Imm value = Unit {0}
IsOfField field value = value < 32

-- the numbers that were to be put, if there are any, were put after others
abbrev pub ArePut : Option (List ℕ) → Bool → List ℕ → List ℕ → Type 0
ArePut (Some numbers) true old new = new ≡ old ++ numbers
ArePut (Some numbers) false old new = ⊥
ArePut None true old new = ⊥
ArePut None false old new = Unit {0}

-- so many low bits of a number in two's complement
abbrev pub low_bits_of : ℕ → ℤ → ℕ
low_bits_of width (pos n) = n % 2 ^ width
low_bits_of width (negsuc n) = 2 ^ width - 1 - n % 2 ^ width
