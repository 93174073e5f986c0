-- The fields of an instruction word, and which of them a form of operands uses.
-- Source: MIPS R4000 Microprocessor User's Manual, 2nd edition (Heinrich), appendix A, "Instruction Formats".
use Rattle.std.specs.Prelude.{ℕ, ◌≤◌, ◌+◌, ◌-◌, ◌/◌, ◌%◌, ◌^◌}
use Rattle.mips3_table.specs.declared.operand_forms.Widths.{Widths}
use Rattle.mips3_table.specs.declared.operand_forms.Form.{Form}
use Rattle.mips3_table.specs.declared.operand_forms.Form.TheVariants.{Target, CompareBranch, ZeroBranch, SignedImmediate, UnsignedImmediate, UpperImmediate, Memory, CacheOperation, CoprocessorNumber, CoprocessorMemory, Shift, ShiftByRegister, Source, JumpAndLinkRegister, Code, NoOperands, Destination, TwoSources, ThreeRegisters, TrapRegisters, TrapImmediate, Cp0Move}

-- the widths of a form's fields, and the lowest bit of its number
abbrev pub widths : ℕ → ℕ → ℕ → ℕ → ℕ → ℕ → Widths
widths rs rt rd sa number number_at = record { rs = rs; rt = rt; rd = rd; sa = sa; number = number; number_at = number_at }

-- the lowest bit of each field of 5 bits
abbrev pub rs_at : ℕ
rs_at = 21

abbrev pub rt_at : ℕ
rt_at = 16

abbrev pub rd_at : ℕ
rd_at = 11

abbrev pub sa_at : ℕ
sa_at = 6

-- The widths of the 22 forms: rs, rt, rd, sa, then the number and its lowest bit.
abbrev pub widths_of : Form → Widths
widths_of Target = widths 0 0 0 0 26 0
widths_of CompareBranch = widths 5 5 0 0 16 0
widths_of ZeroBranch = widths 5 0 0 0 16 0
widths_of SignedImmediate = widths 5 5 0 0 16 0
widths_of UnsignedImmediate = widths 5 5 0 0 16 0
widths_of UpperImmediate = widths 0 5 0 0 16 0
widths_of Memory = widths 5 5 0 0 16 0
widths_of CacheOperation = widths 5 5 0 0 16 0
widths_of CoprocessorNumber = widths 0 0 0 0 26 0
widths_of CoprocessorMemory = widths 5 5 0 0 16 0
widths_of Shift = widths 0 5 5 5 0 0
widths_of ShiftByRegister = widths 5 5 5 0 0 0
widths_of Source = widths 5 0 0 0 0 0
widths_of JumpAndLinkRegister = widths 5 0 5 0 0 0
widths_of Code = widths 0 0 0 0 20 6
widths_of NoOperands = widths 0 0 0 0 0 0
widths_of Destination = widths 0 0 5 0 0 0
widths_of TwoSources = widths 5 5 0 0 0 0
widths_of ThreeRegisters = widths 5 5 5 0 0 0
widths_of TrapRegisters = widths 5 5 0 0 10 6
widths_of TrapImmediate = widths 5 0 0 0 16 0
widths_of Cp0Move = widths 0 5 5 0 0 0

-- a field has at most 5 bits, and the number lies in the low 26 of a word
pub record AreSmall (w : Widths) : Type 0 where
  pub rs : w.rs ≤ 5
  pub rt : w.rt ≤ 5
  pub rd : w.rd ≤ 5
  pub sa : w.sa ≤ 5
  pub number : w.number_at + w.number ≤ 26

-- what stands in the bits of a word from low up, so many of them: 0 where there are none
abbrev pub bits_of : ℕ → ℕ → ℕ → ℕ
bits_of word low width = word / 2 ^ low % 2 ^ width

-- the bits from low up, so many of them, set
abbrev pub ones : ℕ → ℕ → ℕ
ones low width = 2 ^ (width + low) - 2 ^ low

-- the bits of the fields that a form uses
abbrev pub operand_bits : Widths → ℕ
operand_bits w = ones rs_at w.rs + ones rt_at w.rt + ones rd_at w.rd + ones sa_at w.sa + ones w.number_at w.number
