-- An instruction of the table: a row, and fields in range for the row's form.
-- Source: MIPS R4000 Microprocessor User's Manual, 2nd edition (Heinrich), appendix A, "Instruction Formats".
use Rattle.std.specs.Prelude.{◌<◌, ◌^◌, ℕ}
use Rattle.mips3_table.specs.declared.instruction.Inst.{Inst}
use Rattle.mips3_table.specs.declared.operand_forms.Widths.{Widths}
use Rattle.mips3_table.specs.Operands.{widths_of}
use Rattle.mips3_table.specs.Rows.{row_at}

-- the widths of the fields of a row's form
abbrev pub widths_at : ℕ → Widths
widths_at number = widths_of (row_at number).form

-- each field of an instruction fits its width: one that is not used, and whose width is 0, is 0
pub record FitsWidths (w : Widths) (inst : Inst) : Type 0 where
  pub rs : inst.rs < 2 ^ w.rs
  pub rt : inst.rt < 2 ^ w.rt
  pub rd : inst.rd < 2 ^ w.rd
  pub sa : inst.sa < 2 ^ w.sa
  pub imm : inst.imm < 2 ^ w.number

-- An instruction is one of the table: its row is, and its fields are in range for the row's form.
pub record IsInst (inst : Inst) : Type 0 where
  pub row : inst.row < 129
  pub fields : FitsWidths (widths_at inst.row) inst
