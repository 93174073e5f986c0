-- What holds of the fields of an instruction, whatever its row: a register's field is below 32, and the number fits 26
-- bits.
use Rattle.std.proofs.Common.{◌^◌, ◌<◌, ◌≤◌, ℕ, arith}
use Rattle.std.proofs.Math.Pow.{pow_mono}
use Rattle.mips3_table.specs.declared.operand_forms.Form.{Form}
use Rattle.mips3_table.specs.declared.operand_forms.Form.TheVariants.{Target}
use Rattle.mips3_table.specs.declared.instruction.Inst.{Inst}
use Rattle.mips3_table.specs.Operands.{AreSmall, widths_of}
use Rattle.mips3_table.specs.Rows.{row_at}
use Rattle.mips3_table.specs.Instructions.{IsInst}

pub small_widths : (form : Form) → AreSmall (widths_of form)
small_widths Target = record { rs = omega arith; rt = omega arith; rd = omega arith; sa = omega arith; number = omega arith }
small_widths _ = record { rs = omega arith; rt = omega arith; rd = omega arith; sa = omega arith; number = omega arith }

-- a number below a power is below each larger one
below_power : (value width most : ℕ) → value < 2 ^ width → width ≤ most → value < 2 ^ most
below_power value width most fits within = let larger : 2 ^ width ≤ 2 ^ most = pow_mono within in omega arith

pub rs_below : (inst : Inst) → IsInst inst → inst.rs < 32
rs_below inst is_inst = below_power _ _ 5 is_inst.fields.rs (small_widths (row_at inst.row).form).rs

pub rt_below : (inst : Inst) → IsInst inst → inst.rt < 32
rt_below inst is_inst = below_power _ _ 5 is_inst.fields.rt (small_widths (row_at inst.row).form).rt

pub rd_below : (inst : Inst) → IsInst inst → inst.rd < 32
rd_below inst is_inst = below_power _ _ 5 is_inst.fields.rd (small_widths (row_at inst.row).form).rd

pub sa_below : (inst : Inst) → IsInst inst → inst.sa < 32
sa_below inst is_inst = below_power _ _ 5 is_inst.fields.sa (small_widths (row_at inst.row).form).sa

pub imm_below : (inst : Inst) → IsInst inst → inst.imm < 2 ^ 26
imm_below inst is_inst = let small = (small_widths (row_at inst.row).form).number in below_power _ _ 26 is_inst.fields.imm (omega arith)
