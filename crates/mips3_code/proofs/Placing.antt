-- A field put at its place stays within the word.
use Rattle.std.proofs.Common.{◌≡◌, ℕ, ◌*◌, ◌%◌, ◌^◌, ◌<◌, ◌≤◌, arith}
use Rattle.mips3_table.specs.declared.operand_forms.Form.{Form}
use Rattle.mips3_table.specs.declared.operand_forms.Form.TheVariants.{Target}
use Rattle.mips3_table.specs.declared.instruction.Inst.{Inst}
use Rattle.mips3_table.specs.declared.operand_forms.Widths.{Widths}
use Rattle.mips3_table.specs.Operands.{widths_of}
use Rattle.mips3_table.specs.Instructions.{FitsWidths}
use Rattle.mips3_code.specs.Coding.{placed_by}
use Rattle.std.proofs.Math.Pow.{pow_mono}
use Rattle.std.proofs.Math.Nat.{mod-eq_of_lt, mul-le-mul}

pub shifted_field : (field low : ℕ) → field < 32 → low ≤ 21 → field * 2 ^ low % 2 ^ 32 ≡ field * 2 ^ low
shifted_field field low small within =
    let fits : field ≤ 31 = omega arith in
    let most : field * 2 ^ low ≤ 31 * 2 ^ 21 = mul-le-mul fits (pow_mono within) in
    mod-eq_of_lt (omega arith)

-- an instruction's fields, each at its place, lie below the opcode; so does each alone, and a register's field is below 32
pub record Below (inst : Inst) (w : Widths) : Type 0 where
  pub all : placed_by w inst < 2 ^ 26
  pub rs : inst.rs < 32
  pub rt : inst.rt < 32
  pub rd : inst.rd < 32
  pub sa : inst.sa < 32

pub placed_below : (form : Form) (inst : Inst) → FitsWidths (widths_of form) inst → Below inst (widths_of form)
placed_below Target inst fits = let rs = fits.rs in let rt = fits.rt in let rd = fits.rd in let sa = fits.sa in let imm = fits.imm in record { all = omega arith; rs = omega arith; rt = omega arith; rd = omega arith; sa = omega arith }
placed_below _ inst fits = let rs = fits.rs in let rt = fits.rt in let rd = fits.rd in let sa = fits.sa in let imm = fits.imm in record { all = omega arith; rs = omega arith; rt = omega arith; rd = omega arith; sa = omega arith }
