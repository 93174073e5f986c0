-- An instruction whose fields have the widths of its row can be coded with any number that its target needs.
use Rattle.std.proofs.Common.{◌≡◌, ◌<◌, ◌^◌, ℕ, [], ◌∷◌, ap, sym, subst, arith}
use Rattle.mips3_table.specs.declared.instruction.Inst.{Inst}
use Rattle.mips3_table.specs.declared.operand_forms.Form.{Form}
use Rattle.mips3_table.specs.declared.operand_forms.Form.TheVariants as form
use Rattle.mips3_table.specs.declared.operand_forms.Widths.{Widths}
use Rattle.mips3_table.specs.Operands.{widths_of}
use Rattle.mips3_table.specs.Instructions.{IsInst, FitsWidths, widths_at}
use Rattle.mips3_table.specs.Rows.{rows, row_at}
use Rattle.mips_text.specs.declared.operand.Operand.TheVariants.{BranchTarget}
use Rattle.mips_text.specs.Forms.{operands_of}
use Rattle.mips_asm.specs.Shown.{IsSoundBy}
use Rattle.mips_text.specs.Line.{bare, beq_row}
use Rattle.mips_asm.proofs.NamedRows.{beq_is}

-- an instruction whose fields have the widths of its row's form is one of the table, and is so with another number
is_inst : (w : Widths) (inst : Inst) → inst.row < 129 → w ≡ widths_at inst.row → FitsWidths w inst → IsInst inst
is_inst w inst row same fits = record { row = row; fields = subst (λ v. FitsWidths v inst) same fits }

with_number : (w : Widths) (inst : Inst) (number : ℕ) → inst.row < 129 → w ≡ widths_at inst.row → FitsWidths w inst → number < 2 ^ w.number → IsInst (record inst { imm = number })
with_number w inst number row same fits lt = is_inst w (record inst { imm = number }) row same (record { rs = fits.rs; rt = fits.rt; rd = fits.rd; sa = fits.sa; imm = lt })

-- so it can be coded with the operands of the form
sound_by_form : (one : Form) (inst : Inst) → inst.row < 129 → widths_of one ≡ widths_at inst.row → FitsWidths (widths_of one) inst → IsSoundBy (operands_of one) inst
sound_by_form form.Target inst row same fits = (λ number lt. with_number (widths_of form.Target) inst number row same fits lt, is_inst (widths_of form.Target) inst row same fits)
sound_by_form form.CompareBranch inst row same fits = (λ number lt. with_number (widths_of form.CompareBranch) inst number row same fits lt, is_inst (widths_of form.CompareBranch) inst row same fits)
sound_by_form form.ZeroBranch inst row same fits = (λ number lt. with_number (widths_of form.ZeroBranch) inst number row same fits lt, is_inst (widths_of form.ZeroBranch) inst row same fits)
sound_by_form one inst row same fits = is_inst (widths_of one) inst row same fits

pub sound_by_operands : (row : ℕ) (inst : Inst) → row < 129 → inst.row ≡ row → FitsWidths (widths_at row) inst → IsSoundBy (operands_of (row_at row).form) inst
sound_by_operands row inst lt same fits = sound_by_form (row_at row).form inst (omega arith) (ap widths_at (sym same)) fits

beq_is_sound_there : IsSoundBy (BranchTarget ∷ []) (bare 2)
unfolding row_at rows
beq_is_sound_there = (
  λ number lt. record { row = omega arith; fields = record { rs = omega arith; rt = omega arith; rd = omega arith; sa = omega arith; imm = lt } },
  record { row = omega arith; fields = record { rs = omega arith; rt = omega arith; rd = omega arith; sa = omega arith; imm = omega arith } },
)

pub beq_is_sound : IsSoundBy (BranchTarget ∷ []) (bare beq_row)
beq_is_sound = subst (λ row. IsSoundBy (BranchTarget ∷ []) (bare row)) (sym beq_is) beq_is_sound_there
