use Rattle.std.proofs.Common.{◌≡◌, [], ◌∷◌, length, subst, ap, sym, ◌∙◌}
use Rattle.mips3_table.specs.declared.instruction.Inst.{Inst}
use Rattle.mips_text.specs.declared.operand.Operand.TheVariants.{BranchTarget}
use Rattle.mips_asm.specs.Shown.{IsSoundBy}
use Rattle.mips_text.specs.declared.statement.Statement.TheVariants.{Move}
use Rattle.mips_text.specs.Forms.{shape_of}
use Rattle.mips_text.specs.Line.{inst_of, with_operands, tokens_expected, bare, or_row}
use Rattle.mips_asm.proofs.InstRows.{beq_is_sound}
use Rattle.mips_asm.proofs.OperandFields.{sound_of_move}
use Rattle.mips_asm.proofs.operands.item_of.Goals as goal

pub item_by-requires : goal.item_by-requires
item_by-requires c = subst (λ (inst : Inst). IsSoundBy (BranchTarget ∷ []) inst) (sym (c.bare-in-Branch.ensures ∙ ap bare c.beq_row.ensures)) beq_is_sound

pub returns-in_ok-with_operands-in-Move-clause-sound : goal.returns-in_ok-with_operands-in-Move-clause-sound
returns-in_ok-with_operands-in-Move-clause-sound c =
    let expects = c.requires.expected ∙ ap (λ statement. tokens_expected (shape_of statement) (length c.args.operands.now)) c.in-Move.is in
    let named : inst_of c.args.line.now or_row Move c.args.operands.now ≡ with_operands c.args.line.now c.args.expected.now c.args.operands.now (bare or_row) =
    ap (λ expected. with_operands c.args.line.now expected c.args.operands.now (bare or_row)) (sym expects) in
    let read : with_operands c.args.line.now c.args.expected.now c.args.operands.now (bare or_row) ≡ with_operands c.args.line.now c.args.expected.now c.args.operands.now c.bare.result =
    ap (with_operands c.args.line.now c.args.expected.now c.args.operands.now) (sym (c.bare.ensures ∙ ap bare c.or_row.ensures)) in
    sound_of_move c.args.line.now c.args.operands.now c.in_ok-with_operands-in-Move.field-0
    (named ∙ read ∙ sym c.with_operands.ensures ∙ c.in_ok-with_operands-in-Move.was)
