use Rattle.std.proofs.Common.{◌/◌, ◌++◌, sym, ap, ◌∙◌, subst}
use Rattle.std.specs.List.{All}
use Rattle.mips_text.specs.declared.operand.Range.TheVariants.{EitherSign}
use Rattle.mips_text.specs.declared.statement.Statement.TheVariants.{Word, Byte}
use Rattle.mips_text.specs.Line.{numbers_expected}
use Rattle.mips_asm.specs.StatementsOf.{IsNarrowAt}
use Rattle.mips_asm.proofs.NumberList.{narrow_tokens}
use Rattle.mips_asm.proofs.expected.expected_of.Goals as goal

pub returns-in-Word-clause-narrow : goal.returns-in-Word-clause-narrow
returns-in-Word-clause-narrow c =
    let is = c.put_numbers.ensures ∙ ap (λ front. front ++ numbers_expected (c.args.count / 2) (EitherSign 32)) c.new-out.ensures in
    subst (All IsNarrowAt) (sym is) (narrow_tokens Word c.args.count)

pub returns-in-Byte-clause-narrow : goal.returns-in-Byte-clause-narrow
returns-in-Byte-clause-narrow c =
    let is = c.put_numbers-in-Byte.ensures ∙ ap (λ front. front ++ numbers_expected (c.args.count / 2) (EitherSign 8)) c.new-out.ensures in
    subst (All IsNarrowAt) (sym is) (narrow_tokens Byte c.args.count)
