use Rattle.std.proofs.Common.{sym, subst, length}
use Rattle.mips_text.specs.Tokens.{Spans}
use Rattle.mips_text.proofs.Cutting.{start_spans}
use Rattle.mips_text.proofs.lexing.start_of.Goals as goal

pub returns-clause-spans : goal.returns-clause-spans
returns-clause-spans c = subst (λ s. Spans s (length c.args.text.now)) (sym c.head_of.ensures) (start_spans c.args.text.now c.requires.some)
