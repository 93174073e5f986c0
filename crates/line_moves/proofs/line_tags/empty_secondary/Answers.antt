use Rattle.line_moves.proofs.TagForms.{no_secondary}
use Rattle.line_moves.proofs.line_tags.empty_secondary.Goals as goal

pub returns-else-sc-clause-empty : goal.returns-else-sc-clause-empty
returns-else-sc-clause-empty c = no_secondary c.args.shape c.sc.ensures.shape (rw c.sc.ensures.is at c.if-sc.false)
