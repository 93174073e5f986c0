use Rattle.line_moves.proofs.TagForms.{tags_are}
use Rattle.line_moves.proofs.line_tags.LineTags.shape.Goals as goal

pub returns-clause-tags : goal.returns-clause-tags
returns-clause-tags c = tags_are _ c.self.inside.primary c.self.inside.second _ c.self.view_is c.self.invariant
