use Rattle.std.proofs.Common.{rules}
use Rattle.line_moves.specs.declared.places.Side.TheVariants.{S}
use Rattle.line_moves.proofs.TagForms.{tags_are, set_are_tags}
use Rattle.line_moves.proofs.line_tags.LineTags.set_secondary.Goals as goal

pub returns-clause-tags : goal.returns-clause-tags
returns-clause-tags c =
    let were = tags_are _ c.self.inside.primary c.self.inside.second _ c.self.view_is c.self.invariant in
    set_are_tags c.args.self.now _ (record { side = S; index = c.args.index }) c.args.tag were (λ on. cc) (search rules)
