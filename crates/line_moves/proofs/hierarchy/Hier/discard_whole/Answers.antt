use Rattle.std.proofs.Common.{rules}
use Rattle.line_moves.proofs.Out.{whole_discarded}
use Rattle.line_moves.proofs.hierarchy.Hier.discard_whole.Goals as goal

pub returns-clause-places : goal.returns-clause-places
returns-clause-places c = whole_discarded c.args.self.now c.discard_parts.new.self _ c.args.index c.discard_parts.ensures.places (search rules)
