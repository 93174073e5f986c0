use Rattle.std.proofs.Common.{rules}
use Rattle.line_moves.proofs.TakenAlong.{parts_discarded_at}
use Rattle.line_moves.proofs.hierarchy.Hier.discard_parts.Goals as goal

pub returns-in-Some-clause-places : goal.returns-in-Some-clause-places
returns-in-Some-clause-places c = parts_discarded_at c.args.self.now _ c.args.index c.discard_all.ensures.lines c.requires.secondary (search rules)
