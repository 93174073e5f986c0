use Rattle.std.proofs.Common.{rules}
use Rattle.line_moves.proofs.WrittenBack.{written_back_at}
use Rattle.line_moves.proofs.hierarchy.Hier.write_back.Goals as goal

pub returns-in-Some-clause-places : goal.returns-in-Some-clause-places
returns-in-Some-clause-places c = written_back_at c.args.self.now _ c.args.index c.gather_parts.ensures.lines c.requires.secondary (search rules)
