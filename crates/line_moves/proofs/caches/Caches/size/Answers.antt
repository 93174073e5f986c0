use Rattle.line_moves.proofs.Calls.{lines_are}
use Rattle.line_moves.proofs.caches.Caches.size.Goals as goal

pub returns-clause-lines : goal.returns-clause-lines
returns-clause-lines c = lines_are _ _ _ c.self.view_is c.self.invariant
