use Rattle.line_arena.proofs.Views.{is_holding}
use Rattle.line_arena.proofs.holders.Arena.owns.Goals as goal

pub returns-clause-whole : goal.returns-clause-whole
returns-clause-whole c = rw (← c.self.view_is) (is_holding _ c.self.invariant)
