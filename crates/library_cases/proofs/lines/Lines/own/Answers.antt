use Rattle.std.proofs.Common.{Some, true, refl}
use Rattle.library_cases.proofs.Holds.{mark_set}
use Rattle.library_cases.proofs.lines.Lines.own.Goals as goal

pub invariant_of-self : goal.invariant_of-self
invariant_of-self c =
    let made = c.own.ensures.owned in
    (rw made.2 (mark_set c.self.inside.arena.slots c.self.inside.holds.items c.args.holder (Some made.0) true c.self.invariant.0 refl), rw made.2 c.self.invariant.1)
