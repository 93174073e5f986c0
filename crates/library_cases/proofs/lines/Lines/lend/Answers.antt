use Rattle.std.proofs.Common.{true, refl}
use Rattle.library_cases.proofs.Holds.{mark_set}
use Rattle.library_cases.proofs.lines.Lines.lend.Goals as goal

pub invariant_of-self : goal.invariant_of-self
invariant_of-self c =
    let made = c.lend.ensures.lent in
    (rw made (mark_set c.self.inside.arena.slots c.self.inside.holds.items c.args.to _ true c.self.invariant.0 (rw (← c.self.view_is) at (c.has.ensures.holds c.if-has.true))), rw made c.self.invariant.1)
