use Rattle.std.proofs.Common.{None, false, refl}
use Rattle.library_cases.proofs.Holds.{mark_set}
use Rattle.library_cases.proofs.lines.Lines.give_back.Goals as goal

pub invariant_of-self : goal.invariant_of-self
invariant_of-self c =
    let made = c.give_back.ensures.left in
    (rw made (mark_set c.self.inside.arena.slots c.self.inside.holds.items c.args.holder None false c.self.invariant.0 refl), rw made c.self.invariant.1)
