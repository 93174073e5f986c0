use Rattle.std.proofs.Common.{sym, ◌∙◌}
use Rattle.library_cases.proofs.Holds.{split_marks}
use Rattle.library_cases.proofs.lines.Lines.split.Goals as goal

pub invariant_of-self : goal.invariant_of-self
invariant_of-self c =
    let made = split_marks c.self.inside.arena c.split.new.self c.self.inside.holds.items c.args.holder c.split.ensures.own c.split.ensures.split c.self.invariant.0 (rw (← c.self.view_is) at (c.has.ensures.holds c.if-has.true)) in
    (made.0, c.self.invariant.1 ∙ sym made.1)
