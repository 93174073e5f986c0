use Rattle.std.proofs.Common.{◌≡◌, true, refl, arith}
use Rattle.r4_shape.proofs.Powers.{masked, secondary_inside}
use Rattle.r4_shape.proofs.numbers.Shape.place.Goals as goal

pub returns-clause-is : goal.returns-clause-is
returns-clause-is c =
    let secondary : c.self.inside.sc ≡ true = rw (← c.self.view_is) at c.requires.secondary in
    rw (masked c.args.pa c.self.inside.size_bits 64 (omega arith), ← c.self.view_is, secondary) refl

pub returns-clause-place : goal.returns-clause-place
returns-clause-place c =
    let secondary : c.self.inside.sc ≡ true = rw (← c.self.view_is) at c.requires.secondary in
    rw (masked c.args.pa c.self.inside.size_bits 64 (omega arith), ← c.self.view_is, secondary) (secondary_inside _ _ _ _ _ c.self.invariant secondary c.args.pa)
