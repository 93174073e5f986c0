use Rattle.std.proofs.Common.{◌≡◌, true, refl, arith}
use Rattle.r4_shape.proofs.Powers.{masked}
use Rattle.r4_shape.proofs.numbers.Shape.group_offset.Goals as goal

pub returns : goal.returns
returns c =
    let secondary : c.self.inside.sc ≡ true = rw (← c.self.view_is) at c.requires.secondary in
    rw (masked c.args.pa c.self.inside.group_bits 64 (omega arith), ← c.self.view_is, secondary) (record { is = refl })
