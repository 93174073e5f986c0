use Rattle.std.proofs.Common.{refl, arith}
use Rattle.r4_shape.proofs.Powers.{masked}
use Rattle.r4_shape.proofs.numbers.Shape.offset.Goals as goal

pub returns : goal.returns
returns c = rw (masked c.args.pa c.self.inside.line_bits 64 (omega arith), ← c.self.view_is) (record { is = refl })
