use Rattle.std.proofs.Common.{◌≡◌, ◌-◌, ◌*◌, ◌/◌, ◌%◌, ◌^◌, refl}
use Rattle.r4_shape.proofs.Powers.{by_line}
use Rattle.r4_shape.proofs.numbers.Shape.places.Goals as goal

pub returns : goal.returns
returns c =
    rw (← c.self.view_is, c.self.invariant.prim_is)
    (record { is = by_line (λ l. (1 * 2 ^ (13 - l)) % 2 ^ 32 ≡ 8192 / 2 ^ l) c.self.inside.line_bits c.self.invariant.line_least c.self.invariant.line_most refl refl })
