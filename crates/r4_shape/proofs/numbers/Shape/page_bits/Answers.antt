use Rattle.std.proofs.Common.{◌≡◌, ◌-◌, ◌/◌, ◌^◌, refl}
use Rattle.r4_shape.proofs.Powers.{by_line}
use Rattle.r4_shape.proofs.numbers.Shape.page_bits.Goals as goal

pub returns-clause-is : goal.returns-clause-is
returns-clause-is c =
    rw (← c.self.view_is)
    (by_line (λ l. 2 ^ (12 - l) ≡ 4096 / 2 ^ l) c.self.inside.line_bits c.self.invariant.line_least c.self.invariant.line_most refl refl)
