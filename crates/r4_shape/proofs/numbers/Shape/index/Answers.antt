use Rattle.std.proofs.Common.{◌<◌, ◌/◌, ◌^◌, arith}
use Rattle.r4_shape.proofs.Powers.{by_line}
use Rattle.r4_shape.proofs.numbers.Shape.index.Goals as goal

pub returns-clause-place : goal.returns-clause-place
returns-clause-place c =
    let low : c.within.result < 2 ^ c.self.inside.prim_bits = rw (← c.self.view_is) at c.within.ensures.inside in
    let inside : c.within.result < 8192 = rw c.self.invariant.prim_is at low in
    rw (← c.self.view_is, c.self.invariant.prim_is)
    (by_line (λ l. c.within.result / 2 ^ l < 8192 / 2 ^ l) c.self.inside.line_bits c.self.invariant.line_least c.self.invariant.line_most (omega arith) (omega arith))
