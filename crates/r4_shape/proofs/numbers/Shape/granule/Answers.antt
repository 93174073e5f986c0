use Rattle.std.proofs.Common.{◌<◌, ◌/◌, ◌^◌, arith}
use Rattle.r4_shape.proofs.Powers.{by_line}
use Rattle.r4_shape.proofs.numbers.Shape.granule.Goals as goal

pub returns-clause-inside : goal.returns-clause-inside
returns-clause-inside c =
    let low = c.requires in
    rw (← c.self.view_is) (by_line (λ l. c.args.pa / 2 ^ l < 8388608 / 2 ^ l) c.self.inside.line_bits c.self.invariant.line_least c.self.invariant.line_most (omega arith) (omega arith))
