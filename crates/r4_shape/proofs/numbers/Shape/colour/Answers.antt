use Rattle.std.proofs.Common.{◌<◌, arith}
use Rattle.r4_shape.proofs.numbers.Shape.colour.Goals as goal

pub returns-clause-few : goal.returns-clause-few
returns-clause-few c =
    let low : c.within.result < 8192 = rw c.within.ensures.prim at c.within.ensures.inside in
    rw c.within.ensures.prim (omega arith)
