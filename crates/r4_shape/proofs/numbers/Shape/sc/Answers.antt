use Rattle.r4_shape.proofs.Powers.{shape_is}
use Rattle.r4_shape.proofs.numbers.Shape.sc.Goals as goal

pub returns-clause-shape : goal.returns-clause-shape
returns-clause-shape c = rw (← c.self.view_is) (shape_is _ _ _ _ _ c.self.invariant)
