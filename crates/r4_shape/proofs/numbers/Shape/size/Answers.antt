use Rattle.r4_shape.proofs.Powers.{shape_is}
use Rattle.r4_shape.proofs.numbers.Shape.size.Goals as goal

pub returns-then-self-clause-shape : goal.returns-then-self-clause-shape
returns-then-self-clause-shape c = rw (← c.self.view_is) (shape_is _ _ _ _ _ c.self.invariant)

pub returns-else-self-clause-shape : goal.returns-else-self-clause-shape
returns-else-self-clause-shape c = rw (← c.self.view_is) (shape_is _ _ _ _ _ c.self.invariant)
