use Rattle.r4_shape.proofs.Powers.{shape_is, pages_are}
use Rattle.r4_shape.proofs.numbers.Shape.prim.Goals as goal

pub returns-clause-shape : goal.returns-clause-shape
returns-clause-shape c = rw (← c.self.view_is) (shape_is _ _ _ _ _ c.self.invariant)

pub returns-clause-pages : goal.returns-clause-pages
returns-clause-pages c = rw (← c.self.view_is) (pages_are _ _ _ _ _ c.self.invariant)
