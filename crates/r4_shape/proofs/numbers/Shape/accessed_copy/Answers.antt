use Rattle.r4_shape.proofs.Powers.{accessed_at}
use Rattle.r4_shape.proofs.numbers.Shape.accessed_copy.Goals as goal

pub returns : goal.returns
returns c =
    rw (c.index.ensures.is, ← c.self.view_is, c.self.invariant.prim_is)
    (record { is = accessed_at c.self.inside.line_bits c.self.invariant.line_least c.self.invariant.line_most c.args.pa c.args.va c.requires.ram c.requires.page })
