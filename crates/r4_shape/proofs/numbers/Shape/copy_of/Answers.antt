use Rattle.std.proofs.Common.{◌<◌, ◌/◌, ◌^◌, arith}
use Rattle.r4_shape.proofs.Powers.{copy_at, copy_most}
use Rattle.r4_shape.proofs.numbers.Shape.copy_of.Goals as goal

pub overflow_add-result-2 : goal.overflow_add-result-2
overflow_add-result-2 c =
    let granule : c.args.granule < 8388608 / 2 ^ c.self.inside.line_bits = rw (← c.self.view_is) at c.requires.granule in
    let colour : c.args.colour < 2 ^ c.self.inside.prim_bits / 4096 = rw (← c.self.view_is) at c.requires.colour in
    let few : c.args.colour < 2 = rw c.self.invariant.prim_is at colour in
    rw c.self.invariant.prim_is
    (let most = copy_most c.self.inside.line_bits c.self.invariant.line_least c.self.invariant.line_most c.args.granule c.args.colour granule few in omega arith)

pub returns : goal.returns
returns c =
    let granule : c.args.granule < 8388608 / 2 ^ c.self.inside.line_bits = rw (← c.self.view_is) at c.requires.granule in
    let colour : c.args.colour < 2 ^ c.self.inside.prim_bits / 4096 = rw (← c.self.view_is) at c.requires.colour in
    let few : c.args.colour < 2 = rw c.self.invariant.prim_is at colour in
    rw (← c.self.view_is, c.self.invariant.prim_is)
    (record { is = copy_at c.self.inside.line_bits c.self.invariant.line_least c.self.invariant.line_most c.args.granule c.args.colour granule few })
