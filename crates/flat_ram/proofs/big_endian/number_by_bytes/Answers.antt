use Rattle.std.proofs.Common.{◌+◌, arith}
use Rattle.flat_ram.proofs.Numbers.{room_for_more}
use Rattle.flat_ram.proofs.big_endian.number_by_bytes.Goals as goal

pub overflow_mul-number : goal.overflow_mul-number
overflow_mul-number c =
    let few = room_for_more c.loop-place.number c.loop-place.place (omega (arith, c.loop-place-test.true, c.requires.most)) (c.loop-place.invariant).1 in
    omega (arith, few)

pub overflow_add-number : goal.overflow_add-number
overflow_add-number c =
    let few = room_for_more c.loop-place.number c.loop-place.place (omega (arith, c.loop-place-test.true, c.requires.most)) (c.loop-place.invariant).1 in
    omega (arith, few, c.from.ensures, c.type_inv.bytes (c.args.at + c.loop-place.place))
