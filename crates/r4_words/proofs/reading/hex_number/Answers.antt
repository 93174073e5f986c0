use Rattle.std.proofs.Common.{◌+◌, ◌*◌, ◌<◌, ◌^◌, arith}
use Rattle.r4_words.proofs.ReadBack.{hex_digit_at, hex_room}
use Rattle.r4_words.proofs.reading.hex_number.Goals as goal

pub overflow_mul-number : goal.overflow_mul-number
overflow_mul-number c =
    let room : c.loop-code.number * 16 + 0 < 2 ^ 64 = hex_room _ _ _ 0 c.loop-code.invariant.1 c.loop-code-test.true c.requires.short (omega arith) in
    omega arith

pub overflow_add-number : goal.overflow_add-number
overflow_add-number c =
    let small : c.from.result < 16 = omega (arith, c.from.ensures, c.value_of_digit.ensures.small (hex_digit_at _ _ c.requires.digits c.loop-code-test.true)) in
    let room : c.loop-code.number * 16 + c.from.result < 2 ^ 64 = hex_room _ _ _ _ c.loop-code.invariant.1 c.loop-code-test.true c.requires.short small in
    omega arith
