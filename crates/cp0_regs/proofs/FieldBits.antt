-- The bits high..low of a word as a difference of two powers that does not go below 0.
use Rattle.std.proofs.Common.{◌≡◌, ℕ, ◌<◌, ◌≤◌, ◌+◌, ◌*◌, ◌%◌, ◌^◌, arith}
use Rattle.std.proofs.Math.Pow.{pow_mono}
use Rattle.std.proofs.lemmas.Nat.{one_shl}

pub low_below_high : (low high : ℕ) → low ≤ high → high < 32 → 1 * 2 ^ low % 2 ^ 64 ≤ 1 * 2 ^ (high + 1) % 2 ^ 64
low_below_high low high order in_word =
    let low_is : (1 * 2 ^ low) % 2 ^ 64 ≡ 2 ^ low = one_shl low 64 (omega arith) in
    let high_is : (1 * 2 ^ (high + 1)) % 2 ^ 64 ≡ 2 ^ (high + 1) = one_shl (high + 1) 64 (omega arith) in
    let up : 2 ^ low ≤ 2 ^ (high + 1) = pow_mono (omega arith) in
    omega (arith, low_is, high_is, up)
