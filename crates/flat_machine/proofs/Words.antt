-- A word of memory, as the number of its four bytes.
use Rattle.std.proofs.Common.{◌≡◌, ℕ, ◌+◌, ◌*◌, ◌≤◌, List, length, slice_index, ap, arith}
use Rattle.flat_ram.specs.Bytes.{word_at, number_at}
use Rattle.flat_ram.proofs.Numbers.{number_none, number_more}

-- the word at a place is the number in its four bytes
pub word_is_number : (all : List ℕ) (at : ℕ) → at + 4 ≤ length all → word_at all at ≡ number_at all at 4
word_is_number all at fits =
    let none : number_at all at 0 ≡ 0 = number_none all at in
    let one : number_at all at 1 ≡ number_at all at 0 * 256 + slice_index all (at + 0) = number_more all at 0 (omega arith) in
    let two : number_at all at 2 ≡ number_at all at 1 * 256 + slice_index all (at + 1) = number_more all at 1 (omega arith) in
    let three : number_at all at 3 ≡ number_at all at 2 * 256 + slice_index all (at + 2) = number_more all at 2 (omega arith) in
    let four : number_at all at 4 ≡ number_at all at 3 * 256 + slice_index all (at + 3) = number_more all at 3 (omega arith) in
    let first : slice_index all (at + 0) ≡ slice_index all at = ap (slice_index all) (omega arith) in
    omega arith
