-- Numbers of so many bytes.
use Rattle.std.proofs.Common.{◌≡◌, ℕ, zero, suc, ◌+◌, ◌-◌, ◌*◌, ◌%◌, ◌^◌, ◌<◌, ◌≤◌, List, [], ◌∷◌, length, take, drop, fold, slice_index, get_or, refl, sym, ap, ◌∙◌, arith, pow-suc, mul_comm, length-drop}
use Rattle.std.proofs.Math.Nat.{pow-le-pow_right}
use Rattle.std.proofs.lemmas.List.{drop_more, take_more, take_all, get_or-drop}
use Rattle.std.proofs.lemmas.List.Sums.{fold-append}
use Rattle.std.specs.Int.{bytes_high_first}
use Rattle.byteorder.specs.Endian.{big_from, big_number}
use Rattle.flat_ram.specs.Bytes.{number_at, number_of_bytes}

-- the number that goes on with the bytes from a place on
goes_on : (count at high : ℕ) (all : List ℕ) → at + count ≤ length all
    → fold (λ h byte. h * 256 + byte) high (take count (drop at all)) ≡ high * 256 ^ count + big_from at count all
goes_on zero at high all fits = omega arith
goes_on (suc count) at high all fits =
    let byte = slice_index all at in
    let next : at + 1 ≡ suc at = omega arith in
    let first : drop at all ≡ byte ∷ drop (suc at) all = drop_more all at 0 (omega arith) ∙ ap (λ n. byte ∷ drop n all) next in
    let wider : 256 ^ suc count ≡ 256 * 256 ^ count = pow-suc 256 count ∙ mul_comm (256 ^ count) 256 in
    ap (λ bytes. fold (λ h b. h * 256 + b) high (take (suc count) bytes)) first
    ∙ goes_on count (suc at) (high * 256 + byte) all (omega arith)
    ∙ rw wider (omega arith)

-- the number of the first bytes of what is left of a list
pub number_is : (count at : ℕ) (all : List ℕ) → at + count ≤ length all → big_number count (drop at all) ≡ number_at all at count
number_is count at all fits =
    let left : 0 + count ≤ length (drop at all) = rw length-drop (omega arith) in
    sym (goes_on count 0 0 (drop at all) left ∙ omega arith)

-- the number of no byte, and that of one byte more
pub number_none : (all : List ℕ) (at : ℕ) → number_at all at 0 ≡ 0
number_none all at = refl

pub number_more : (all : List ℕ) (at count : ℕ) → at + count < length all → number_at all at (count + 1) ≡ number_at all at count * 256 + slice_index all (at + count)
number_more all at count lt =
    let left : count < length (drop at all) = rw length-drop (omega arith) in
    ap number_of_bytes (take_more (drop at all) count 0 left)
    ∙ fold-append (λ h b. h * 256 + b) 0 (take count (drop at all)) (get_or (drop at all) count 0 ∷ [])
    ∙ ap (λ byte. number_at all at count * 256 + byte) (get_or-drop at all count 0)

-- up to seven bytes leave room for one more
pub room_for_more : (number place : ℕ) → place < 8 → number < 256 ^ place → number < 2 ^ 56
room_for_more number place few fits = let most : 256 ^ place ≤ 256 ^ 7 = pow-le-pow_right {n = 256} (omega arith) {i = place} {j = 7} (omega arith) in omega arith

pub power_more : (count : ℕ) → 256 ^ (count + 1) ≡ 256 ^ count * 256
power_more count = let same : count + 1 ≡ suc count = omega arith in ap (λ n. 256 ^ n) same ∙ pow-suc 256 count

-- what a loop needs that reads a number byte by byte
pub ruleset byte_by_byte = (number_none, number_more, power_more, room_for_more)

-- the low bytes of a number among all its eight
pub length_bytes : (count number : ℕ) → length (bytes_high_first count number) ≡ count
length_bytes zero number = refl
length_bytes (suc count) number = ap suc (length_bytes count number)

dropped : (more count number : ℕ) → drop more (bytes_high_first (more + count) number) ≡ bytes_high_first count number
dropped zero count number = let same : 0 + count ≡ count = omega arith in ap (λ n. bytes_high_first n number) same
dropped (suc more) count number =
    let longer : suc more + count ≡ suc (more + count) = omega arith in
    ap (λ n. drop (suc more) (bytes_high_first n number)) longer ∙ dropped more count number

pub low_bytes : (count number : ℕ) → count ≤ 8 → take (8 - (8 - count)) (drop (8 - count) (bytes_high_first 8 number)) ≡ bytes_high_first count number
low_bytes count number most =
    let all : 8 ≡ 8 - count + count = omega arith in
    let kept : 8 - (8 - count) ≡ count = omega arith in
    ap (λ n. take (8 - (8 - count)) (drop (8 - count) (bytes_high_first n number))) all
    ∙ ap (take (8 - (8 - count))) (dropped (8 - count) count number)
    ∙ take_all (8 - (8 - count)) (bytes_high_first count number) (omega (arith, length_bytes count number))

-- powers of 256 as powers of 2, up to the seventh
pub shift_is : (count : ℕ) → count < 8 → 2 ^ (8 * count) ≡ 256 ^ count
shift_is zero small = refl
shift_is (suc zero) small = refl
shift_is (suc (suc zero)) small = refl
shift_is (suc (suc (suc zero))) small = refl
shift_is (suc (suc (suc (suc zero)))) small = refl
shift_is (suc (suc (suc (suc (suc zero))))) small = refl
shift_is (suc (suc (suc (suc (suc (suc zero)))))) small = refl
shift_is (suc (suc (suc (suc (suc (suc (suc zero))))))) small = refl
shift_is (suc (suc (suc (suc (suc (suc (suc (suc count)))))))) small = absurd (omega arith)

pub power_is : (count : ℕ) → count < 8 → 1 * 2 ^ (8 * count) % 2 ^ 64 ≡ 256 ^ count
power_is zero small = refl
power_is (suc zero) small = refl
power_is (suc (suc zero)) small = refl
power_is (suc (suc (suc zero))) small = refl
power_is (suc (suc (suc (suc zero)))) small = refl
power_is (suc (suc (suc (suc (suc zero))))) small = refl
power_is (suc (suc (suc (suc (suc (suc zero)))))) small = refl
power_is (suc (suc (suc (suc (suc (suc (suc zero))))))) small = refl
power_is (suc (suc (suc (suc (suc (suc (suc (suc count)))))))) small = absurd (omega arith)

pub power_some : (count : ℕ) → 0 < 256 ^ count
power_some count = pow-le-pow_right {n = 256} (omega arith) {i = 0} {j = count} (omega arith)

-- eight bytes hold every number of 64 bits
pub all_eight : (number count : ℕ) → number < 2 ^ 64 → 8 ≤ count → count ≤ 8 → number % 256 ^ count ≡ number
all_eight number count small low high = let eight : count ≡ 8 = omega arith in ap (λ n. number % 256 ^ n) eight ∙ omega arith
