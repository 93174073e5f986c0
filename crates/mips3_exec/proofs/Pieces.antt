-- The bytes of a number, cut and put together: what a load and a store make of a register, without lists.
use Rattle.std.proofs.Common.{◌≡◌, ℕ, zero, suc, ◌+◌, ◌*◌, ◌/◌, ◌%◌, ◌^◌, ◌<◌, ◌∷◌, ◌++◌, length, take, drop, fold, refl, sym, ap, ◌∙◌, arith, pow-suc, mul_comm}
use Rattle.std.proofs.Math.Nat.{pow-le-pow_right, div-div-eq-div-mul}
use Rattle.std.proofs.Math.Arith.{mod-mul}
use Rattle.std.proofs.lemmas.Nat.{pow-add}
use Rattle.std.proofs.lemmas.List.Sums.{fold-append}
use Rattle.std.specs.Int.{byte_at, bytes_high_first}
use Rattle.flat_ram.specs.Bytes.{bytes_at, put_bytes}
use Rattle.mips3_exec.specs.Accesses.{number_of_bytes, register_bytes}

pub some_bytes : (k : ℕ) → 0 < 256 ^ k
some_bytes k = pow-le-pow_right {n = 256} (omega arith) {i = 0} {j = k} (omega arith)

-- one more byte in front of the low k bytes
byte_on : (k n high : ℕ) → (high * 256 + byte_at k n) * 256 ^ k + n % 256 ^ k ≡ high * 256 ^ suc k + n % 256 ^ suc k
byte_on zero n high = omega arith
byte_on (suc k) n high =
    let unit = 256 ^ suc k in
    let wider : 256 ^ suc (suc k) ≡ 256 * unit = pow-suc 256 (suc k) ∙ mul_comm unit 256 in
    rw (wider, mod-mul n {m = 256} {c = unit} (omega arith) (some_bytes (suc k))) (omega arith)

-- the number that goes on with the low k bytes of another
pub number_on : (k n high : ℕ) → fold (λ h byte. h * 256 + byte) high (bytes_high_first k n) ≡ high * 256 ^ k + n % 256 ^ k
number_on zero n high = omega arith
number_on (suc k) n high = number_on k n (high * 256 + byte_at k n) ∙ byte_on k n high

pub length_high_first : (k n : ℕ) → length (bytes_high_first k n) ≡ k
length_high_first zero n = refl
length_high_first (suc k) n = ap suc (length_high_first k n)

-- a byte of a number is the lowest of those above the bytes below it
byte_is : (k n : ℕ) → byte_at k n ≡ n / 256 ^ k % 256
byte_is zero n = omega arith
byte_is (suc k) n = refl

byte_above : (k m n : ℕ) → byte_at (k + m) n ≡ byte_at k (n / 256 ^ m)
byte_above k m n =
    let turned : k + m ≡ m + k = omega arith in
    let worth : 256 ^ (k + m) ≡ 256 ^ m * 256 ^ k = ap (λ i. 256 ^ i) turned ∙ pow-add 256 m k in
    byte_is (k + m) n ∙ ap (λ w. n / w % 256) worth
    ∙ ap (λ q. q % 256) (sym (div-div-eq-div-mul n (256 ^ m) (256 ^ k))) ∙ sym (byte_is k (n / 256 ^ m))

-- the first k of k + m bytes, and the last m
pub take_high_first : (k m n : ℕ) → take k (bytes_high_first (k + m) n) ≡ bytes_high_first k (n / 256 ^ m)
take_high_first zero m n = refl
take_high_first (suc k) m n =
    let longer : suc k + m ≡ suc (k + m) = omega arith in
    ap (λ l. take (suc k) (bytes_high_first l n)) longer
    ∙ ap (λ b. b ∷ take k (bytes_high_first (k + m) n)) (byte_above k m n)
    ∙ ap (λ l. byte_at k (n / 256 ^ m) ∷ l) (take_high_first k m n)

pub drop_high_first : (k m n : ℕ) → drop k (bytes_high_first (k + m) n) ≡ bytes_high_first m n
drop_high_first zero m n = let same : 0 + m ≡ m = omega arith in ap (λ l. bytes_high_first l n) same
drop_high_first (suc k) m n =
    let longer : suc k + m ≡ suc (k + m) = omega arith in
    ap (λ l. drop (suc k) (bytes_high_first l n)) longer ∙ drop_high_first k m n

-- some of the bytes of a register, as a number
pub piece_is : (place size low value : ℕ) → place + (size + low) ≡ 8
    → number_of_bytes (bytes_at (register_bytes value) place size) ≡ value / 256 ^ low % 256 ^ size
piece_is place size low value all =
    ap (λ n. fold (λ h byte. h * 256 + byte) 0 (take size (drop place (bytes_high_first n value)))) (sym all)
    ∙ ap (λ l. fold (λ h byte. h * 256 + byte) 0 (take size l)) (drop_high_first place (size + low) value)
    ∙ ap (λ l. fold (λ h byte. h * 256 + byte) 0 l) (take_high_first size low value)
    ∙ number_on size (value / 256 ^ low) 0 ∙ omega arith

-- three pieces in a row, as a number
three_pieces : (place size low high bytes rest : ℕ)
    → number_of_bytes (bytes_high_first place high ++ (bytes_high_first size bytes ++ bytes_high_first low rest))
    ≡ (high % 256 ^ place * 256 ^ size + bytes % 256 ^ size) * 256 ^ low + rest % 256 ^ low
three_pieces place size low high bytes rest =
    fold-append (λ h byte. h * 256 + byte) 0 (bytes_high_first place high) (bytes_high_first size bytes ++ bytes_high_first low rest)
    ∙ ap (λ n. fold (λ h byte. h * 256 + byte) n (bytes_high_first size bytes ++ bytes_high_first low rest)) (number_on place high 0 ∙ first)
    ∙ fold-append (λ h byte. h * 256 + byte) (high % 256 ^ place) (bytes_high_first size bytes) (bytes_high_first low rest)
    ∙ ap (λ n. fold (λ h byte. h * 256 + byte) n (bytes_high_first low rest)) (number_on size bytes (high % 256 ^ place))
    ∙ number_on low rest (high % 256 ^ place * 256 ^ size + bytes % 256 ^ size)
  where
    first : 0 * 256 ^ place + high % 256 ^ place ≡ high % 256 ^ place
    first = omega arith

-- the bytes of a register with others in the place of some, as a number
pub merged_is : (place size low old bytes : ℕ) → place + (size + low) ≡ 8
    → number_of_bytes (put_bytes (register_bytes old) place (bytes_high_first size bytes))
    ≡ (old / 256 ^ (size + low) % 256 ^ place * 256 ^ size + bytes % 256 ^ size) * 256 ^ low + old % 256 ^ low
merged_is place size low old bytes all =
    ap (λ n. number_of_bytes (take place (bytes_high_first n old) ++ (bytes_high_first size bytes ++ drop (place + length (bytes_high_first size bytes)) (bytes_high_first n old)))) (sym all)
    ∙ ap (λ n. number_of_bytes (take place (bytes_high_first (place + (size + low)) old) ++ (bytes_high_first size bytes ++ drop (place + n) (bytes_high_first (place + (size + low)) old)))) (length_high_first size bytes)
    ∙ ap (λ l. number_of_bytes (l ++ (bytes_high_first size bytes ++ drop (place + size) (bytes_high_first (place + (size + low)) old)))) (take_high_first place (size + low) old)
    ∙ ap (λ n. number_of_bytes (bytes_high_first place (old / 256 ^ (size + low)) ++ (bytes_high_first size bytes ++ drop (place + size) (bytes_high_first n old)))) turned
    ∙ ap (λ l. number_of_bytes (bytes_high_first place (old / 256 ^ (size + low)) ++ (bytes_high_first size bytes ++ l))) (drop_high_first (place + size) low old)
    ∙ three_pieces place size low (old / 256 ^ (size + low)) bytes old
  where
    turned : place + (size + low) ≡ place + size + low
    turned = omega arith
