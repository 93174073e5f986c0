-- What the machine's arithmetic of 32, 64 and 128 bits gives is what the equations of integers say.
use Rattle.std.proofs.Common.{◌≡◌, ◌≢◌, ℕ, zero, suc, ◌+◌, ◌-◌, ◌*◌, ◌/◌, ◌%◌, ◌^◌, ◌<◌, ◌≤◌, refl, ap, ◌∙◌, arith, Bool, true, false, if◌then◌else◌}
use Rattle.std.specs.Prelude.{ℤ, pos, negsuc, ◌+ℤ◌, ◌-ℤ◌, ◌*ℤ◌, nat_lt, unsigned_abs, int_div, int_rem, FitsSigned}
use Rattle.std.specs.Int.{Width, w32, w64, w128, cast_signed, cast_unsigned, int_rem_euclid, int_wrapping_div}
use Rattle.std.specs.Int.Signed.{mag_shr, shr_z, nat_abs-le}
use Rattle.std.proofs.lemmas.Bool.{eq-eqb, ne_eqb}
use Rattle.std.proofs.Math.IntN.{neg_ℤ}
use Rattle.std.proofs.Math.Nat.{div-le_self}
use Rattle.std.proofs.lemmas.Int.{ints, int_rem_euclid_is, to_z-of_z, fits_signed_mul}
use Rattle.std.proofs.lemmas.Nat.{mul-mod_first, shr_le}
use Rattle.r4_words.specs.Words.{sext32}
use Rattle.mips3_alu.specs.declared.registers.Halves.{Halves}
use Rattle.mips3_alu.specs.Arithmetic.{unsigned, signed, modulo, extended, reduced, sum, difference, floor_quotient, shifted_left, shifted_right_logical, halves, is_zero, divided}

-- ---- registers

same_either_way : (b : Bool) (n : ℕ) → (if b then n else n + 0) ≡ n
same_either_way true n = refl
same_either_way false n = omega arith

-- 64 bits are a register as they are
pub extended_64 : (n : ℕ) → extended 64 n ≡ n
extended_64 n = same_either_way (nat_lt n (2 ^ 63)) n

-- std's remainder that is not negative
modulo_is : (z : ℤ) (m : ℕ) → pos (modulo z m) ≡ int_rem_euclid z (pos m)
modulo_is (pos n) m = refl
modulo_is (negsuc n) m = refl

-- an integer and so many times m make a whole number that has the same remainder
modulo_lifted : (z : ℤ) (m k n : ℕ) → 0 < m → z +ℤ pos (k * m) ≡ pos n → modulo z m ≡ n % m
modulo_lifted z m k n positive lifts = ap unsigned_abs (modulo_is z m ∙ int_rem_euclid_is z (pos m) m k n positive refl lifts)

-- the integer of a register and at most once 2 ^ bits make the whole number of its low bits
record IsLifted (bits a : ℕ) (z : ℤ) : Type 0 where
  times : ℕ
  few : times ≤ 1
  lifts : z +ℤ pos (times * 2 ^ bits) ≡ pos (a % 2 ^ bits)

lifted_by : (bits a : ℕ) (b : Bool) → IsLifted bits a (if b then pos (a % 2 ^ bits) else pos (a % 2 ^ bits) -ℤ pos (2 ^ bits))
lifted_by bits a true = record { times = 0; few = omega arith; lifts = omega (arith, ints) }
lifted_by bits a false = record { times = 1; few = omega arith; lifts = omega (arith, ints) }

lifted : (bits a : ℕ) → IsLifted bits a (signed bits a)
unfolding signed unsigned
lifted bits a = lifted_by bits a (nat_lt (a % 2 ^ bits) (2 ^ (bits - 1)))

-- ---- sums and differences

sum_modulo_32 : (x y : ℤ) (a b : ℕ) → IsLifted 32 a x → IsLifted 32 b y → modulo (x +ℤ y) (2 ^ 32) ≡ (a % 2 ^ 32 + b % 2 ^ 32) % 2 ^ 32
sum_modulo_32 x y a b u v =
    let p = u.lifts in let q = v.lifts in
    modulo_lifted (x +ℤ y) (2 ^ 32) (u.times + v.times) (a % 2 ^ 32 + b % 2 ^ 32) (omega arith) (omega (arith, ints))

sum_modulo_64 : (x y : ℤ) (a b : ℕ) → IsLifted 64 a x → IsLifted 64 b y → modulo (x +ℤ y) (2 ^ 64) ≡ (a + b) % 2 ^ 64
sum_modulo_64 x y a b u v =
    let p = u.lifts in let q = v.lifts in
    modulo_lifted (x +ℤ y) (2 ^ 64) (u.times + v.times) (a % 2 ^ 64 + b % 2 ^ 64) (omega arith) (omega (arith, ints)) ∙ omega arith

difference_modulo_32 : (x y : ℤ) (a b : ℕ) → IsLifted 32 a x → IsLifted 32 b y → modulo (x -ℤ y) (2 ^ 32) ≡ (a % 2 ^ 32 + (2 ^ 32 - b % 2 ^ 32)) % 2 ^ 32
difference_modulo_32 x y a b u v =
    let p = u.lifts in let q = v.lifts in
    modulo_lifted (x -ℤ y) (2 ^ 32) (u.times + 1) (a % 2 ^ 32 + (2 ^ 32 - b % 2 ^ 32) + v.times * 2 ^ 32) (omega arith) (omega (arith, ints)) ∙ omega arith

difference_modulo_64 : (x y : ℤ) (a b : ℕ) → b < 2 ^ 64 → IsLifted 64 a x → IsLifted 64 b y → modulo (x -ℤ y) (2 ^ 64) ≡ (a + (2 ^ 64 - b)) % 2 ^ 64
difference_modulo_64 x y a b small u v =
    let p = u.lifts in let q = v.lifts in
    modulo_lifted (x -ℤ y) (2 ^ 64) (u.times + 1) (a % 2 ^ 64 + (2 ^ 64 - b) + v.times * 2 ^ 64) (omega arith) (omega (arith, ints)) ∙ omega arith

pub sum_32 : (a b : ℕ) → sum 32 a b ≡ sext32 ((a % 2 ^ 32 + b % 2 ^ 32) % 2 ^ 32)
unfolding sum reduced
sum_32 a b = ap (extended 32) (sum_modulo_32 (signed 32 a) (signed 32 b) a b (lifted 32 a) (lifted 32 b))

pub sum_64 : (a b : ℕ) → sum 64 a b ≡ (a + b) % 2 ^ 64
unfolding sum reduced
sum_64 a b = extended_64 _ ∙ sum_modulo_64 (signed 64 a) (signed 64 b) a b (lifted 64 a) (lifted 64 b)

pub difference_32 : (a b : ℕ) → difference 32 a b ≡ sext32 ((a % 2 ^ 32 + (2 ^ 32 - b % 2 ^ 32)) % 2 ^ 32)
unfolding difference reduced
difference_32 a b = ap (extended 32) (difference_modulo_32 (signed 32 a) (signed 32 b) a b (lifted 32 a) (lifted 32 b))

pub difference_64 : (a b : ℕ) → b < 2 ^ 64 → difference 64 a b ≡ (a + (2 ^ 64 - b)) % 2 ^ 64
unfolding difference reduced
difference_64 a b small = extended_64 _ ∙ difference_modulo_64 (signed 64 a) (signed 64 b) a b small (lifted 64 a) (lifted 64 b)

-- ---- shifts

pub shifted_left_32 : (value amount : ℕ) → shifted_left 32 value amount ≡ sext32 (value % 2 ^ 32 * 2 ^ amount % 2 ^ 32)
unfolding shifted_left reduced unsigned
shifted_left_32 value amount = refl

pub shifted_left_64 : (value amount : ℕ) → shifted_left 64 value amount ≡ value * 2 ^ amount % 2 ^ 64
unfolding shifted_left reduced unsigned
shifted_left_64 value amount = extended_64 _ ∙ mul-mod_first value (2 ^ amount) (2 ^ 64)

pub shifted_right_logical_32 : (value amount : ℕ) → shifted_right_logical 32 value amount ≡ sext32 (value % 2 ^ 32 / 2 ^ amount)
unfolding shifted_right_logical reduced unsigned
shifted_right_logical_32 value amount =
    let below = shr_le (value % 2 ^ 32) amount in
    let same : value % 2 ^ 32 / 2 ^ amount % 2 ^ 32 ≡ value % 2 ^ 32 / 2 ^ amount = omega arith in
    ap (extended 32) same

pub shifted_right_logical_64 : (value amount : ℕ) → value < 2 ^ 64 → shifted_right_logical 64 value amount ≡ value / 2 ^ amount
unfolding shifted_right_logical reduced unsigned
shifted_right_logical_64 value amount small =
    let whole : value % 2 ^ 64 ≡ value = omega arith in
    let below = shr_le value amount in
    extended_64 _ ∙ ap (λ v. v / 2 ^ amount % 2 ^ 64) whole ∙ omega arith

floor_quotient_is : (z : ℤ) (d : ℕ) → shr_z z d ≡ floor_quotient z d
floor_quotient_is (pos n) d = refl
floor_quotient_is (negsuc n) d = refl

at_most : {a b c : ℕ} → a ≤ b → b ≤ c → a ≤ c
at_most below under = omega arith

le_then_lt : {a b c : ℕ} → a ≤ b → b < c → a < c
le_then_lt below under = omega arith

shift_fits : (w : Width) (z : ℤ) (d : ℕ) → FitsSigned w z → FitsSigned w (shr_z z d)
shift_fits w z d fits = record { sfits = le_then_lt (mag_shr z d) fits.sfits }

-- a shift of the machine's integer
pub shifted_integer : (w : Width) (z : ℤ) (d : ℕ) → FitsSigned w z → cast_signed w (cast_unsigned w (shr_z (cast_signed w (cast_unsigned w z)) d)) ≡ floor_quotient z d
shifted_integer w z d fits =
    ap (λ x. cast_signed w (cast_unsigned w (shr_z x d))) (to_z-of_z w z fits)
    ∙ to_z-of_z w (shr_z z d) (shift_fits w z d fits)
    ∙ floor_quotient_is z d

-- ---- products

product_fits_32 : (x y : ℤ) → FitsSigned w32 x → FitsSigned w32 y → FitsSigned w64 (x *ℤ y)
product_fits_32 x y fits_x fits_y = fits_signed_mul w64 x y (2 ^ 31) (2 ^ 31) (nat_abs-le x fits_x.sfits) (nat_abs-le y fits_y.sfits) (omega arith)

product_fits_64 : (x y : ℤ) → FitsSigned w64 x → FitsSigned w64 y → FitsSigned w128 (x *ℤ y)
product_fits_64 x y fits_x fits_y = fits_signed_mul w128 x y (2 ^ 63) (2 ^ 63) (nat_abs-le x fits_x.sfits) (nat_abs-le y fits_y.sfits) (omega arith)

fits_64 : (z : ℤ) → FitsSigned w32 z → FitsSigned w64 z
fits_64 z fits = record { sfits = let small = fits.sfits in omega arith }

fits_128 : (z : ℤ) → FitsSigned w64 z → FitsSigned w128 z
fits_128 z fits = record { sfits = let small = fits.sfits in omega arith }

-- a product of the machine's integers in the wider type, as its bits
abbrev machine_product : Width → ℤ → ℤ → ℕ
machine_product w x y = cast_unsigned w (cast_signed w (cast_unsigned w (cast_signed w (cast_unsigned w x) *ℤ cast_signed w (cast_unsigned w y))))

product_integer : (w : Width) (x y : ℤ) → FitsSigned w x → FitsSigned w y → FitsSigned w (x *ℤ y) → machine_product w x y ≡ cast_unsigned w (x *ℤ y)
product_integer w x y fits_x fits_y fits =
    ap (λ (z : ℤ). cast_unsigned w (cast_signed w (cast_unsigned w (z *ℤ cast_signed w (cast_unsigned w y))))) (to_z-of_z w x fits_x)
    ∙ ap (λ (z : ℤ). cast_unsigned w (cast_signed w (cast_unsigned w (x *ℤ z)))) (to_z-of_z w y fits_y)
    ∙ ap (cast_unsigned w) (to_z-of_z w (x *ℤ y) fits)

pub same_halves : (a b c d : ℕ) → a ≡ c → b ≡ d → ◌≡◌ {A = Halves} (record { hi = a; lo = b }) (record { hi = c; lo = d })
same_halves a b c d p q = ap (λ (x : ℕ). record { hi = x; lo = b }) p ∙ ap (λ (x : ℕ). record { hi = c; lo = x }) q

-- the halves of an integer are those of its two's complement
high_32 : (n : ℕ) → n < 2 ^ 63 → (2 ^ 64 - suc n) / 2 ^ 32 % 2 ^ 32 ≡ 2 ^ 32 - 1 - n / 2 ^ 32 % 2 ^ 32
high_32 n small = omega arith

low_32 : (n : ℕ) → n < 2 ^ 63 → (2 ^ 64 - suc n) % 2 ^ 32 ≡ 2 ^ 32 - 1 - n % 2 ^ 32
low_32 n small = omega arith

pub halves_32 : (z : ℤ) → FitsSigned w64 z → halves 32 (pos (cast_unsigned w64 z)) ≡ halves 32 z
unfolding reduced
halves_32 (pos n) fits = refl
halves_32 (negsuc n) fits = same_halves _ _ _ _ (ap (extended 32) (high_32 n fits.sfits)) (ap (extended 32) (low_32 n fits.sfits))

high_64 : (n : ℕ) → n < 2 ^ 127 → (2 ^ 128 - suc n) / 2 ^ 64 % 2 ^ 64 ≡ 2 ^ 64 - 1 - n / 2 ^ 64 % 2 ^ 64
high_64 n small = omega arith

low_64 : (n : ℕ) → n < 2 ^ 127 → (2 ^ 128 - suc n) % 2 ^ 64 ≡ 2 ^ 64 - 1 - n % 2 ^ 64
low_64 n small = omega arith

pub halves_64 : (z : ℤ) → FitsSigned w128 z → halves 64 (pos (cast_unsigned w128 z)) ≡ halves 64 z
unfolding reduced
halves_64 (pos n) fits = refl
halves_64 (negsuc n) fits = same_halves _ _ _ _ (ap (extended 64) (high_64 n fits.sfits)) (ap (extended 64) (low_64 n fits.sfits))

-- the halves of the machine's product, from operands that were read into the wider type
pub product_halves_32 : (x y wide_x wide_y : ℤ) (n : ℕ) → FitsSigned w32 x → FitsSigned w32 y →
    wide_x ≡ cast_signed w32 (cast_unsigned w32 x) → wide_y ≡ cast_signed w32 (cast_unsigned w32 y) →
    n ≡ cast_unsigned w64 (cast_signed w64 (cast_unsigned w64 (cast_signed w64 (cast_unsigned w64 wide_x) *ℤ cast_signed w64 (cast_unsigned w64 wide_y)))) →
    halves 32 (pos n) ≡ halves 32 (x *ℤ y)
product_halves_32 x y wide_x wide_y n fits_x fits_y is_x is_y is =
    ap (λ (m : ℕ). halves 32 (pos m)) (is ∙ ap (machine_product w64 wide_x) (is_y ∙ to_z-of_z w32 y fits_y) ∙ ap (λ (z : ℤ). machine_product w64 z y) (is_x ∙ to_z-of_z w32 x fits_x) ∙ product_integer w64 x y (fits_64 x fits_x) (fits_64 y fits_y) (product_fits_32 x y fits_x fits_y))
    ∙ halves_32 (x *ℤ y) (product_fits_32 x y fits_x fits_y)

pub product_halves_64 : (x y wide_x wide_y : ℤ) (n : ℕ) → FitsSigned w64 x → FitsSigned w64 y →
    wide_x ≡ cast_signed w64 (cast_unsigned w64 x) → wide_y ≡ cast_signed w64 (cast_unsigned w64 y) →
    n ≡ cast_unsigned w128 (cast_signed w128 (cast_unsigned w128 (cast_signed w128 (cast_unsigned w128 wide_x) *ℤ cast_signed w128 (cast_unsigned w128 wide_y)))) →
    halves 64 (pos n) ≡ halves 64 (x *ℤ y)
product_halves_64 x y wide_x wide_y n fits_x fits_y is_x is_y is =
    ap (λ (m : ℕ). halves 64 (pos m)) (is ∙ ap (machine_product w128 wide_x) (is_y ∙ to_z-of_z w64 y fits_y) ∙ ap (λ (z : ℤ). machine_product w128 z y) (is_x ∙ to_z-of_z w64 x fits_x) ∙ product_integer w128 x y (fits_128 x fits_x) (fits_128 y fits_y) (product_fits_64 x y fits_x fits_y))
    ∙ halves_64 (x *ℤ y) (product_fits_64 x y fits_x fits_y)

-- ---- quotients

pub by_zero : (bits : ℕ) (x y : ℤ) → is_zero y ≡ true → divided bits x y ≡ record { hi = reduced bits x; lo = 2 ^ 64 - 1 }
by_zero bits x y is =
    ap (λ b. if b then record { hi = reduced bits x; lo = 2 ^ 64 - 1 } else record { hi = reduced bits (int_rem x y); lo = reduced bits (int_div x y) }) is

pub by_another : (bits : ℕ) (x y : ℤ) → is_zero y ≡ false → divided bits x y ≡ record { hi = reduced bits (int_rem x y); lo = reduced bits (int_div x y) }
by_another bits x y isnt =
    ap (λ b. if b then record { hi = reduced bits x; lo = 2 ^ 64 - 1 } else record { hi = reduced bits (int_rem x y); lo = reduced bits (int_div x y) }) isnt

pub zero_32 : (z : ℤ) → FitsSigned w32 z → cast_unsigned w32 z ≡ 0 → is_zero z ≡ true
zero_32 (pos n) fits is = eq-eqb n 0 is
zero_32 (negsuc n) fits is = let small = fits.sfits in let none : ⊥ = omega arith in absurd none

pub zero_64 : (z : ℤ) → FitsSigned w64 z → cast_unsigned w64 z ≡ 0 → is_zero z ≡ true
zero_64 (pos n) fits is = eq-eqb n 0 is
zero_64 (negsuc n) fits is = let small = fits.sfits in let none : ⊥ = omega arith in absurd none

pub not_zero : (w : Width) (z : ℤ) → cast_unsigned w z ≢ 0 → is_zero z ≡ false
not_zero w (pos n) other = ne_eqb n 0 other
not_zero w (negsuc n) other = refl

size_of_negated : (n : ℕ) → unsigned_abs (neg_ℤ (pos n)) ≡ n
size_of_negated zero = refl
size_of_negated (suc n) = refl

-- a quotient is no larger than its dividend
quotient_size : (x y : ℤ) → unsigned_abs (int_div x y) ≤ unsigned_abs x
quotient_size (pos a) (pos b) = div-le_self a b
quotient_size (pos a) (negsuc b) = let size = size_of_negated (a / suc b) in let below = div-le_self a (suc b) in omega arith
quotient_size (negsuc a) (pos b) = let size = size_of_negated (suc a / b) in let below = div-le_self (suc a) b in omega arith
quotient_size (negsuc a) (negsuc b) = div-le_self (suc a) (suc b)

-- the machine's integer for one that is at most one too large has the same register
number_of_either_32 : (n : ℕ) (b : Bool) → n < 2 ^ 32 → modulo (if b then pos n else negsuc (2 ^ 32 - suc n)) (2 ^ 32) ≡ n
number_of_either_32 n true small = omega arith
number_of_either_32 n false small = omega arith

wrapped_modulo_32 : (z : ℤ) → unsigned_abs z ≤ 2 ^ 31 → modulo (cast_signed w32 (cast_unsigned w32 z)) (2 ^ 32) ≡ modulo z (2 ^ 32)
wrapped_modulo_32 (pos n) small = number_of_either_32 n (nat_lt n (2 ^ 31)) (omega arith) ∙ omega arith
wrapped_modulo_32 (negsuc n) small = number_of_either_32 (2 ^ 32 - suc n) (nat_lt (2 ^ 32 - suc n) (2 ^ 31)) (omega arith) ∙ omega arith

number_of_either_64 : (n : ℕ) (b : Bool) → n < 2 ^ 64 → modulo (if b then pos n else negsuc (2 ^ 64 - suc n)) (2 ^ 64) ≡ n
number_of_either_64 n true small = omega arith
number_of_either_64 n false small = omega arith

wrapped_modulo_64 : (z : ℤ) → unsigned_abs z ≤ 2 ^ 63 → modulo (cast_signed w64 (cast_unsigned w64 z)) (2 ^ 64) ≡ modulo z (2 ^ 64)
wrapped_modulo_64 (pos n) small = number_of_either_64 n (nat_lt n (2 ^ 63)) (omega arith) ∙ omega arith
wrapped_modulo_64 (negsuc n) small = number_of_either_64 (2 ^ 64 - suc n) (nat_lt (2 ^ 64 - suc n) (2 ^ 63)) (omega arith) ∙ omega arith

-- a quotient of the machine's integers that wraps
pub quotient_integer_32 : (x y q : ℤ) → FitsSigned w32 x → FitsSigned w32 y → FitsSigned w32 q →
    q ≡ int_wrapping_div w32 (cast_signed w32 (cast_unsigned w32 x)) (cast_signed w32 (cast_unsigned w32 y)) →
    reduced 32 (cast_signed w32 (cast_unsigned w32 q)) ≡ reduced 32 (int_div x y)
unfolding reduced
quotient_integer_32 x y q fits_x fits_y fits_q is =
    ap (reduced 32) (to_z-of_z w32 q fits_q ∙ is)
    ∙ ap (λ (z : ℤ). reduced 32 (int_wrapping_div w32 z (cast_signed w32 (cast_unsigned w32 y)))) (to_z-of_z w32 x fits_x)
    ∙ ap (λ (z : ℤ). reduced 32 (int_wrapping_div w32 x z)) (to_z-of_z w32 y fits_y)
    ∙ ap (extended 32) (wrapped_modulo_32 (int_div x y) (at_most (quotient_size x y) (nat_abs-le x fits_x.sfits)))

pub quotient_integer_64 : (x y q : ℤ) → FitsSigned w64 x → FitsSigned w64 y → FitsSigned w64 q →
    q ≡ int_wrapping_div w64 (cast_signed w64 (cast_unsigned w64 x)) (cast_signed w64 (cast_unsigned w64 y)) →
    reduced 64 (cast_signed w64 (cast_unsigned w64 q)) ≡ reduced 64 (int_div x y)
unfolding reduced
quotient_integer_64 x y q fits_x fits_y fits_q is =
    ap (reduced 64) (to_z-of_z w64 q fits_q ∙ is)
    ∙ ap (λ (z : ℤ). reduced 64 (int_wrapping_div w64 z (cast_signed w64 (cast_unsigned w64 y)))) (to_z-of_z w64 x fits_x)
    ∙ ap (λ (z : ℤ). reduced 64 (int_wrapping_div w64 x z)) (to_z-of_z w64 y fits_y)
    ∙ ap (extended 64) (wrapped_modulo_64 (int_div x y) (at_most (quotient_size x y) (nat_abs-le x fits_x.sfits)))

-- a remainder of the machine's integers
pub remainder_integer : (w : Width) (x y r : ℤ) → FitsSigned w x → FitsSigned w y → FitsSigned w r →
    r ≡ int_rem (cast_signed w (cast_unsigned w x)) (cast_signed w (cast_unsigned w y)) →
    cast_signed w (cast_unsigned w r) ≡ int_rem x y
remainder_integer w x y r fits_x fits_y fits_r is =
    to_z-of_z w r fits_r ∙ is
    ∙ ap (λ (z : ℤ). int_rem z (cast_signed w (cast_unsigned w y))) (to_z-of_z w x fits_x)
    ∙ ap (λ (z : ℤ). int_rem x z) (to_z-of_z w y fits_y)
