-- What was written is read back, and only what can be written is read.
use Rattle.std.proofs.Common.{◌≡◌, ◌≢◌, ◌==◌, ◌<◌, ◌≤◌, ◌+◌, ◌*◌, ◌/◌, ◌%◌, ◌^◌, ℕ, zero, suc, Bool, true, false, ◌&&◌, ◌||◌, not, List, [], ◌∷◌, ◌++◌, map, length, get_or, refl, ap, sym, ◌∙◌, subst, arith, Option, Some, None, IfSome, IfNone, length-append, append_assoc, append-nil, add-zero, zero-add, nat_lt, nat_le, if◌then◌else◌, eq-eqb, mul-le-mul_right, ◌⊎◌, inl, inr}
use Rattle.std.specs.List.{list_all}
use Rattle.std.specs.Int.Digits.{digits_of, number_from_digits_after, AllBelowBase}
use Rattle.std.proofs.lemmas.Int.Digits.{number_digits_of, all_below_base_digits_of, first_digits_of}
use Rattle.std.proofs.lemmas.Bool.{eqb-true, le-leb, lt-ltb}
use Rattle.std.proofs.lemmas.List.Folds.{list_all-append}
use Rattle.std.proofs.Math.Nat.{pow-suc, pow-le-pow_right}
use Rattle.std.proofs.lemmas.Grind.{common_steps}
use Rattle.r4_words.specs.Texts.{digit_of, hex_of, dec_of, is_digit, is_hex_digit, value_of_digit, number_after, number_of, is_dec, read_dec, is_hex, read_hex}
use Rattle.r4_words.proofs.Written.{dec_of_small, dec_of_more, length_dec_of_below}

-- Digits

both : (a b : Bool) → (a && b) ≡ true → (a ≡ true) × (b ≡ true)
both true true e = (refl, refl)
both true false e = absurd (cc)
both false b e = absurd (cc)

pub digit_of_value : (code : ℕ) → is_hex_digit code ≡ true → digit_of (value_of_digit code) ≡ code
digit_of_value code is = grind (arith, common_steps)

pub value_of_digit_lt : (code : ℕ) → is_hex_digit code ≡ true → value_of_digit code < 16
value_of_digit_lt code is = grind (arith, common_steps)

pub decimal_lt : (code : ℕ) → is_digit code ≡ true → value_of_digit code < 10
decimal_lt code is = grind (arith, common_steps)

-- each byte of a hexadecimal text is a digit
pub hex_digit_at : (text : List ℕ) (at : ℕ) → list_all is_hex_digit text ≡ true → at < length text → is_hex_digit (get_or text at 0) ≡ true
hex_digit_at [] at all within = absurd (omega arith)
hex_digit_at (code ∷ text) zero all within = (both (is_hex_digit code) (list_all is_hex_digit text) all).0
hex_digit_at (code ∷ text) (suc at) all within = hex_digit_at text at (both (is_hex_digit code) (list_all is_hex_digit text) all).1 (omega arith)

pub digit_is_hex : (code : ℕ) → is_digit code ≡ true → is_hex_digit code ≡ true
digit_is_hex code is = grind (arith, common_steps)

pub value_of_digit_of : (value : ℕ) → value < 16 → value_of_digit (digit_of value) ≡ value
value_of_digit_of value lt = grind (arith, common_steps)

pub digit_of_is_hex : (value : ℕ) → value < 16 → is_hex_digit (digit_of value) ≡ true
digit_of_is_hex value lt = grind (arith, common_steps)

pub decimal_is_digit : (value : ℕ) → value < 10 → is_digit (48 + value) ≡ true
decimal_is_digit value lt = grind (arith, common_steps)

pub value_of_decimal : (value : ℕ) → value < 10 → value_of_digit (48 + value) ≡ value
value_of_decimal value lt = grind (arith, common_steps)

pub number_after_append : (base n : ℕ) (xs ys : List ℕ) → number_after base n (xs ++ ys) ≡ number_after base (number_after base n xs) ys
number_after_append base n [] ys = refl
number_after_append base n (x ∷ xs) ys = number_after_append base (n * base + value_of_digit x) xs ys

-- Hexadecimal

sums : (n p q value : ℕ) → q ≡ p * 16 → (n * p + value / 16) * 16 + value % 16 ≡ n * q + value
sums n p q value is = rw is (grind (arith, common_steps))

-- the number of the low digits of a value that fits in them
hex_back : (digits value n : ℕ) → value < 16 ^ digits → number_after 16 n (hex_of digits value) ≡ n * 16 ^ digits + value
unfolding hex_of
hex_back zero value n fits = omega arith
hex_back (suc digits) value n fits =
    let high : value / 16 < 16 ^ digits = omega (arith, pow-suc 16 digits) in
    number_after_append 16 n (hex_of digits (value / 16)) (digit_of (value % 16) ∷ [])
    ∙ ap (λ d. number_after 16 n (hex_of digits (value / 16)) * 16 + d) (value_of_digit_of (value % 16) (omega arith))
    ∙ ap (λ m. m * 16 + value % 16) (hex_back digits (value / 16) n high)
    ∙ sums n (16 ^ digits) (16 ^ suc digits) value (pow-suc 16 digits)

pub number_of_hex : (digits value : ℕ) → value < 16 ^ digits → number_of 16 (hex_of digits value) ≡ value
number_of_hex digits value fits = omega (arith, hex_back digits value 0 fits)

pub hex_of_is_hex : (digits value : ℕ) → list_all is_hex_digit (hex_of digits value) ≡ true
unfolding hex_of
hex_of_is_hex zero value = refl
hex_of_is_hex (suc digits) value =
    let last : list_all is_hex_digit (digit_of (value % 16) ∷ []) ≡ true = rw (digit_of_is_hex (value % 16) (omega arith)) refl in
    list_all-append is_hex_digit (hex_of digits (value / 16)) (digit_of (value % 16) ∷ [])
    ∙ ap (λ b. b && list_all is_hex_digit (digit_of (value % 16) ∷ [])) (hex_of_is_hex digits (value / 16))
    ∙ last

pub length_hex_of : (digits value : ℕ) → length (hex_of digits value) ≡ digits
unfolding hex_of
length_hex_of zero value = refl
length_hex_of (suc digits) value = rw length-append (omega (arith, length_hex_of digits (value / 16)))

one_more : (k n code : ℕ) → is_hex_digit code ≡ true → hex_of (suc k) (n * 16 + value_of_digit code) ≡ hex_of k n ++ code ∷ []
unfolding hex_of
one_more k n code is =
    let small : value_of_digit code < 16 = value_of_digit_lt code is in
    let high : (n * 16 + value_of_digit code) / 16 ≡ n = omega arith in
    let low : (n * 16 + value_of_digit code) % 16 ≡ value_of_digit code = omega arith in
    ap (λ m. hex_of k m ++ digit_of ((n * 16 + value_of_digit code) % 16) ∷ []) high
    ∙ ap (λ d. hex_of k n ++ digit_of d ∷ []) low
    ∙ ap (λ c. hex_of k n ++ c ∷ []) (digit_of_value code is)

-- the digits of a number that begins with another number's and goes on with a text
hex_forth : (k n : ℕ) (text : List ℕ) → list_all is_hex_digit text ≡ true → hex_of (k + length text) (number_after 16 n text) ≡ hex_of k n ++ text
hex_forth k n [] is = ap (λ d. hex_of d n) (add-zero k) ∙ sym (append-nil (hex_of k n))
hex_forth k n (code ∷ text) is =
    let parts = both (is_hex_digit code) (list_all is_hex_digit text) is in
    let digits : k + suc (length text) ≡ suc k + length text = omega arith in
    ap (λ d. hex_of d (number_after 16 (n * 16 + value_of_digit code) text)) digits
    ∙ hex_forth (suc k) (n * 16 + value_of_digit code) text parts.1
    ∙ ap (λ front. front ++ text) (one_more k n code parts.0)
    ∙ append_assoc (hex_of k n) (code ∷ []) text

pub hex_of_number : (text : List ℕ) → list_all is_hex_digit text ≡ true → hex_of (length text) (number_of 16 text) ≡ text
unfolding hex_of
hex_of_number text is = ap (λ d. hex_of d (number_after 16 0 text)) (sym (zero-add (length text))) ∙ hex_forth 0 0 text is

-- a number of so many hexadecimal digits
hex_after_lt : (n : ℕ) (text : List ℕ) → list_all is_hex_digit text ≡ true → number_after 16 n text < (n + 1) * 16 ^ length text
hex_after_lt n [] is = omega arith
hex_after_lt n (code ∷ text) is =
    let parts = both (is_hex_digit code) (list_all is_hex_digit text) is in
    let small : value_of_digit code < 16 = value_of_digit_lt code parts.0 in
    let below : number_after 16 (n * 16 + value_of_digit code) text < (n * 16 + value_of_digit code + 1) * 16 ^ length text = hex_after_lt (n * 16 + value_of_digit code) text parts.1 in
    let more : n * 16 + value_of_digit code + 1 ≤ (n + 1) * 16 = omega arith in
    let larger : (n * 16 + value_of_digit code + 1) * 16 ^ length text ≤ (n + 1) * 16 * 16 ^ length text = mul-le-mul_right (16 ^ length text) more in
    let power : (n + 1) * 16 * 16 ^ length text ≡ (n + 1) * 16 ^ suc (length text) = rw (pow-suc 16 (length text)) (grind (arith, common_steps)) in
    omega (arith, power)

pub number_of_hex_lt : (text : List ℕ) → list_all is_hex_digit text ≡ true → number_of 16 text < 16 ^ length text
number_of_hex_lt text is = omega (arith, hex_after_lt 0 text is)

-- one more digit has room in 64 bits
pub hex_room : (n i len digit : ℕ) → n < 16 ^ i → i < len → len ≤ 16 → digit < 16 → n * 16 + digit < 2 ^ 64
hex_room n i len digit below here short small =
    let power : 16 ^ suc i ≤ 16 ^ 16 = pow-le-pow_right {n = 16} (omega arith) {i = suc i} {j = 16} (omega arith) in
    omega (arith, power, pow-suc 16 i)

pub read_hex_of : (digits value : ℕ) → value < 16 ^ digits → read_hex (hex_of digits value) digits ≡ Some value
read_hex_of digits value fits =
    rw (eq-eqb (length (hex_of digits value)) digits (length_hex_of digits value), hex_of_is_hex digits value, number_of_hex digits value fits) refl

-- Decimal

one_more_decimal : (n code : ℕ) → 0 < n → is_digit code ≡ true → dec_of (n * 10 + value_of_digit code) ≡ dec_of n ++ code ∷ []
one_more_decimal n code some is =
    let small : value_of_digit code < 10 = decimal_lt code is in
    let high : (n * 10 + value_of_digit code) / 10 ≡ n = omega arith in
    let low : (n * 10 + value_of_digit code) % 10 ≡ value_of_digit code = omega arith in
    dec_of_more (n * 10 + value_of_digit code) (omega arith)
    ∙ ap (λ m. dec_of m ++ digit_of ((n * 10 + value_of_digit code) % 10) ∷ []) high
    ∙ ap (λ d. dec_of n ++ digit_of d ∷ []) low
    ∙ ap (λ c. dec_of n ++ c ∷ []) (digit_of_value code (digit_is_hex code is))

dec_forth : (n : ℕ) (text : List ℕ) → 0 < n → list_all is_digit text ≡ true → dec_of (number_after 10 n text) ≡ dec_of n ++ text
dec_forth n [] some is = sym (append-nil (dec_of n))
dec_forth n (code ∷ text) some is =
    let parts = both (is_digit code) (list_all is_digit text) is in
    dec_forth (n * 10 + value_of_digit code) text (omega arith) parts.1
    ∙ ap (λ front. front ++ text) (one_more_decimal n code some parts.0)
    ∙ append_assoc (dec_of n) (code ∷ []) text

first_decimal : (code : ℕ) → is_digit code ≡ true → dec_of (0 * 10 + value_of_digit code) ≡ code ∷ []
first_decimal code is =
    let small : value_of_digit code < 10 = decimal_lt code is in
    let same : (0 * 10 + value_of_digit code) % 10 ≡ value_of_digit code = omega arith in
    dec_of_small (0 * 10 + value_of_digit code) (omega arith)
    ∙ ap (λ d. digit_of d ∷ []) same
    ∙ ap (λ c. c ∷ []) (digit_of_value code (digit_is_hex code is))

above_zero : (code : ℕ) → is_digit code ≡ true → not (code == 48) ≡ true → 0 < 0 * 10 + value_of_digit code
above_zero code is more = grind (arith, common_steps)

-- the digits of the number of a text without a leading zero
dec_of_long : (code : ℕ) (text : List ℕ) → list_all is_digit (code ∷ text) ≡ true → not (code == 48) ≡ true → dec_of (number_of 10 (code ∷ text)) ≡ code ∷ text
dec_of_long code text is more =
    let parts = both (is_digit code) (list_all is_digit text) is in
    dec_forth (0 * 10 + value_of_digit code) text (above_zero code parts.0 more) parts.1
    ∙ ap (λ front. front ++ text) (first_decimal code parts.0)

dec_of_first : (text : List ℕ) → (length text == 1) ≡ true → list_all is_digit text ≡ true → dec_of (number_of 10 text) ≡ text
dec_of_first [] one is = absurd (cc)
dec_of_first (code ∷ []) one is = first_decimal code (both (is_digit code) true is).0
dec_of_first (code ∷ next ∷ text) one is = absurd (omega (arith, eqb-true _ _ one))

either : (a b : Bool) → (a || b) ≡ true → (a ≡ true) ⊎ (b ≡ true)
either true b e = inl refl
either false b e = inr e

dec_of_any : (text : List ℕ) → nat_lt 0 (length text) ≡ true → list_all is_digit text ≡ true → not (get_or text 0 0 == 48) ≡ true → dec_of (number_of 10 text) ≡ text
dec_of_any [] some is more = absurd (cc)
dec_of_any (code ∷ text) some is more = dec_of_long code text is more

record DecimalParts (text : List ℕ) : Type 0 where
  some : nat_lt 0 (length text) ≡ true
  digits : list_all is_digit text ≡ true
  first : ((length text == 1) || not (get_or text 0 0 == 48)) ≡ true
  below : nat_lt (number_of 10 text) (2 ^ 32) ≡ true

parts_of : (text : List ℕ) → is_dec text ≡ true → DecimalParts text
parts_of text is =
    let some = nat_lt 0 (length text) in
    let short = nat_le (length text) 10 in
    let digits = list_all is_digit text in
    let first = (length text == 1) || not (get_or text 0 0 == 48) in
    let below = nat_lt (number_of 10 text) (2 ^ 32) in
    let five = both (some && short && digits && first) below is in
    let four = both (some && short && digits) first five.0 in
    let three = both (some && short) digits four.0 in
    record { some = (both some short three.0).0; digits = three.1; first = four.1; below = five.1 }

-- a decimal text is the text of its number
pub dec_of_number : (text : List ℕ) → is_dec text ≡ true → dec_of (number_of 10 text) ≡ text
dec_of_number text is =
    let parts = parts_of text is in
    elim (either (length text == 1) (not (get_or text 0 0 == 48)) parts.first) [
      | inl one ↦ dec_of_first text one parts.digits
      | inr more ↦ dec_of_any text parts.some parts.digits more
    ]

after_digits : (n : ℕ) (digits : List ℕ) → AllBelowBase 10 digits → number_after 10 n (map (λ d. 48 + d) digits) ≡ number_from_digits_after 10 n digits
after_digits n [] small = refl
after_digits n (d ∷ digits) small =
    ap (λ v. number_after 10 (n * 10 + v) (map (λ d. 48 + d) digits)) (value_of_decimal d small.0) ∙ after_digits (n * 10 + d) digits small.1

-- the number of a text is the value whose digits it has
pub number_of_dec : (value : ℕ) → number_of 10 (dec_of value) ≡ value
unfolding dec_of
number_of_dec zero = refl
number_of_dec (suc n) = after_digits 0 (digits_of 10 (suc n)) (all_below_base_digits_of 10 (suc n) (omega arith)) ∙ number_digits_of 10 (suc n) (omega arith)

-- values with the same text are the same
pub same_from_dec_of : (m n : ℕ) → dec_of m ≡ dec_of n → m ≡ n
same_from_dec_of m n same = sym (number_of_dec m) ∙ ap (number_of 10) same ∙ number_of_dec n

digits_are_digits : (digits : List ℕ) → AllBelowBase 10 digits → list_all is_digit (map (λ d. 48 + d) digits) ≡ true
digits_are_digits [] small = refl
digits_are_digits (d ∷ digits) small = rw (decimal_is_digit d small.0, digits_are_digits digits small.1) refl

pub dec_of_are_digits : (value : ℕ) → list_all is_digit (dec_of value) ≡ true
unfolding dec_of
dec_of_are_digits zero = refl
dec_of_are_digits (suc n) = digits_are_digits (digits_of 10 (suc n)) (all_below_base_digits_of 10 (suc n) (omega arith))

no_zero_first : (digits : List ℕ) → 0 < get_or digits 0 0 → (not (get_or (map (λ d. 48 + d) digits) 0 0 == 48) ≡ true) × (nat_lt 0 (length (map (λ d. 48 + d) digits)) ≡ true)
no_zero_first [] some = absurd (omega arith)
no_zero_first (d ∷ digits) some = (grind (arith, common_steps), grind (arith, common_steps))

some_digits : (value : ℕ) → nat_lt 0 (length (dec_of value)) ≡ true
unfolding dec_of
some_digits zero = refl
some_digits (suc n) = (no_zero_first (digits_of 10 (suc n)) (first_digits_of 10 (suc n) (omega arith) (omega arith))).1

or_right : (a b : Bool) → b ≡ true → (a || b) ≡ true
or_right true b e = refl
or_right false b e = e

no_leading_zero : (value : ℕ) → ((length (dec_of value) == 1) || not (get_or (dec_of value) 0 0 == 48)) ≡ true
unfolding dec_of
no_leading_zero zero = refl
no_leading_zero (suc n) = or_right _ _ (no_zero_first (digits_of 10 (suc n)) (first_digits_of 10 (suc n) (omega arith) (omega arith))).0

-- the text of a value below 2 ^ 32 is a decimal text, and is read as that value
pub read_dec_of : (value : ℕ) → value < 2 ^ 32 → read_dec (dec_of value) ≡ Some value
read_dec_of value lt =
    let short : length (dec_of value) ≤ 10 = length_dec_of_below 10 value (omega arith) (omega arith) in
    rw (some_digits value, le-leb _ _ short, dec_of_are_digits value, no_leading_zero value, number_of_dec value, lt-ltb _ _ lt) refl

read_cases : (text : List ℕ) (b : Bool) → is_dec text ≡ b → IfSome (if b then Some (number_of 10 text) else None) (λ n. text ≡ dec_of n)
read_cases text true is = sym (dec_of_number text is)
read_cases text false is = tt

-- what is read is the number of which it is the text
pub read_dec_some : (text : List ℕ) → IfSome (read_dec text) (λ n. text ≡ dec_of n)
read_dec_some text = read_cases text (is_dec text) refl

-- the text of a value is read as that value
pub read_dec_is : (text : List ℕ) (n : ℕ) → n < 2 ^ 32 → text ≡ dec_of n → read_dec text ≡ Some n
read_dec_is text n lt same = ap read_dec same ∙ read_dec_of n lt

hex_cases : (text : List ℕ) (digits : ℕ) (b : Bool) → is_hex text digits ≡ b → IfSome (if b then Some (number_of 16 text) else None) (λ n. (text ≡ hex_of digits n) × (n < 16 ^ digits))
hex_cases text digits true is =
    let parts = both (length text == digits) (list_all is_hex_digit text) is in
    let long : length text ≡ digits = eqb-true _ _ parts.0 in
    (subst (λ d. text ≡ hex_of d (number_of 16 text)) long (sym (hex_of_number text parts.1)), subst (λ d. number_of 16 text < 16 ^ d) long (number_of_hex_lt text parts.1))
hex_cases text digits false is = tt

pub read_hex_some : (text : List ℕ) (digits : ℕ) → IfSome (read_hex text digits) (λ n. (text ≡ hex_of digits n) × (n < 16 ^ digits))
read_hex_some text digits = hex_cases text digits (is_hex text digits) refl

pub read_hex_is : (text : List ℕ) (digits n : ℕ) → n < 16 ^ digits → text ≡ hex_of digits n → read_hex text digits ≡ Some n
read_hex_is text digits n lt same = ap (λ t. read_hex t digits) same ∙ read_hex_of digits n lt

dec_none : (text : List ℕ) (r : Option ℕ) → read_dec text ≡ r → IfNone r ((n : ℕ) → n < 2 ^ 32 → text ≢ dec_of n)
dec_none text None is = λ n lt same. let back = read_dec_is text n lt same in cc
dec_none text (Some m) is = tt

-- what is not read is no value's text
pub read_dec_none : (text : List ℕ) → IfNone (read_dec text) ((n : ℕ) → n < 2 ^ 32 → text ≢ dec_of n)
read_dec_none text = dec_none text (read_dec text) refl

not_hex : (text : List ℕ) (digits : ℕ) → is_hex text digits ≡ false → (n : ℕ) → text ≢ hex_of digits n
not_hex text digits is n same =
    let long : (length text == digits) ≡ true = eq-eqb _ _ (ap length same ∙ length_hex_of digits n) in
    let all : list_all is_hex_digit text ≡ true = ap (list_all is_hex_digit) same ∙ hex_of_is_hex digits n in
    let yes_it_is : is_hex text digits ≡ true = rw (long, all) refl in
    cc

hex_none : (text : List ℕ) (digits : ℕ) (b : Bool) → is_hex text digits ≡ b → IfNone (if b then Some (number_of 16 text) else None) ((n : ℕ) → text ≢ hex_of digits n)
hex_none text digits true is = tt
hex_none text digits false is = not_hex text digits is

pub read_hex_none : (text : List ℕ) (digits : ℕ) → IfNone (read_hex text digits) ((n : ℕ) → text ≢ hex_of digits n)
read_hex_none text digits = hex_none text digits (is_hex text digits) refl
