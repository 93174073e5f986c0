-- The digits of a number: what they are, and the number that they are read as.
use Rattle.std.proofs.Common.{◌≡◌, ◌<◌, ◌+◌, ◌*◌, ℕ, zero, suc, true, List, [], ◌∷◌, map, length, get_or, refl, ap, ◌∙◌, arith}
use Rattle.std.specs.List.{list_all}
use Rattle.std.specs.Int.Digits.{digits_of, number_from_digits_after, AllBelowBase}
use Rattle.std.proofs.lemmas.Int.Digits.{number_digits_of, all_below_base_digits_of, first_digits_of}
use Rattle.std.proofs.lemmas.List.{length-map}
use Rattle.std.proofs.lemmas.Grind.{common_steps}
use Rattle.r4_words.specs.Texts.{dec_of, digit_of, is_digit, value_of_digit, number_after}
use Rattle.r4_words.proofs.ReadBack.{dec_of_are_digits}
use Rattle.mips_text.specs.Tokens.{is_hex_digit}
use Rattle.mips_text.specs.Values.{hex_digits_of}

some_from_first : (digits : List ℕ) → 0 < get_or digits 0 0 → 0 < length digits
some_from_first [] some = absurd (omega arith)
some_from_first (digit ∷ digits) some = omega arith

some_mapped : (code_of : ℕ → ℕ) (digits : List ℕ) → 0 < get_or digits 0 0 → 0 < length (map code_of digits)
some_mapped code_of digits some = rw length-map (some_from_first digits some)

pub some_decimal : (n : ℕ) → 0 < length (dec_of n)
unfolding dec_of
some_decimal zero = omega arith
some_decimal (suc n) = some_mapped (λ digit. 48 + digit) (digits_of 10 (suc n)) (first_digits_of 10 (suc n) (omega arith) (omega arith))

pub some_hexadecimal : (n : ℕ) → 0 < length (hex_digits_of n)
unfolding hex_digits_of
some_hexadecimal zero = omega arith
some_hexadecimal (suc n) = some_mapped digit_of (digits_of 16 (suc n)) (first_digits_of 16 (suc n) (omega arith) (omega arith))

pub all_decimal : (n : ℕ) → list_all is_digit (dec_of n) ≡ true
all_decimal n = dec_of_are_digits n

digit_of_is_hex : (digit : ℕ) → digit < 16 → is_hex_digit (digit_of digit) ≡ true
digit_of_is_hex digit lt = grind (arith, common_steps)

all_digits_of : (digits : List ℕ) → AllBelowBase 16 digits → list_all is_hex_digit (map digit_of digits) ≡ true
all_digits_of [] small = refl
all_digits_of (digit ∷ digits) small = rw (digit_of_is_hex digit small.0, all_digits_of digits small.1) refl

pub all_hexadecimal : (n : ℕ) → list_all is_hex_digit (hex_digits_of n) ≡ true
unfolding hex_digits_of
all_hexadecimal zero = refl
all_hexadecimal (suc n) = all_digits_of (digits_of 16 (suc n)) (all_below_base_digits_of 16 (suc n) (omega arith))

-- WHAT THEY ARE READ AS

value_of_decimal : (digit : ℕ) → digit < 10 → value_of_digit (48 + digit) ≡ digit
value_of_decimal digit lt = grind (arith, common_steps)

value_of_hexadecimal : (digit : ℕ) → digit < 16 → value_of_digit (digit_of digit) ≡ digit
value_of_hexadecimal digit lt = grind (arith, common_steps)

after_decimal : (number : ℕ) (digits : List ℕ) → AllBelowBase 10 digits → number_after 10 number (map (λ digit. 48 + digit) digits) ≡ number_from_digits_after 10 number digits
after_decimal number [] small = refl
after_decimal number (digit ∷ digits) small =
    ap (λ value. number_after 10 (number * 10 + value) (map (λ d. 48 + d) digits)) (value_of_decimal digit small.0) ∙ after_decimal (number * 10 + digit) digits small.1

after_hexadecimal : (number : ℕ) (digits : List ℕ) → AllBelowBase 16 digits → number_after 16 number (map digit_of digits) ≡ number_from_digits_after 16 number digits
after_hexadecimal number [] small = refl
after_hexadecimal number (digit ∷ digits) small =
    ap (λ value. number_after 16 (number * 16 + value) (map digit_of digits)) (value_of_hexadecimal digit small.0) ∙ after_hexadecimal (number * 16 + digit) digits small.1

-- decimal digits are read as the number whose digits they are
pub number_of_decimal : (n : ℕ) → number_after 10 0 (dec_of n) ≡ n
unfolding dec_of
number_of_decimal zero = refl
number_of_decimal (suc n) = after_decimal 0 (digits_of 10 (suc n)) (all_below_base_digits_of 10 (suc n) (omega arith)) ∙ number_digits_of 10 (suc n) (omega arith)

-- and so are hexadecimal ones
pub number_of_hexadecimal : (n : ℕ) → number_after 16 0 (hex_digits_of n) ≡ n
unfolding hex_digits_of
number_of_hexadecimal zero = refl
number_of_hexadecimal (suc n) = after_hexadecimal 0 (digits_of 16 (suc n)) (all_below_base_digits_of 16 (suc n) (omega arith)) ∙ number_digits_of 16 (suc n) (omega arith)
