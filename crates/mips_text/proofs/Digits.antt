-- How the hexadecimal digits of a number begin and go on.
use Rattle.std.proofs.Common.{◌≡◌, ◌<◌, ◌≤◌, ◌/◌, ◌%◌, ◌^◌, ℕ, zero, suc, List, [], ◌∷◌, ◌++◌, map, length, refl, ap, sym, ◌∙◌, arith}
use Rattle.std.specs.Int.Digits.{digits_of}
use Rattle.std.proofs.lemmas.Int.Digits.{digits_of_step, length-digits_of-le}
use Rattle.std.proofs.lemmas.Grind.{common_steps}
use Rattle.std.proofs.lemmas.List.{map-append, length-map}
use Rattle.r4_words.specs.Texts.{digit_of, hex_of}
use Rattle.mips_text.specs.Values.{hex_digits_of}

positive : (value : ℕ) → 0 < value → hex_digits_of value ≡ map digit_of (digits_of 16 value)
unfolding hex_digits_of
positive zero lt = absurd (omega arith)
positive (suc n) lt = refl

-- the text of the digits that precede the last one
text_step : (value : ℕ) (before : List ℕ) → 0 < value → map digit_of (digits_of 16 (value / 16)) ≡ before → hex_digits_of value ≡ before ++ digit_of (value % 16) ∷ []
text_step value before some is =
    positive value some
    ∙ ap (map digit_of) (digits_of_step 16 value (omega arith) some)
    ∙ map-append digit_of (digits_of 16 (value / 16)) (value % 16 ∷ [])
    ∙ ap (λ front. front ++ digit_of (value % 16) ∷ []) is

pub hex_digits_small : (value : ℕ) → value < 16 → hex_digits_of value ≡ digit_of (value % 16) ∷ []
unfolding hex_digits_of
hex_digits_small zero lt = refl
hex_digits_small (suc n) lt = let none : suc n / 16 ≡ 0 = omega arith in text_step (suc n) [] (omega arith) (ap (λ q. map digit_of (digits_of 16 q)) none)

pub hex_digits_more : (value : ℕ) → 16 ≤ value → hex_digits_of value ≡ hex_digits_of (value / 16) ++ digit_of (value % 16) ∷ []
hex_digits_more value le = text_step value (hex_digits_of (value / 16)) (omega arith) (sym (positive (value / 16) (omega arith)))

-- one digit of a fixed width
pub hex_of_one : (value : ℕ) → hex_of 1 value ≡ digit_of (value % 16) ∷ []
unfolding hex_of
hex_of_one value = refl

-- a number of 32 bits has at most 8 digits
length_below : (count value : ℕ) → 0 < count → value < 16 ^ count → length (hex_digits_of value) ≤ count
unfolding hex_digits_of
length_below count zero some lt = some
length_below count (suc n) some lt =
    let digits : length (digits_of 16 (suc n)) ≤ count = length-digits_of-le 16 count (suc n) (omega arith) lt in
    let is : hex_digits_of (suc n) ≡ map digit_of (digits_of 16 (suc n)) = positive (suc n) (omega arith) in
    rw (is, length-map) digits

pub length_hex_digits_of : (value : ℕ) → value < 2 ^ 32 → length (hex_digits_of value) ≤ 8
length_hex_digits_of value lt = length_below 8 value (omega arith) (omega arith)

-- hexadecimal digits one by one, the last of them and those before it; and how many there are
pub ruleset hex_digit_by_digit = (hex_digits_small, hex_digits_more, hex_of_one, common_steps)

pub ruleset hex_digit_counts = (length_hex_digits_of, common_steps)
