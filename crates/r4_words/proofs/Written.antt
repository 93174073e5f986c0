-- How the digits of a number begin and go on.
use Rattle.std.proofs.Common.{◌≡◌, ◌<◌, ◌≤◌, ◌+◌, ◌*◌, ◌/◌, ◌%◌, ◌^◌, ◌-◌, ℕ, zero, suc, List, [], ◌∷◌, ◌++◌, map, length, refl, ap, sym, ◌∙◌, arith, append_assoc}
use Rattle.std.specs.Int.Digits.{digits_of}
use Rattle.std.proofs.lemmas.Int.Digits.{digits_of_step, length-digits_of-le}
use Rattle.std.proofs.lemmas.List.{map-append, length-map}
use Rattle.std.proofs.lemmas.Nat.{pow-add}
use Rattle.std.proofs.lemmas.Grind.{common_steps}
use Rattle.std.proofs.Math.Nat.{pow-suc, pow-le-pow_right, div-div-eq-div-mul, div-eq_of_lt}
use Rattle.r4_words.specs.Texts.{hex_of, dec_of, digit_of}

pub hex_of_none : (digits value : ℕ) → digits ≡ 0 → hex_of digits value ≡ []
unfolding hex_of
hex_of_none zero value e = refl
hex_of_none (suc digits) value e = absurd (omega arith)

pub hex_of_more : (digits value : ℕ) → 0 < digits → hex_of digits value ≡ hex_of (digits - 1) (value / 16) ++ digit_of (value % 16) ∷ []
unfolding hex_of
hex_of_more zero value lt = absurd (omega arith)
hex_of_more (suc digits) value lt = let same : digits ≡ suc digits - 1 = omega arith in ap (λ d. hex_of d (value / 16) ++ digit_of (value % 16) ∷ []) same

-- one digit more, from the high one on: those of a value from a place on
pub hex_of_next : (value done below left : ℕ) → left ≡ below + 1 → hex_of (done + 1) (value / 16 ^ below) ≡ hex_of done (value / 16 ^ left) ++ digit_of (value / 16 ^ below % 16) ∷ []
hex_of_next value done below left is =
    let fewer : done + 1 - 1 ≡ done = omega arith in
    let moved : value / 16 ^ below / 16 ≡ value / 16 ^ left = div-div-eq-div-mul value (16 ^ below) 16 ∙ ap (λ power. value / power) (sym (pow-suc 16 below)) ∙ ap (λ k. value / 16 ^ k) (omega (arith, is)) in
    hex_of_more (done + 1) (value / 16 ^ below) (omega arith)
    ∙ ap (λ d. hex_of d (value / 16 ^ below / 16) ++ digit_of (value / 16 ^ below % 16) ∷ []) fewer
    ∙ ap (λ v. hex_of done v ++ digit_of (value / 16 ^ below % 16) ∷ []) moved

-- a text with the high digits behind it, and one digit more
pub hex_of_pushed : (value digits place : ℕ) (before front now : List ℕ) → place < digits → front ≡ before ++ hex_of place (value / 16 ^ (digits - place)) →
    now ≡ front ++ digit_of (value / 16 ^ (digits - 1 - place) % 16) ∷ [] → now ≡ before ++ hex_of (place + 1) (value / 16 ^ (digits - (place + 1)))
hex_of_pushed value digits place before front now lt is pushed =
    let below = digits - 1 - place in
    let last = digit_of (value / 16 ^ below % 16) ∷ [] in
    let same : below ≡ digits - (place + 1) = omega arith in
    pushed
    ∙ ap (λ f. f ++ last) is
    ∙ append_assoc before (hex_of place (value / 16 ^ (digits - place))) last
    ∙ ap (λ more. before ++ more) (sym (hex_of_next value place below (digits - place) (omega arith)))
    ∙ ap (λ k. before ++ hex_of (place + 1) (value / 16 ^ k)) same

-- so many digits are four times as many bits
sixteen_power : (digits : ℕ) → 16 ^ digits ≡ 2 ^ (4 * digits)
sixteen_power zero = refl
sixteen_power (suc digits) =
    pow-suc 16 digits ∙ ap (λ power. power * 16) (sixteen_power digits) ∙ sym (pow-add 2 (4 * digits) 4) ∙ ap (λ bits. 2 ^ bits) (omega arith)

pub div_shifted : (value below : ℕ) → value / 16 ^ below ≡ value / 2 ^ (4 * below)
div_shifted value below = ap (λ power. value / power) (sixteen_power below)

-- a value of 64 bits has no digits but zeros from the sixteenth on
pub div_shifted_out : (value below : ℕ) → value < 2 ^ 64 → 16 ≤ below → value / 16 ^ below ≡ 0
div_shifted_out value below lt le =
    let power : 16 ^ 16 ≤ 16 ^ below = pow-le-pow_right {n = 16} (omega arith) {i = 16} {j = below} le in
    div-eq_of_lt {n = value} {m = 16 ^ below} (omega (arith, power))

positive : (value : ℕ) → 0 < value → dec_of value ≡ map (λ d. 48 + d) (digits_of 10 value)
unfolding dec_of
positive zero lt = absurd (omega arith)
positive (suc n) lt = refl

low_digit : (value : ℕ) → value < 10 → 48 + value ≡ digit_of value
low_digit value lt = grind (arith, common_steps)

-- the text of the digits that precede the last one
text_step : (value : ℕ) (before : List ℕ) → 0 < value → map (λ d. 48 + d) (digits_of 10 (value / 10)) ≡ before → dec_of value ≡ before ++ digit_of (value % 10) ∷ []
text_step value before some is =
    positive value some
    ∙ ap (map (λ d. 48 + d)) (digits_of_step 10 value (omega arith) some)
    ∙ map-append (λ d. 48 + d) (digits_of 10 (value / 10)) (value % 10 ∷ [])
    ∙ ap (λ front. front ++ (48 + value % 10) ∷ []) is
    ∙ ap (λ d. before ++ d ∷ []) (low_digit (value % 10) (omega arith))

pub dec_of_small : (value : ℕ) → value < 10 → dec_of value ≡ digit_of (value % 10) ∷ []
unfolding dec_of
dec_of_small zero lt = refl
dec_of_small (suc n) lt = let none : suc n / 10 ≡ 0 = omega arith in text_step (suc n) [] (omega arith) (ap (λ q. map (λ d. 48 + d) (digits_of 10 q)) none)

pub dec_of_more : (value : ℕ) → 10 ≤ value → dec_of value ≡ dec_of (value / 10) ++ digit_of (value % 10) ∷ []
dec_of_more value le = text_step value (dec_of (value / 10)) (omega arith) (sym (positive (value / 10) (omega arith)))

-- how many digits a value below a power of ten has
pub length_dec_of_below : (count value : ℕ) → 0 < count → value < 10 ^ count → length (dec_of value) ≤ count
unfolding dec_of
length_dec_of_below count zero some lt = some
length_dec_of_below count (suc n) some lt =
    let digits : length (digits_of 10 (suc n)) ≤ count = length-digits_of-le 10 count (suc n) (omega arith) lt in
    let is : dec_of (suc n) ≡ map (λ d. 48 + d) (digits_of 10 (suc n)) = positive (suc n) (omega arith) in
    rw (is, length-map) digits

-- a value of 64 bits has at most 20 digits
pub length_dec_of : (value : ℕ) → value < 2 ^ 64 → length (dec_of value) ≤ 20
length_dec_of value lt = length_dec_of_below 20 value (omega arith) (omega arith)
