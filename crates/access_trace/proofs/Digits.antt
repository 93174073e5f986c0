-- The digits of a number, several at a time.
use Rattle.std.proofs.Common.{◌≡◌, ◌<◌, ◌≤◌, ◌+◌, ◌/◌, ◌%◌, ◌^◌, ℕ, zero, suc, List, [], ◌∷◌, ◌++◌, refl, ap, sym, ◌∙◌, arith, append_assoc, append-nil, length, length-append, get_or}
use Rattle.std.proofs.lemmas.Grind.{common_steps}
use Rattle.std.proofs.Math.Nat.{div-div-eq-div-mul, pow-suc, mul_comm}
use Rattle.r4_words.specs.Texts.{hex_of, dec_of, digit_of}
use Rattle.r4_words.proofs.Written.{dec_of_more, dec_of_small, length_dec_of_below}

-- so many high digits of a number, and so many low ones behind them
pub hex_of_split : (high low value : ℕ) → hex_of (high + low) value ≡ hex_of high (value / 16 ^ low) ++ hex_of low value
unfolding hex_of
hex_of_split high zero value =
    let none : high + 0 ≡ high = omega arith in
    let whole : value ≡ value / 1 = omega arith in
    ap (λ n. hex_of n value) none ∙ sym (append-nil (hex_of high value)) ∙ ap (λ n. hex_of high n ++ []) whole
hex_of_split high (suc low) value =
    let power : value / 16 / 16 ^ low ≡ value / 16 ^ suc low = div-div-eq-div-mul value 16 (16 ^ low) ∙ ap (λ n. value / n) (mul_comm 16 (16 ^ low) ∙ sym (pow-suc 16 low)) in
    let more : high + suc low ≡ suc (high + low) = omega arith in
    ap (λ n. hex_of n value) more
    ∙ ap (λ front. front ++ digit_of (value % 16) ∷ []) (hex_of_split high low (value / 16))
    ∙ append_assoc (hex_of high (value / 16 / 16 ^ low)) (hex_of low (value / 16)) (digit_of (value % 16) ∷ [])
    ∙ ap (λ n. hex_of high n ++ (hex_of low (value / 16) ++ digit_of (value % 16) ∷ [])) power

-- the two digits of a byte, and of the low byte of a number
pub hex_of_byte : (value : ℕ) → value < 256 → hex_of 2 value ≡ digit_of (value / 16) ∷ digit_of (value % 16) ∷ []
unfolding hex_of
hex_of_byte value lt = let high : value / 16 % 16 ≡ value / 16 = omega arith in ap (λ n. digit_of n ∷ digit_of (value % 16) ∷ []) high

hex_of_low_byte : (value : ℕ) → hex_of 2 (value % 256) ≡ hex_of 2 value
unfolding hex_of
hex_of_low_byte value =
    let high : value % 256 / 16 % 16 ≡ value / 16 % 16 = omega arith in
    let low : value % 256 % 16 ≡ value % 16 = omega arith in
    cc

-- the low eight digits of a number, two at a time
hex_of_8 : (value : ℕ) → hex_of 8 value ≡
    ((hex_of 2 (value / 16777216 % 256) ++ hex_of 2 (value / 65536 % 256)) ++ hex_of 2 (value / 256 % 256)) ++ hex_of 2 (value % 256)
hex_of_8 value =
    let s1 : hex_of 8 value ≡ hex_of 6 (value / 256) ++ hex_of 2 value = hex_of_split 6 2 value in
    let s2 : hex_of 6 (value / 256) ≡ hex_of 4 (value / 256 / 256) ++ hex_of 2 (value / 256) = hex_of_split 4 2 (value / 256) in
    let s3 : hex_of 4 (value / 65536) ≡ hex_of 2 (value / 65536 / 256) ++ hex_of 2 (value / 65536) = hex_of_split 2 2 (value / 65536) in
    let d2 : value / 256 / 256 ≡ value / 65536 = div-div-eq-div-mul value 256 256 in
    let d3 : value / 65536 / 256 ≡ value / 16777216 = div-div-eq-div-mul value 65536 256 in
    rw (hex_of_low_byte (value / 16777216), hex_of_low_byte (value / 65536), hex_of_low_byte (value / 256), hex_of_low_byte value, s1, s2, d2, s3, d3) refl

-- a text with these behind it, written in four parts
pub word_in_pairs : (value : ℕ) (before one two three now : List ℕ) → one ≡ before ++ hex_of 2 (value / 16777216 % 256) →
    two ≡ one ++ hex_of 2 (value / 65536 % 256) → three ≡ two ++ hex_of 2 (value / 256 % 256) → now ≡ three ++ hex_of 2 (value % 256) →
    now ≡ before ++ hex_of 8 value
word_in_pairs value before one two three now is1 is2 is3 is = rw (is, is3, is2, is1, hex_of_8 value) (simp append_assoc)

-- the high one of nine digits, and the others
pub digit_and_word : (value : ℕ) (pair before front now : List ℕ) (d : ℕ) → pair ≡ hex_of 2 (value / 4294967296 % 256) →
    front ≡ before ++ get_or pair 1 d ∷ [] → now ≡ front ++ hex_of 8 value → now ≡ before ++ hex_of 9 value
unfolding hex_of
digit_and_word value pair before front now d two first last =
    let low : value / 4294967296 % 256 % 16 ≡ value / 4294967296 % 16 = omega arith in
    let code : get_or pair 1 d ≡ digit_of (value / 4294967296 % 16) = ap (λ codes. get_or codes 1 d) two ∙ ap digit_of low in
    let split : hex_of 9 value ≡ digit_of (value / 4294967296 % 16) ∷ hex_of 8 value = hex_of_split 1 8 value in
    rw (last, first, code, split) (append_assoc before (digit_of (value / 4294967296 % 16) ∷ []) (hex_of 8 value))

-- eight digits, and eight more
pub two_words : (value : ℕ) (before front now : List ℕ) → front ≡ before ++ hex_of 8 (value / 4294967296) → now ≡ front ++ hex_of 8 value → now ≡ before ++ hex_of 16 value
two_words value before front now first last =
    let split : hex_of 16 value ≡ hex_of 8 (value / 4294967296) ++ hex_of 8 value = hex_of_split 8 8 value in
    rw (last, first, split) (append_assoc before (hex_of 8 (value / 4294967296)) (hex_of 8 value))

-- eight zeros
pub hex_of_zero : hex_of 8 0 ≡ 48 ∷ 48 ∷ 48 ∷ 48 ∷ 48 ∷ 48 ∷ 48 ∷ 48 ∷ []
unfolding hex_of
hex_of_zero = refl

-- the digits of a number that has two of them, at least three, and at least five
pub dec_of_two : (value : ℕ) → 10 ≤ value → value < 100 → dec_of value ≡ digit_of (value / 10) ∷ digit_of (value % 10) ∷ []
dec_of_two value le lt =
    let high : value / 10 % 10 ≡ value / 10 = omega arith in
    dec_of_more value le ∙ ap (λ front. front ++ digit_of (value % 10) ∷ []) (dec_of_small (value / 10) (omega arith) ∙ ap (λ n. digit_of n ∷ []) high)

pub dec_of_two_more : (value : ℕ) → 100 ≤ value → dec_of value ≡ dec_of (value / 100) ++ (digit_of (value % 100 / 10) ∷ digit_of (value % 100 % 10) ∷ [])
dec_of_two_more value le =
    let e1 : dec_of value ≡ dec_of (value / 10) ++ digit_of (value % 10) ∷ [] = dec_of_more value (omega arith) in
    let e2 : dec_of (value / 10) ≡ dec_of (value / 10 / 10) ++ digit_of (value / 10 % 10) ∷ [] = dec_of_more (value / 10) (omega arith) in
    let q : value / 10 / 10 ≡ value / 100 = div-div-eq-div-mul value 10 10 in
    let high : value / 10 % 10 ≡ value % 100 / 10 = omega arith in
    let low : value % 10 ≡ value % 100 % 10 = omega arith in
    rw (e1, e2, q, high, low) (append_assoc (dec_of (value / 100)) (digit_of (value % 100 / 10) ∷ []) (digit_of (value % 100 % 10) ∷ []))

-- the four digits of a number below 10000, with zeros before a smaller one
abbrev pub four_of : ℕ → List ℕ
four_of value = digit_of (value / 100 / 10) ∷ digit_of (value / 100 % 10) ∷ digit_of (value % 100 / 10) ∷ digit_of (value % 100 % 10) ∷ []

pub dec_of_four_more : (value : ℕ) → 10000 ≤ value → dec_of value ≡ dec_of (value / 10000) ++ four_of (value % 10000)
dec_of_four_more value le =
    let e1 = dec_of_two_more value (omega arith) in
    let e2 = dec_of_two_more (value / 100) (omega arith) in
    let q : value / 100 / 100 ≡ value / 10000 = div-div-eq-div-mul value 100 100 in
    let high : value / 100 % 100 ≡ value % 10000 / 100 = omega arith in
    let low : value % 100 ≡ value % 10000 % 100 = omega arith in
    rw (e1, e2, q, high, low) (append_assoc (dec_of (value / 10000)) (digit_of (value % 10000 / 100 / 10) ∷ digit_of (value % 10000 / 100 % 10) ∷ []) (digit_of (value % 10000 % 100 / 10) ∷ digit_of (value % 10000 % 100 % 10) ∷ []))

-- a text with such digits behind it
pub digit_behind : (value : ℕ) (before now : List ℕ) → value < 10 → now ≡ before ++ (48 + value) ∷ [] → now ≡ before ++ dec_of value
digit_behind value before now lt is =
    let same : value % 10 ≡ value = omega arith in
    let code : digit_of value ≡ 48 + value = grind (arith, common_steps) in
    is ∙ ap (λ text. before ++ text) (sym (dec_of_small value lt ∙ ap (λ n. digit_of n ∷ []) same ∙ ap (λ n. n ∷ []) code))

pub two_behind : (value : ℕ) (before now : List ℕ) → 10 ≤ value → value < 100 → now ≡ before ++ (digit_of (value / 10) ∷ digit_of (value % 10) ∷ []) → now ≡ before ++ dec_of value
two_behind value before now le lt is = is ∙ ap (λ text. before ++ text) (sym (dec_of_two value le lt))

pub two_more_behind : (value : ℕ) (before front now : List ℕ) → 100 ≤ value → front ≡ before ++ dec_of (value / 100) →
    now ≡ front ++ (digit_of (value % 100 / 10) ∷ digit_of (value % 100 % 10) ∷ []) → now ≡ before ++ dec_of value
two_more_behind value before front now le first last = rw (last, first, dec_of_two_more value le) (append_assoc before (dec_of (value / 100)) (digit_of (value % 100 / 10) ∷ digit_of (value % 100 % 10) ∷ []))

pub four_more_behind : (value : ℕ) (before front now : List ℕ) → 10000 ≤ value → front ≡ before ++ dec_of (value / 10000) → now ≡ front ++ four_of (value % 10000) → now ≡ before ++ dec_of value
four_more_behind value before front now le first last = rw (last, first, dec_of_four_more value le) (append_assoc before (dec_of (value / 10000)) (four_of (value % 10000)))

-- how many digits a number of 8 bits has
pub length_dec_of_byte : (value : ℕ) → value < 2 ^ 8 → length (dec_of value) ≤ 3
length_dec_of_byte value lt = length_dec_of_below 3 value (omega arith) (omega arith)

-- a text behind no text
pub after_none : (before now text : List ℕ) → length before ≡ 0 → now ≡ before ++ text → now ≡ text
after_none [] now text none is = is
after_none (code ∷ before) now text none is = absurd (omega arith)

-- how long a text is with another behind it
pub length_behind : (before now text : List ℕ) (most : ℕ) → now ≡ before ++ text → length text ≤ most → length now ≤ length before + most
length_behind before now text most is few = let all : length now ≡ length before + length text = ap length is ∙ length-append before text in omega arith
