-- What the numbers and texts of a source stand for, and how numbers are printed.
-- Source: the assembler language of this project; the printed formats are those that Rust's std writes for {} and {:#x}.
use Rattle.std.specs.Prelude.{◌≡◌, ◌<◌, ◌≤◌, ℕ, ℤ, pos, neg_ℤ, nat_abs, zero, suc, ◌-◌, ◌^◌, ◌==◌, nat_lt, Bool, true, false, if◌then◌else◌, List, [], ◌∷◌, ◌++◌, map, length, take, drop, slice_index, Option, Some, None, codes}
use Rattle.std.specs.Int.Digits.{digits_of}
use Rattle.r4_words.specs.Texts.{dec_of, digit_of, number_after}
use Rattle.r4_words.specs.Ascii.{newline, quote, minus, digit_0, backslash, small_n}
use Rattle.mips_text.specs.Tokens.{is_hexadecimal}

-- the number of digits without a sign: hexadecimal after `0x`, else decimal
abbrev pub magnitude_of : List ℕ → ℕ
magnitude_of text = if is_hexadecimal text then number_after 16 0 (drop 2 text) else number_after 10 0 text

-- the number of a Number token's text
unfoldable pub number_of : List ℕ → ℤ
number_of text = if slice_index text 0 == minus then neg_ℤ (pos (magnitude_of (drop 1 text))) else pos (magnitude_of text)

-- a number below 2 ^ 32
abbrev pub small : ℕ → Option ℕ
small n = if nat_lt n (2 ^ 32) then Some n else None

-- A number whose magnitude is below 2 ^ 32. Every number that a statement takes is one; but for `.align`, another number
-- is out of range at any place.
abbrev pub bounded : ℤ → Option ℤ
bounded n = if nat_lt (nat_abs n) (2 ^ 32) then Some n else None

-- what stands for the byte after a backslash: `\n`, `\0`, `\\` and `\"`
abbrev pub escaped : ℕ → Option ℕ
escaped code =
    if code == small_n then Some newline
    else if code == digit_0 then Some 0
    else if code == backslash then Some backslash
    else if code == quote then Some quote
    else None

-- a byte before others, where both are there
abbrev pub with_byte : Option ℕ → Option (List ℕ) → Option (List ℕ)
with_byte (Some byte) (Some bytes) = Some (byte ∷ bytes)
with_byte (Some byte) None = None
with_byte None bytes = None

-- the bytes that the inside of a text in quotes stands for; None where a backslash stands before another byte than those
-- above. The flag says that a backslash stands before.
abbrev pub unescaped : Bool → List ℕ → Option (List ℕ)
unescaped true [] = None
unescaped false [] = Some []
unescaped true (code ∷ rest) = with_byte (escaped code) (unescaped false rest)
unescaped false (code ∷ rest) = if code == backslash then unescaped true rest else with_byte (Some code) (unescaped false rest)

-- what stands between the quotes of a text that has both
abbrev pub inside : List ℕ → List ℕ
inside text = take (length text - 2) (drop 1 text)

-- the bytes of a Text token, whose text has the two quotes
unfoldable pub bytes_of_text : List ℕ → Option (List ℕ)
bytes_of_text text = unescaped false (inside text)

-- the inside of a text stands for this byte, which so many of its bytes say, and for what the rest of it stands for
pub record BeginsWith (text : List ℕ) (byte used : ℕ) : Type 0 where
  pub stands_for : unescaped false text ≡ with_byte (Some byte) (unescaped false (drop used text))
  pub some : 0 < used
  pub within : used ≤ length text

-- hexadecimal digits in lower case, the high one first and none of them a leading zero; "0" for 0
unfoldable pub hex_digits_of : ℕ → List ℕ
hex_digits_of zero = digit_0 ∷ []
hex_digits_of (suc n) = map digit_of (digits_of 16 (suc n))

-- a number as `0x` and its hexadecimal digits
unfoldable pub hex_text : ℕ → List ℕ
hex_text n = codes "0x" ++ hex_digits_of n

-- a number of 16 bits in two's complement, in decimal: with a minus sign where it is negative
unfoldable pub signed_text : ℕ → List ℕ
signed_text half = if nat_lt half (2 ^ 15) then dec_of half else codes "-" ++ dec_of (2 ^ 16 - half)
