-- Numbers as texts: lists of ASCII codes, hexadecimal of a fixed width and decimal without a leading zero.
-- Writing (hex_of, dec_of) and reading (read_hex, read_dec) are defined apart, and are each other's inverse.
-- Source: ASCII for the codes of the digits; the formats are those that Rust's std writes for {:0width$x} and {}.
use Rattle.std.specs.Prelude.{ℕ, zero, suc, ◌==◌, ◌+◌, ◌-◌, ◌*◌, ◌/◌, ◌%◌, ◌^◌, Bool, ◌&&◌, ◌||◌, not, nat_lt, nat_le, List, [], ◌∷◌, ◌++◌, map, length, slice_index, Option, Some, None, if◌then◌else◌}
use Rattle.std.specs.Int.Digits.{digits_of}
use Rattle.std.specs.List.{list_all}

-- the code of a digit: 0-9, then a-f
abbrev pub digit_of : ℕ → ℕ
digit_of value = if nat_lt value 10 then 48 + value else 87 + value

-- so many low hexadecimal digits of a value, the high one first
unfoldable pub hex_of : ℕ → ℕ → List ℕ
hex_of zero value = []
hex_of (suc digits) value = hex_of digits (value / 16) ++ digit_of (value % 16) ∷ []

-- the decimal digits of a value, the high one first and none of them a leading zero; "0" for 0
unfoldable pub dec_of : ℕ → List ℕ
dec_of zero = 48 ∷ []
dec_of (suc n) = map (λ digit. 48 + digit) (digits_of 10 (suc n))

-- the code of 0-9
abbrev pub is_digit : ℕ → Bool
is_digit code = nat_le 48 code && nat_le code 57

-- the code of 0-9 or a-f
abbrev pub is_hex_digit : ℕ → Bool
is_hex_digit code = is_digit code || (nat_le 97 code && nat_le code 102)

-- what the code of a digit stands for, 0-9, A-F or a-f; the code of no digit stands for nothing, and its value is read
-- nowhere
abbrev pub value_of_digit : ℕ → ℕ
value_of_digit code = if nat_le code 57 then code - 48 else if nat_le code 70 then code - 55 else code - 87

-- the number in a base that begins with the digits of `number` and goes on with those of a text
abbrev pub number_after : ℕ → ℕ → List ℕ → ℕ
number_after base number [] = number
number_after base number (code ∷ text) = number_after base (number * base + value_of_digit code) text

-- the number that the digits of a text stand for
abbrev pub number_of : ℕ → List ℕ → ℕ
number_of base text = number_after base 0 text

-- "0", or 1 to 10 digits without a leading zero, of a number below 2 ^ 32
abbrev pub is_dec : List ℕ → Bool
is_dec text =
    nat_lt 0 (length text) && nat_le (length text) 10 && list_all is_digit text
    && ((length text == 1) || not (slice_index text 0 == 48)) && nat_lt (number_of 10 text) (2 ^ 32)

-- the number of a decimal text, and None for every other text
abbrev pub read_dec : List ℕ → Option ℕ
read_dec text = if is_dec text then Some (number_of 10 text) else None

-- exactly so many hexadecimal digits, in lower case
abbrev pub is_hex : List ℕ → ℕ → Bool
is_hex text digits = (length text == digits) && list_all is_hex_digit text

-- the number of a hexadecimal text of so many digits, and None for every other text
abbrev pub read_hex : List ℕ → ℕ → Option ℕ
read_hex text digits = if is_hex text digits then Some (number_of 16 text) else None
