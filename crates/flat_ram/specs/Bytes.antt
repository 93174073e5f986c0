-- Memory as a list of bytes, and the pieces of it: words and halves with the high byte first, and the list
-- after some of its bytes were replaced.
-- Source: MIPS R4000 Microprocessor User's Manual (Heinrich, 2nd edition), byte numbering in big-endian
-- configuration.
use Rattle.std.specs.Prelude.{ℕ, ◌-◌, ◌+◌, ◌*◌, ◌/◌, ◌%◌, ◌^◌, List, [], ◌∷◌, ◌++◌, take, drop, fold, replicate, length, slice_index}

-- so many zero bytes
unfoldable pub zeros_of : ℕ → List ℕ
zeros_of count = replicate count 0

-- the half that stands in two bytes
abbrev pub half_at : List ℕ → ℕ → ℕ
half_at bytes at = slice_index bytes at * 2 ^ 8 + slice_index bytes (at + 1)

-- the word that stands in four bytes
abbrev pub word_at : List ℕ → ℕ → ℕ
word_at bytes at =
    slice_index bytes at * 2 ^ 24 + slice_index bytes (at + 1) * 2 ^ 16 + slice_index bytes (at + 2) * 2 ^ 8 + slice_index bytes (at + 3)

-- the two bytes of a half
abbrev pub bytes_of_half : ℕ → List ℕ
bytes_of_half half = half / 2 ^ 8 % 256 ∷ half % 256 ∷ []

-- the four bytes of a word
abbrev pub bytes_of : ℕ → List ℕ
bytes_of word = word / 2 ^ 24 % 256 ∷ word / 2 ^ 16 % 256 ∷ word / 2 ^ 8 % 256 ∷ word % 256 ∷ []

-- so many bytes from a place on
abbrev pub bytes_at : List ℕ → ℕ → ℕ → List ℕ
bytes_at all at count = take count (drop at all)

-- the number whose bytes these are, the high one first
abbrev pub number_of_bytes : List ℕ → ℕ
number_of_bytes bytes = fold (λ high byte. high * 256 + byte) 0 bytes

-- the number that stands in so many bytes from a place on
abbrev pub number_at : List ℕ → ℕ → ℕ → ℕ
number_at all at count = number_of_bytes (bytes_at all at count)

-- the aligned doubleword of two words, the first one higher, in which the byte at a place of a list of words lies
abbrev pub double_at : List ℕ → ℕ → ℕ
double_at words at = slice_index words (at / 8 * 2) * 2 ^ 32 + slice_index words (at / 8 * 2 + 1)

-- the number that stands in so many bytes of a list of words from a place on, all of them in one doubleword
abbrev pub number_in_words : List ℕ → ℕ → ℕ → ℕ
number_in_words words at count = double_at words at / 256 ^ (8 - at % 8 - count) % 256 ^ count

-- the list with these bytes in place of those from a place on
abbrev pub put_bytes : List ℕ → ℕ → List ℕ → List ℕ
put_bytes all at bytes = take at all ++ (bytes ++ drop (at + length bytes) all)
