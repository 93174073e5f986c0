-- Words as numbers below 2 ^ 32, the bits of a word that a mask names, and the fields high..low of a word.
-- Source: MIPS R4000 Microprocessor User's Manual (Heinrich, 2nd edition), the operation notation of the instruction
-- chapter, which writes a bit field as high..low.
use Rattle.std.specs.Prelude.{◌≡◌, ℕ, ◌+◌, ◌-◌, ◌/◌, ◌%◌, ◌^◌, bit_and, bit_or}

-- each bit of a word
abbrev pub all_bits : ℕ
all_bits = 2 ^ 32 - 1

-- the bits high..low
abbrev pub bits : ℕ → ℕ → ℕ
bits high low = 2 ^ (high + 1) - 2 ^ low

-- the number that stands in bits high..low
abbrev pub field : ℕ → ℕ → ℕ → ℕ
field word high low = word / 2 ^ low % 2 ^ (high - low + 1)

-- a word after a write under a mask: the bits that the mask names are the value's, and the others stay
abbrev pub merged : ℕ → ℕ → ℕ → ℕ
merged mask word value = bit_or (bit_and word (all_bits - mask)) (bit_and value mask)

-- a number has no bit but those of a mask
pub record HasOnly (value mask : ℕ) : Type 0 where
  pub is : bit_and value mask ≡ value
