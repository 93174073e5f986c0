-- Machine words and the bit fields in them, as numbers. A half is a whole number below 2 ^ 16, a word one
-- below 2 ^ 32, and a register one below 2 ^ 64.
-- Source: MIPS R4000 Microprocessor User's Manual (Heinrich, 2nd edition), the operation notation of the
-- instruction chapter: sign_extend, and bit fields written high..low.
use Rattle.std.specs.Prelude.{ℕ, ◌+◌, ◌-◌, ◌/◌, ◌%◌, ◌^◌, nat_lt, if◌then◌else◌}

-- a half as a word whose upper half repeats the half's bit 15; as a register of 64 bits it is sext32 of this word
abbrev pub sext16 : ℕ → ℕ
sext16 half = if nat_lt half (2 ^ 15) then half else half + (2 ^ 32 - 2 ^ 16)

-- a word as a register of 64 bits whose upper half repeats the word's bit 31
abbrev pub sext32 : ℕ → ℕ
sext32 word = if nat_lt word (2 ^ 31) then word else word + (2 ^ 64 - 2 ^ 32)

-- bits high..low of a word, moved down to bit 0
abbrev pub field : ℕ → ℕ → ℕ → ℕ
field word high low = word / 2 ^ low % 2 ^ (high - low + 1)
