-- The state of CP0: the 32 registers by number, those that are not listed among them, which are zero.
-- Source: MIPS R4000 Microprocessor User's Manual (Heinrich, 2nd edition), chapters 4 and 5, the registers of CP0.
use Rattle.std.specs.Prelude.{◌≤◌, ◌<◌, ◌≢◌, ℕ, ◌*◌, ◌^◌, List, slice_index, slice_set}
use Rattle.cp0_regs.specs.declared.fields.Field.{Field}
use Rattle.cp0_regs.specs.Bits.{HasOnly, field, merged}
use Rattle.cp0_regs.specs.Fields.{bits_of}
use Rattle.cp0_regs.specs.PageMasks.{IsMask}
use Rattle.cp0_regs.specs.Registers.{Register, possible_bits, random, page_mask}

-- the word in a register
abbrev pub word : List ℕ → Register → ℕ
word cp0 register = slice_index cp0 register.number

-- the registers with this word in one of them
abbrev pub with_word : List ℕ → Register → ℕ → List ℕ
with_word cp0 register value = slice_set cp0 register.number value

-- the number in a field
abbrev pub value_of : List ℕ → Field → ℕ
value_of cp0 f = field (slice_index cp0 f.register) f.high f.low

-- the registers with this number in a field
abbrev pub with_value : List ℕ → Field → ℕ → List ℕ
with_value cp0 f value = slice_set cp0 f.register (merged (bits_of f) (slice_index cp0 f.register) (value * 2 ^ f.low))

-- What the registers always are: none has a bit that it cannot have, so that those that are not listed are zero; Random
-- is the index of a pair; and PageMask is the mask of a page.
pub record IsCp0 (cp0 : List ℕ) : Type 0 where
  pub possible : (number : ℕ) → HasOnly (slice_index cp0 number) (possible_bits number)
  pub random : word cp0 random ≤ 47
  pub page_mask : IsMask (word cp0 page_mask)

-- a field of a register, whose bits the register can have, and which is no part of Random or PageMask
pub record IsField (f : Field) : Type 0 where
  pub register : f.register < 32
  pub order : f.low ≤ f.high
  pub in_word : f.high < 32

pub record IsFree (f : Field) : Type 0 where
  pub is_field : IsField f
  pub possible : HasOnly (bits_of f) (possible_bits f.register)
  pub not_random : f.register ≢ 1
  pub not_page_mask : f.register ≢ 5
