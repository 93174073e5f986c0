-- The register Config at reset, by its fields.
-- Source: MIPS R4000 Microprocessor User's Manual, 2nd edition (Heinrich), chapter 4, "Config Register (16)", for the fields and what
-- their numbers mean. That K0 is 3 at reset, that DB and IB are the same, and which bits are zero, is this project's own.
use Rattle.std.specs.Prelude.{ℕ, ◌+◌, ◌*◌, ◌^◌, ◌==◌, [], ◌∷◌, if◌then◌else◌}
use Rattle.std.specs.List.{position_or_len}
use Rattle.r4_shape.specs.Numbers.{Numbers}

-- IB, DB and SB: the numbers of the lines of 16, 32, 64 and 128 bytes, from 0 on
abbrev pub block_field : ℕ → ℕ
block_field bytes = position_or_len (λ length. length == bytes) (16 ∷ 32 ∷ 64 ∷ 128 ∷ [])

-- IC and DC: the numbers of the primary caches of 4 KB, 8 KB and so on, from 0 on: n is 2 ^ (12 + n) bytes
abbrev pub size_field : ℕ → ℕ
size_field bytes = position_or_len (λ n. 2 ^ (12 + n) == bytes) (0 ∷ 1 ∷ 2 ∷ 3 ∷ 4 ∷ 5 ∷ 6 ∷ 7 ∷ [])

-- Config: K0 in bits 2 to 0, DB in bit 4, IB in bit 5, DC in bits 8 to 6, IC in bits 11 to 9, BE in bit 15 (memory has the high byte
-- first), SC in bit 17 (there is no secondary cache) and SB in bits 23 to 22
abbrev pub config_of : Numbers → ℕ
config_of shape =
    3
    + block_field shape.line * 2 ^ 4
    + block_field shape.line * 2 ^ 5
    + size_field shape.prim * 2 ^ 6
    + size_field shape.prim * 2 ^ 9
    + 1 * 2 ^ 15
    + (if shape.sc then 0 else 1) * 2 ^ 17
    + (if shape.sc then block_field shape.group else 0) * 2 ^ 22
