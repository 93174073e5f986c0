-- Where a branch and a jump go, by the number in the instruction, and the number by which they reach a target. Addresses
-- are numbers of 32 bits, and an address past the last one wraps.
-- Source: MIPS R4000 Microprocessor User's Manual, 2nd edition (Heinrich), appendix A: the pages of BEQ (the offset, shifted
-- by two bits and sign-extended, is added to the address of the delay slot) and of J (the target, shifted by two bits, is
-- combined with the high four bits of that address).
use Rattle.std.specs.Prelude.{◌≡◌, ◌<◌, ◌+◌, ◌*◌, ◌/◌, ◌%◌, ◌^◌, ℕ}
use Rattle.r4_words.specs.Words.{sext16}

-- where a branch at an address goes: so many words from its delay slot, by 16 bits in two's complement
unfoldable pub branch_target : ℕ → ℕ → ℕ
branch_target at distance = (at + 4 + 4 * sext16 distance) % 2 ^ 32

-- where a jump at an address goes: the word of this number within the 256 MB of its delay slot
unfoldable pub jump_target : ℕ → ℕ → ℕ
jump_target at number = (at + 4) % 2 ^ 32 / 2 ^ 28 * 2 ^ 28 + 4 * number

-- by this number of 16 bits a branch at an address reaches a target
pub record IsBranchDistance (at target distance : ℕ) : Type 0 where
  pub small : distance < 2 ^ 16
  pub reaches : branch_target at distance ≡ target

-- by this number of 26 bits a jump at an address reaches a target
pub record IsJumpNumber (at target number : ℕ) : Type 0 where
  pub small : number < 2 ^ 26
  pub reaches : jump_target at number ≡ target
