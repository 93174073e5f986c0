-- What the instructions of coprocessor 0 put into its registers, and into the pairs of the TLB, these can have.
use Rattle.std.proofs.Common.{◌≡◌, ◌∙◌, refl, sym, ap, ℕ, ◌<◌, ◌^◌, arith}
use Rattle.std.proofs.lemmas.Nat.{and_assoc, and_mask}
use Rattle.std.specs.Prelude.{bit_and}
use Rattle.cp0_regs.specs.Bits.{HasOnly}
use Rattle.cp0_regs.specs.Registers.{possible_bits}
use Rattle.cp0_regs.proofs.Masking.{word_only}
use Rattle.tlb_model.specs.declared.pairs.Pair.{Pair}
use Rattle.tlb_model.specs.Pairs.{IsPair, hi_bits, lo_bits}
use Rattle.tlb_model.proofs.Storable.{mask_only, hi_only}

pub tag_lo_fits : (number : ℕ) → number < 2 ^ 32 → HasOnly number (possible_bits 28)
unfolding possible_bits
tag_lo_fits number small = word_only number small

-- ---- the registers of a pair

pub mask_possible : (pair : Pair) → IsPair pair → HasOnly pair.mask (possible_bits 5)
unfolding possible_bits
mask_possible pair is = mask_only pair.mask is.mask

pub hi_possible : (pair : Pair) → IsPair pair → HasOnly pair.hi (possible_bits 10)
unfolding possible_bits
hi_possible pair is = hi_only pair.mask pair.hi is.mask is.hi

pub lo0_possible : (pair : Pair) → IsPair pair → HasOnly pair.lo0 (possible_bits 2)
unfolding possible_bits
lo0_possible pair is = is.lo0

pub lo1_possible : (pair : Pair) → IsPair pair → HasOnly pair.lo1 (possible_bits 3)
unfolding possible_bits
lo1_possible pair is = is.lo1

-- what each part of a pair can leave in its register
pub ruleset pair_fits = (mask_possible, hi_possible, lo0_possible, lo1_possible)

-- ---- and what they hold

pub hi_bits_only : (number : ℕ) → HasOnly number (possible_bits 10) → HasOnly number hi_bits
unfolding possible_bits
hi_bits_only number only = only

pub lo0_bits_only : (number : ℕ) → HasOnly number (possible_bits 2) → HasOnly number lo_bits
unfolding possible_bits
lo0_bits_only number only = only

pub lo1_bits_only : (number : ℕ) → HasOnly number (possible_bits 3) → HasOnly number lo_bits
unfolding possible_bits
lo1_bits_only number only = only

-- what each register leaves in its part of a pair
pub ruleset pair_bits_only = (hi_bits_only, lo0_bits_only, lo1_bits_only)

-- ---- Index

index_bits : (number : ℕ) → number < 48 → HasOnly number 0x8000003f
index_bits number small =
    let low : bit_and number 0x3f ≡ number = and_mask number 6 ∙ omega arith in
    record { is = ap (λ n. bit_and n 0x8000003f) (sym low) ∙ and_assoc 0x8000003f number 0x3f ∙ low }

pub index_possible : (number : ℕ) → number < 48 → HasOnly number (possible_bits 0)
unfolding possible_bits
index_possible number small = index_bits number small

pub none_possible : HasOnly (2 ^ 31) (possible_bits 0)
unfolding possible_bits
none_possible = record { is = refl }
