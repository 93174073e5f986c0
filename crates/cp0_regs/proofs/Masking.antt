-- Words under masks: what a number has only, and what a write under a mask leaves.
use Rattle.std.proofs.Common.{◌≡◌, ◌∙◌, sym, ap, ℕ, ◌<◌, ◌≤◌, ◌-◌, ◌%◌, ◌^◌, arith}
use Rattle.std.specs.Prelude.{bit_and, bit_or, min, max}
use Rattle.std.specs.Int.{bit_at}
use Rattle.std.proofs.lemmas.Nat.{and_comm, and_assoc, and_mask, and_le_r, and_mod, or_comm}
use Rattle.std.proofs.lemmas.Nat.Bits.{bit_at_and, bit_at_or, same_from_bits}
use Rattle.cp0_regs.specs.Bits.{HasOnly, merged, all_bits}

min_max : (a b m : ℕ) → min (max a b) m ≡ max (min a m) (min b m)
min_max a b m = omega arith

-- `&` goes into `|`
pub and_or : (a b m : ℕ) → bit_and (bit_or a b) m ≡ bit_or (bit_and a m) (bit_and b m)
and_or a b m =
    same_from_bits _ _
    (λ i. bit_at_and (bit_or a b) m i ∙ ap (λ n. min n (bit_at m i)) (bit_at_or a b i) ∙ min_max (bit_at a i) (bit_at b i) (bit_at m i)
    ∙ sym (bit_at_or (bit_and a m) (bit_and b m) i ∙ ap (λ n. max n (bit_at (bit_and b m) i)) (bit_at_and a m i) ∙ ap (λ n. max (min (bit_at a i) (bit_at m i)) n) (bit_at_and b m i)))

-- the bits of a number that a mask keeps are still only those that it had
and_only : (a b possible : ℕ) → bit_and a possible ≡ a → bit_and (bit_and a b) possible ≡ bit_and a b
and_only a b possible only =
    and_assoc possible a b ∙ ap (bit_and a) (and_comm b possible) ∙ sym (and_assoc b a possible) ∙ ap (λ n. bit_and n b) only

-- the bits of a number under a mask are only those of the mask
under_only : (value mask possible : ℕ) → bit_and mask possible ≡ mask → bit_and (bit_and value mask) possible ≡ bit_and value mask
under_only value mask possible only = and_assoc possible value mask ∙ ap (bit_and value) only

-- a write under a mask makes no bit that the word and the mask have not
pub merged_only : (mask word value possible : ℕ) → HasOnly mask possible → HasOnly word possible → HasOnly (merged mask word value) possible
merged_only mask word value possible of_mask of_word = record {
  is =
      and_or (bit_and word (all_bits - mask)) (bit_and value mask) possible
      ∙ ap (λ n. bit_or n (bit_and (bit_and value mask) possible)) (and_only word (all_bits - mask) possible of_word.is)
      ∙ ap (bit_or (bit_and word (all_bits - mask))) (under_only value mask possible of_mask.is);
}

-- a word has only bits of a word
pub word_only : (word : ℕ) → word < 2 ^ 32 → HasOnly word all_bits
word_only word small = record { is = and_mask word 32 ∙ omega arith }

-- a number below 64 has only its low bits
pub pair_only : (number : ℕ) → number ≤ 47 → HasOnly number 0x3f
pair_only number small = record { is = and_mask number 6 ∙ omega arith }

-- a number that has only no bit is zero
pub none_only : (number : ℕ) → HasOnly number 0 → number ≡ 0
none_only number only = sym only.is ∙ and_comm number 0

-- a write under no mask is lost
pub merged_none : (word value : ℕ) → word < 2 ^ 32 → merged 0 word value ≡ word
merged_none word value small =
    ap (bit_or (bit_and word all_bits)) (and_comm value 0) ∙ or_comm (bit_and word all_bits) 0 ∙ (word_only word small).is

-- a write under a mask of all bits that word and value have gives the value
pub merged_all : (mask word value : ℕ) → bit_and mask (all_bits - mask) ≡ 0 → HasOnly word mask → HasOnly value mask → merged mask word value ≡ value
merged_all mask word value apart of_word of_value =
    ap (λ n. bit_or n (bit_and value mask))
    (ap (λ n. bit_and n (all_bits - mask)) (sym of_word.is) ∙ and_assoc (all_bits - mask) word mask ∙ ap (bit_and word) apart ∙ and_comm word 0)
    ∙ of_value.is

-- bits that a shift moves out of the word are not under a mask of a word
pub and_of_shifted : (number mask : ℕ) → mask < 2 ^ 32 → bit_and (number % 2 ^ 32) mask ≡ bit_and number mask
and_of_shifted number mask small =
    let low : mask % 2 ^ 32 ≡ mask = omega arith in
    let inside : bit_and number mask < 2 ^ 32 = omega (arith, and_le_r number mask) in
    ap (bit_and (number % 2 ^ 32)) (sym low) ∙ sym (and_mod number mask 32) ∙ omega arith
