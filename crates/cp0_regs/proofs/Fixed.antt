-- What leaves PRId, and Config but for K0: a word of another number, and a write under the mask of its register.
use Rattle.std.proofs.Common.{◌≡◌, refl, ◌∙◌, sym, ap, subst, inl, inr, ℕ, zero, suc, ◌-◌, ◌<◌, ◌^◌, Bool, true, false, List, [], ◌∷◌, arith}
use Rattle.std.specs.Prelude.{◌≢◌, bit_and, bit_or, ◌==◌, ◌≤◌, slice_index, slice_set, if◌then◌else◌}
use Rattle.std.proofs.lemmas.Bool.{cases_Bool, eqb-true, eqb-false}
use Rattle.std.proofs.lemmas.List.{get_or-set_other}
use Rattle.std.proofs.lemmas.Nat.{and_assoc, and_comm, and_le_r, or_comm}
use Rattle.cp0_regs.specs.Bits.{all_bits, merged}
use Rattle.cp0_regs.specs.Counting.{with_lines, with_count, with_timer, with_random, counted}
use Rattle.cp0_regs.specs.Fields.{timer_line}
use Rattle.cp0_regs.specs.Fixed.{outside_k0, HasFixed, KeepsFixed}
use Rattle.cp0_regs.specs.Moves.{written, with_effect, taken}
use Rattle.cp0_regs.specs.Registers.{prid, written_bits, possible_bits, reset_cp0}
use Rattle.cp0_regs.specs.State.{IsCp0, word, with_value}
use Rattle.cp0_regs.proofs.Masking.{and_or, merged_none}

pub kept_refl : (cp0 : List ℕ) → KeepsFixed cp0 cp0
kept_refl cp0 = record { prid = refl; config = refl }

-- one change after another
pub kept_then : (old between new : List ℕ) → KeepsFixed old between → KeepsFixed between new → KeepsFixed old new
kept_then old between new one other = record { prid = other.prid ∙ one.prid; config = other.config ∙ one.config }

-- what has the fixed registers has them after such a change
pub fixed_kept : (value : ℕ) (old new : List ℕ) → KeepsFixed old new → HasFixed value old → HasFixed value new
fixed_kept value old new kept fixed = record { prid = kept.prid ∙ fixed.prid; config = kept.config ∙ fixed.config }

-- a word of another number
pub word_keeps : (cp0 : List ℕ) (number value : ℕ) → 15 ≢ number → 16 ≢ number → KeepsFixed cp0 (slice_set cp0 number value)
word_keeps cp0 number value not_prid not_config = record {
  prid = get_or-set_other cp0 number 15 value 0 not_prid;
  config = ap outside_k0 (get_or-set_other cp0 number 16 value 0 not_config);
}

-- what a function of a word is after a write that keeps it, wherever the word stands
same_there : (of_word : ℕ → ℕ) (cp0 : List ℕ) (number value : ℕ) → of_word value ≡ of_word (slice_index cp0 number)
    → of_word (slice_index (slice_set cp0 number value) number) ≡ of_word (slice_index cp0 number)
same_there of_word [] number value same = refl
same_there of_word (first ∷ rest) zero value same = same
same_there of_word (first ∷ rest) (suc number) value same = same_there of_word rest number value same

-- a write under the mask of K0 leaves what is beside it
beside_k0 : (old value : ℕ) → outside_k0 (merged 7 old value) ≡ outside_k0 old
beside_k0 old value =
    let beside : ℕ = all_bits - 7 in
    and_or (bit_and old beside) (bit_and value 7) beside
    ∙ ap (λ n. bit_or n (bit_and (bit_and value 7) beside)) (and_assoc beside old beside)
    ∙ ap (bit_or (bit_and old beside)) (and_assoc beside value 7 ∙ and_comm value 0)
    ∙ or_comm (bit_and old beside) 0

-- a write under the mask of its register
pub masked_keeps : (cp0 : List ℕ) (number value : ℕ) → word cp0 prid < 2 ^ 32
    → KeepsFixed cp0 (slice_set cp0 number (merged (written_bits number) (slice_index cp0 number) value))
unfolding written_bits
masked_keeps cp0 number value small =
    let Kept : ℕ → Type 0 = λ n. KeepsFixed cp0 (slice_set cp0 n (merged (written_bits n) (slice_index cp0 n) value)) in
    let of_prid : Kept 15 = record {
      prid = same_there (λ n. n) cp0 15 (merged 0 (slice_index cp0 15) value) (merged_none (slice_index cp0 15) value small);
      config = ap outside_k0 (get_or-set_other cp0 15 16 (merged 0 (slice_index cp0 15) value) 0 (λ same. omega arith));
    } in
    let of_config : Kept 16 = record {
      prid = get_or-set_other cp0 16 15 (merged 7 (slice_index cp0 16) value) 0 (λ same. omega arith);
      config = same_there outside_k0 cp0 16 (merged 7 (slice_index cp0 16) value) (beside_k0 (slice_index cp0 16) value);
    } in
    elim (cases_Bool (15 == number)) [
      | inl same ↦ subst Kept (eqb-true 15 number same) of_prid
      | inr other ↦ elim (cases_Bool (16 == number)) [
        | inl same ↦ subst Kept (eqb-true 16 number same) of_config
        | inr another ↦ word_keeps cp0 number (merged (written_bits number) (slice_index cp0 number) value) (eqb-false 15 number other) (eqb-false 16 number another)
      ]
    ]

-- PRId is a word, as its possible bits have it
pub prid_small : (cp0 : List ℕ) → IsCp0 cp0 → word cp0 prid < 2 ^ 32
unfolding possible_bits
prid_small cp0 always =
    let only : bit_and (slice_index cp0 15) 0x400 ≡ slice_index cp0 15 = (always.possible 15).is in
    let small : bit_and (slice_index cp0 15) 0x400 ≤ 0x400 = and_le_r (slice_index cp0 15) 0x400 in
    omega (arith, only, small)

-- the registers that such a write leaves, as the code makes them
pub kept_by_write : (cp0 new : List ℕ) (number value bits old : ℕ) → IsCp0 cp0 → bits ≡ written_bits number → old ≡ slice_index cp0 number
    → new ≡ slice_set cp0 number (merged bits old value) → KeepsFixed cp0 new
kept_by_write cp0 new number value bits old always is_bits is_old is =
    subst (KeepsFixed cp0)
    (sym (is ∙ ap (λ b. slice_set cp0 number (merged b old value)) is_bits ∙ ap (λ o. slice_set cp0 number (merged (written_bits number) o value)) is_old))
    (masked_keeps cp0 number value (prid_small cp0 always))

-- one of two changes, or none
pub either_keeps : (cp0 one other : List ℕ) (test : Bool) → KeepsFixed cp0 one → KeepsFixed cp0 other → KeepsFixed cp0 (if test then one else other)
either_keeps cp0 one other test of_one of_other = elim test as (λ t. KeepsFixed cp0 (if t then one else other)) [ true ↦ of_one | false ↦ of_other ]

effect_keeps : (number : ℕ) (cp0 : List ℕ) → KeepsFixed cp0 (with_effect number cp0)
effect_keeps number cp0 =
    let reset_timer : List ℕ = with_value cp0 timer_line 0 in
    either_keeps cp0 (slice_set cp0 1 47) (if number == 11 then reset_timer else cp0) (number == 6)
    (word_keeps cp0 1 47 (λ same. omega arith) (λ same. omega arith))
    (either_keeps cp0 reset_timer cp0 (number == 11) (word_keeps cp0 13 _ (λ same. omega arith) (λ same. omega arith)) (kept_refl cp0))

pub written_keeps : (cp0 : List ℕ) (number value : ℕ) → word cp0 prid < 2 ^ 32 → KeepsFixed cp0 (written cp0 number value)
unfolding written
written_keeps cp0 number value small =
    let masked : List ℕ = slice_set cp0 number (merged (written_bits number) (slice_index cp0 number) (taken number value)) in
    kept_then cp0 masked (with_effect number masked) (masked_keeps cp0 number (taken number value) small) (effect_keeps number masked)

pub lines_keep : (cp0 : List ℕ) (levels : ℕ) → KeepsFixed cp0 (with_lines cp0 levels)
lines_keep cp0 levels = word_keeps cp0 13 _ (λ same. omega arith) (λ same. omega arith)

timer_keeps : (cp0 : List ℕ) → KeepsFixed cp0 (with_timer cp0)
timer_keeps cp0 =
    either_keeps cp0 (with_value cp0 timer_line 1) cp0 (slice_index cp0 9 == slice_index cp0 11)
    (word_keeps cp0 13 _ (λ same. omega arith) (λ same. omega arith)) (kept_refl cp0)

pub counted_keeps : (cp0 : List ℕ) (wrote_wired : Bool) → KeepsFixed cp0 (counted cp0 wrote_wired)
unfolding counted
counted_keeps cp0 wrote_wired =
    let count : List ℕ = with_count cp0 in
    let timer : List ℕ = with_timer count in
    kept_then cp0 count (with_random timer wrote_wired) (word_keeps cp0 9 _ (λ same. omega arith) (λ same. omega arith))
    (kept_then count timer (with_random timer wrote_wired) (timer_keeps count) (word_keeps timer 1 _ (λ same. omega arith) (λ same. omega arith)))

pub reset_has : (value : ℕ) → HasFixed value (reset_cp0 value)
unfolding reset_cp0
reset_has value = record { prid = refl; config = refl }
