-- What a write by software keeps: Random is not written, PageMask takes the mask of a page, and a register that is not
-- listed is not changed.
use Rattle.std.proofs.Common.{◌≡◌, refl, ◌∙◌, sym, ap, subst, inl, inr, ℕ, ◌<◌, ◌≤◌, ◌^◌, Bool, true, false, List, [], ◌∷◌, None, arith}
use Rattle.std.specs.Prelude.{bit_and, ◌==◌, ◌||◌, slice_index, slice_set}
use Rattle.std.proofs.lemmas.Bool.{and_parts, both_ways, cases_Bool, eqb-true}
use Rattle.std.proofs.lemmas.List.{set-get_or}
use Rattle.std.specs.List.{list_any, list_all}
use Rattle.cp0_regs.specs.Bits.{HasOnly, merged}
use Rattle.cp0_regs.specs.PageMasks.{IsMask, page_masks}
use Rattle.cp0_regs.specs.Registers.{register_of, written_bits, written_in}
use Rattle.cp0_regs.proofs.Masking.{merged_none, merged_all, merged_only}
use Rattle.cp0_regs.proofs.Possible.{written_possible, timer_line_is_free, pair_possible}

-- what is one of some numbers that all pass a test passes it
any_passes : (pass : ℕ → Bool) (number : ℕ) (numbers : List ℕ) → list_all pass numbers ≡ true → list_any (λ other. number == other) numbers ≡ true → pass number ≡ true
any_passes pass number [] all any = absurd (both_ways false refl any)
any_passes pass number (other ∷ rest) all any =
    let parts = and_parts (pass other) (list_all pass rest) all in
    elim (cases_Bool (number == other)) [
      | inl same ↦ ap pass (eqb-true number other same) ∙ parts.0
      | inr differs ↦ any_passes pass number rest parts.1 (sym (ap (λ b. b || list_any (λ other. number == other) rest) differs) ∙ any)
    ]

-- the mask of a page has only the bits of PageMask
pub mask_only : (mask : ℕ) → IsMask mask → HasOnly mask 0x01ffe000
mask_only mask of_page = record { is = eqb-true _ _ (any_passes (λ m. bit_and m 0x01ffe000 == m) mask page_masks refl of_page.is) }

pub random_stays : (number word value : ℕ) → number ≡ 1 → word ≤ 47 → merged (written_bits number) word value ≤ 47
unfolding written_bits
random_stays number word value is_random small =
    let stays : merged (written_bits 1) word value ≡ word = merged_none word value (omega arith) in
    let same : merged (written_bits number) word value ≡ merged (written_bits 1) word value = ap (λ n. merged (written_bits n) word value) is_random in
    omega (arith, stays, same)

pub mask_taken : (number word value : ℕ) → number ≡ 5 → IsMask word → IsMask value → IsMask (merged (written_bits number) word value)
unfolding written_bits
mask_taken number word value is_page_mask of_word of_value =
    subst IsMask
    (sym (ap (λ n. merged (written_bits n) word value) is_page_mask ∙ merged_all 0x01ffe000 word value refl (mask_only word of_word) (mask_only value of_value)))
    of_value

pub write_is_lost : (cp0 : List ℕ) (number value : ℕ) → register_of number ≡ None → slice_index cp0 number < 2 ^ 32
    → slice_set cp0 number (merged (written_bits number) (slice_index cp0 number) value) ≡ cp0
unfolding written_bits
write_is_lost cp0 number value unlisted small =
    ap (slice_set cp0 number)
    (ap (λ mask. merged mask (slice_index cp0 number) value) (ap written_in unlisted) ∙ merged_none (slice_index cp0 number) value small)
    ∙ set-get_or cp0 number 0

-- what a write by software rests on: the bits that it leaves can stand in its register, and the registers keep what they keep
pub ruleset software_write = (merged_only, written_possible, timer_line_is_free, pair_possible, random_stays, mask_taken, write_is_lost)
