-- What is stored of the registers is a pair, and what a pair has goes into the registers.
use Rattle.std.proofs.Common.{inl, inr, ◌≡◌, ◌∙◌, refl, sym, ap, subst, ℕ, zero, suc, ◌-◌, ◌*◌, ◌^◌, ◌<◌, ◌≤◌, Bool, true, List, [], ◌∷◌, arith}
use Rattle.std.specs.Prelude.{bit_and, replicate, ◌==◌, ◌&&◌, ◌||◌}
use Rattle.std.specs.List.{list_any, list_all}
use Rattle.std.proofs.lemmas.Bool.{and_parts, cases_Bool, eqb-true}
use Rattle.std.proofs.lemmas.List.Elements.{All-replicate}
use Rattle.std.proofs.lemmas.Nat.{and_assoc, and_mask}
use Rattle.cp0_regs.specs.Bits.{HasOnly, all_bits}
use Rattle.cp0_regs.specs.PageMasks.{IsMask, is_mask, page_masks}
use Rattle.tlb_model.specs.Pairs.{IsPair, ArePairs, hi_bits, lo_bits, stored_pair, global_bit, zero_pair}

-- a number that is one of a list, all of which pass a test, passes it
passes : (test : ℕ → Bool) (numbers : List ℕ) (number : ℕ) → list_any (λ one. number == one) numbers ≡ true → list_all test numbers ≡ true → test number ≡ true
passes test [] number one all = absurd cc
passes test (first ∷ rest) number one all =
    let parts = and_parts (test first) (list_all test rest) all in
    elim (cases_Bool (number == first)) [
      | inl same ↦ ap test (eqb-true number first same) ∙ parts.0
      | inr other ↦ passes test rest number (subst (λ b. (b || list_any (λ n. number == n) rest) ≡ true) other one) parts.1
    ]

-- the bits of EntryHi that a pair keeps, for each mask
abbrev keeps : ℕ → Bool
keeps mask = (bit_and (all_bits - mask) (hi_bits - mask) == hi_bits - mask) && (bit_and hi_bits (all_bits - mask) == hi_bits - mask)

kept : (mask : ℕ) → IsMask mask → keeps mask ≡ true
kept mask is = passes keeps page_masks mask is.is refl

hi_stored : (mask hi : ℕ) → IsMask mask → HasOnly hi hi_bits → HasOnly (bit_and hi (all_bits - mask)) (hi_bits - mask)
hi_stored mask hi is only =
    let parts = and_parts (bit_and (all_bits - mask) (hi_bits - mask) == hi_bits - mask) (bit_and hi_bits (all_bits - mask) == hi_bits - mask) (kept mask is) in
    let left : bit_and (bit_and hi (all_bits - mask)) (hi_bits - mask) ≡ bit_and hi (hi_bits - mask) = and_assoc (hi_bits - mask) hi (all_bits - mask) ∙ ap (bit_and hi) (eqb-true _ _ parts.0) in
    let right : bit_and hi (all_bits - mask) ≡ bit_and hi (hi_bits - mask) =
    ap (λ n. bit_and n (all_bits - mask)) (sym only.is) ∙ and_assoc (all_bits - mask) hi hi_bits ∙ ap (bit_and hi) (eqb-true _ _ parts.1) in
    record { is = left ∙ sym right }

-- a number with only the bits of an EntryLo is one below 2 ^ 30
pub lo_small : (lo : ℕ) → HasOnly lo lo_bits → lo < 2 ^ 30
lo_small lo only = omega (arith, only.is, and_mask lo 30)

lo_only : (lo : ℕ) → lo < 2 ^ 30 → HasOnly lo lo_bits
lo_only lo small = record { is = and_mask lo 30 ∙ omega arith }

product_small : (a b : ℕ) → a < 2 → a * b ≤ b
product_small zero b lt = omega arith
product_small (suc zero) b lt = omega arith
product_small (suc (suc a)) b lt = absurd (omega arith)

pub stored_is_pair : (mask hi lo0 lo1 : ℕ) → IsMask mask → HasOnly hi hi_bits → HasOnly lo0 lo_bits → HasOnly lo1 lo_bits → IsPair (stored_pair mask hi lo0 lo1)
stored_is_pair mask hi lo0 lo1 is_mask only_hi only0 only1 =
    let g = global_bit lo0 * global_bit lo1 in
    let one : g ≤ global_bit lo1 = product_small (global_bit lo0) (global_bit lo1) (omega arith) in
    let small0 = lo_small lo0 only0 in
    let small1 = lo_small lo1 only1 in
    record {
      mask = is_mask;
      hi = hi_stored mask hi is_mask only_hi;
      lo0 = lo_only _ (omega (arith, one, small0));
      lo1 = lo_only _ (omega (arith, one, small1));
      global = omega (arith, one);
    }

-- a mask has only bits of PageMask, and the page number of a pair only bits of EntryHi
abbrev in_register : ℕ → Bool
in_register mask = bit_and mask 0x01ffe000 == mask

pub mask_only : (mask : ℕ) → IsMask mask → HasOnly mask 0x01ffe000
mask_only mask is = record { is = eqb-true _ _ (passes in_register page_masks mask is.is refl) }

abbrev in_hi : ℕ → Bool
in_hi mask = bit_and (hi_bits - mask) hi_bits == hi_bits - mask

pub hi_only : (mask hi : ℕ) → IsMask mask → HasOnly hi (hi_bits - mask) → HasOnly hi hi_bits
hi_only mask hi is only = record {
  is =
      ap (λ n. bit_and n hi_bits) (sym only.is) ∙ and_assoc hi_bits hi (hi_bits - mask)
      ∙ ap (bit_and hi) (eqb-true _ _ (passes in_hi page_masks mask is.is refl)) ∙ only.is;
}

-- zero pairs are pairs
pub zero_is_pair : IsPair zero_pair
zero_is_pair = record {
  mask = record { is = refl };
  hi = record { is = refl };
  lo0 = record { is = refl };
  lo1 = record { is = refl };
  global = refl;
}

pub zeros_are_pairs : (count : ℕ) → ArePairs (replicate count zero_pair)
zeros_are_pairs count = All-replicate IsPair count zero_pair zero_is_pair
