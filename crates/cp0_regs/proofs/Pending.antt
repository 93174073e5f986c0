-- Two numbers of 8 bits have a bit in common exactly where `&` of them is not zero.
use Rattle.std.proofs.Common.{◌≡◌, refl, ◌∙◌, sym, ap, subst, inl, inr, ℕ, zero, suc, ◌<◌, ◌≤◌, ◌+◌, ◌^◌, Bool, false, arith}
use Rattle.std.specs.Prelude.{bit_and, ◌==◌, ◌&&◌, not, min}
use Rattle.std.specs.Int.{bit_at}
use Rattle.std.specs.List.{list_any, range_with_len}
use Rattle.std.proofs.lemmas.Bool.{cases_Bool, or_parts, eqb-true, eqb-false}
use Rattle.std.proofs.lemmas.Nat.{and_le_l}
use Rattle.std.proofs.lemmas.Nat.Bits.{bit_at_and, bit_at-lt, same_from_bits_below}

-- where no number of a range passes a test, a number of it does not
none_at : (test : ℕ → Bool) (from count : ℕ) → list_any test (range_with_len from count) ≡ false → (number : ℕ) → from ≤ number → number < from + count → test number ≡ false
none_at test from zero none number above below = absurd (omega arith)
none_at test from (suc count) none number above below =
    let parts = or_parts (test from) (list_any test (range_with_len (from + 1) count)) none in
    elim (cases_Bool (from == number)) [
      | inl same ↦ subst (λ n. test n ≡ false) (eqb-true from number same) parts.0
      | inr differs ↦ let other : from ≡ number → ⊥ = eqb-false from number differs in
          none_at test (from + 1) count parts.1 number (omega (arith, other)) (omega arith)
    ]

abbrev has_bit : ℕ → ℕ → Bool
has_bit number place = bit_at number place == 1

-- a number of 8 bits is not zero exactly where it has a bit
some_bit : (number : ℕ) → number < 2 ^ 8 → not (number == 0) ≡ list_any (has_bit number) (range_with_len 0 8)
some_bit number small =
    elim (cases_Bool (number == 0)) [
      | inl is_zero ↦ subst (λ n. not (n == 0) ≡ list_any (has_bit n) (range_with_len 0 8)) (sym (eqb-true number 0 is_zero)) refl
      | inr is_not ↦ elim (cases_Bool (list_any (has_bit number) (range_with_len 0 8))) [
        | inl some ↦ ap not is_not ∙ sym some
        | inr none ↦ absurd (eqb-false number 0 is_not (same_from_bits_below 8 number 0 small (omega arith)
            (λ place below. let clear : bit_at number place ≡ 1 → ⊥ = eqb-false _ _ (none_at (has_bit number) 0 8 none place (omega arith) (omega arith)) in
            omega (arith, clear, bit_at-lt number place, bit_at_zero place))))
      ]
    ]
  where
    bit_at_zero : (place : ℕ) → bit_at 0 place ≡ 0
    bit_at_zero place = omega arith

-- a bit that both have is one that `&` has
both_have : (one other place : ℕ) → (has_bit one place && has_bit other place) ≡ has_bit (bit_and one other) place
both_have one other place =
    bits_of_min (bit_at one place) (bit_at other place) (bit_at-lt one place) (bit_at-lt other place) ∙ ap (λ bit. bit == 1) (sym (bit_at_and one other place))
  where
    bits_of_min : (a b : ℕ) → a < 2 → b < 2 → ((a == 1) && (b == 1)) ≡ (min a b == 1)
    bits_of_min zero zero a_small b_small = refl
    bits_of_min zero (suc zero) a_small b_small = refl
    bits_of_min zero (suc (suc b)) a_small b_small = absurd (omega arith)
    bits_of_min (suc zero) zero a_small b_small = refl
    bits_of_min (suc zero) (suc zero) a_small b_small = refl
    bits_of_min (suc zero) (suc (suc b)) a_small b_small = absurd (omega arith)
    bits_of_min (suc (suc a)) b a_small b_small = absurd (omega arith)

pub common_bit : (one other : ℕ) → one < 2 ^ 8 → not (bit_and one other == 0) ≡ list_any (λ place. has_bit one place && has_bit other place) (range_with_len 0 8)
common_bit one other small =
    some_bit (bit_and one other) (omega (arith, and_le_l one other))
    ∙ ap (λ test. list_any test (range_with_len 0 8)) (λ i place. sym (both_have one other place) i)
