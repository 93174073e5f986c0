-- The greatest page mask that a word has all bits of is the first of them, since the list of the masks falls.
use Rattle.std.proofs.Common.{◌≡◌, refl, ℕ, ◌≤◌, Bool, true, false, List, [], ◌∷◌, Option, Some, arith}
use Rattle.std.specs.Prelude.{cond, max, nat_le, ◌&&◌}
use Rattle.std.specs.Option.{unwrap_or}
use Rattle.std.specs.List.{filter, find, list_all}
use Rattle.std.proofs.lemmas.Bool.{leb-true, and_parts}
use Rattle.cp0_regs.specs.PageMasks.{greatest, page_masks, has_all_of, longest_run, is_mask, IsMask}

-- no number of a list is above a bound
abbrev are_at_most : ℕ → List ℕ → Bool
are_at_most bound numbers = list_all (λ number. nat_le number bound) numbers

-- each number of a list is at least those behind it
abbrev falls : List ℕ → Bool
falls [] = true
falls (number ∷ numbers) = are_at_most number numbers && falls numbers

greatest_kept : (test : ℕ → Bool) (number : ℕ) (numbers : List ℕ) → (b : Bool)
    → greatest (cond b (number ∷ filter test numbers) (filter test numbers)) ≤ max number (greatest (filter test numbers))
greatest_kept test number numbers true = omega arith
greatest_kept test number numbers false = omega arith

-- what passes a test is not above the bound either
greatest_at_most : (test : ℕ → Bool) (bound : ℕ) (numbers : List ℕ) → are_at_most bound numbers ≡ true → greatest (filter test numbers) ≤ bound
greatest_at_most test bound [] h = omega arith
greatest_at_most test bound (number ∷ numbers) h =
    let parts = and_parts (nat_le number bound) (are_at_most bound numbers) h in
    omega (arith, greatest_kept test number numbers (test number), leb-true number bound parts.0, greatest_at_most test bound numbers parts.1)

greatest_first : (number : ℕ) (others : List ℕ) (found : Option ℕ) → greatest others ≤ number → greatest others ≡ unwrap_or found 0 → (b : Bool)
    → greatest (cond b (number ∷ others) others) ≡ unwrap_or (cond b (Some number) found) 0
greatest_first number others found le same true = omega arith
greatest_first number others found le same false = same

-- in a list that falls, the greatest that passes a test is the first that does
greatest_is_first : (test : ℕ → Bool) (numbers : List ℕ) → falls numbers ≡ true → greatest (filter test numbers) ≡ unwrap_or (find test numbers) 0
greatest_is_first test [] h = refl
greatest_is_first test (number ∷ numbers) h =
    let parts = and_parts (are_at_most number numbers) (falls numbers) h in
    greatest_first number (filter test numbers) (find test numbers) (greatest_at_most test number numbers parts.0) (greatest_is_first test numbers parts.1) (test number)

-- the longest run of a word
pub longest_run_is : (word : ℕ) → longest_run word ≡ unwrap_or (find (has_all_of word) page_masks) 0
unfolding longest_run
longest_run_is word = greatest_is_first (has_all_of word) page_masks refl

-- what is found among numbers that all pass a test passes it
found_passes : (test pass : ℕ → Bool) (numbers : List ℕ) → list_all pass numbers ≡ true → pass 0 ≡ true → pass (unwrap_or (find test numbers) 0) ≡ true
found_passes test pass [] all zero = zero
found_passes test pass (number ∷ numbers) all zero =
    let parts = and_parts (pass number) (list_all pass numbers) all in
    let here : (b : Bool) → pass (unwrap_or (cond b (Some number) (find test numbers)) 0) ≡ true =
    λ b. elim b as (λ v. pass (unwrap_or (cond v (Some number) (find test numbers)) 0) ≡ true) [ true ↦ parts.0 | false ↦ found_passes test pass numbers parts.1 zero ] in
    here (test number)

pub first_is_mask : (word : ℕ) → IsMask (unwrap_or (find (has_all_of word) page_masks) 0)
first_is_mask word = record { is = found_passes (has_all_of word) is_mask page_masks refl refl }
