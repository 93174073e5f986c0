-- A list cut at the first element that passes a test.
use Rattle.std.proofs.Common.{◌≡◌, ◌+◌, ◌-◌, ◌<◌, ◌≤◌, ℕ, Bool, true, false, not, List, [], ◌∷◌, length, take, drop, cond, nat_lt, position, Some, None, refl, ap, sym, ◌∙◌, arith, length-drop}
use Rattle.std.specs.List.{prefix_len, position_or_len, slice_split, onto_first}
use Rattle.std.proofs.lemmas.List.{take_all}
use Rattle.std.proofs.lemmas.List.Splits.{slice_split_first, length-slice_split}
use Rattle.std.proofs.lemmas.Bool.{ltb-true, ltb-false}

-- where no element passes, the list is the one part
whole_list : {X : Type 0} (p : X → Bool) (xs : List X) → length xs ≤ prefix_len (λ x. not (p x)) xs → slice_split p xs ≡ xs ∷ []
whole_list p [] le = refl
whole_list {X} p (x ∷ xs) le = by_test (p x) (whole_list p xs) le
  where
    by_test : (b : Bool) (later : length xs ≤ prefix_len (λ x. not (p x)) xs → slice_split p xs ≡ xs ∷ []) → length (x ∷ xs) ≤ cond (not b) (1 + prefix_len (λ x. not (p x)) xs) 0 → cond b ([] ∷ slice_split p xs) (onto_first x (slice_split p xs)) ≡ (x ∷ xs) ∷ []
    by_test true later le = absurd (omega arith)
    by_test false later le = ap (onto_first x) (later (omega arith))

-- the index of the first element that passes
position_is : (n len at : ℕ) (b : Bool) → nat_lt n len ≡ b → cond b (Some n) None ≡ Some at → (n ≡ at) × (n < len)
position_is n len at true is found = (cc, ltb-true n len is)
position_is n len at false is found = absurd (cc)

-- there is no such element
position_is_none : (n len : ℕ) (b : Bool) → nat_lt n len ≡ b → cond b (Some n) None ≡ None → len ≤ n
position_is_none n len true is none = absurd (cc)
position_is_none n len false is none = ltb-false n len is

-- the parts round the first element that passes
pub split_at_first : (p : ℕ → Bool) (xs : List ℕ) (at : ℕ) → position p xs ≡ Some at →
    slice_split p xs ≡ take at xs ∷ slice_split p (take (length xs - (at + 1)) (drop (at + 1) xs))
split_at_first p xs at found =
    let is = position_is (position_or_len p xs) (length xs) at (nat_lt (position_or_len p xs) (length xs)) refl found in
    let rest : take (length xs - (at + 1)) (drop (at + 1) xs) ≡ drop (at + 1) xs = take_all (length xs - (at + 1)) (drop (at + 1) xs) (omega (arith, length-drop (at + 1) xs)) in
    slice_split_first p xs 0 is.1
    ∙ ap (λ n. take n xs ∷ slice_split p (drop (n + 1) xs)) is.0
    ∙ ap (λ r. take at xs ∷ slice_split p r) (sym rest)

-- the one part of a list where no element passes
pub split_nowhere : (p : ℕ → Bool) (xs : List ℕ) → position p xs ≡ None → slice_split p xs ≡ xs ∷ []
split_nowhere p xs none = whole_list p xs (position_is_none (position_or_len p xs) (length xs) (nat_lt (position_or_len p xs) (length xs)) refl none)

-- a list has a part
pub has_part : (p : ℕ → Bool) (xs : List ℕ) → 0 < length (slice_split p xs)
has_part p xs = omega (arith, length-slice_split p xs)
