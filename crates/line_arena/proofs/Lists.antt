-- Lists after one element was replaced, and how many of a list's elements pass a test.
use Rattle.std.proofs.Common.{◌≡◌, ◌≢◌, ◌⊎◌, ℕ, zero, suc, ◌+◌, ◌<◌, add-zero, zero-add, Bool, true, false, cond, List, [], ◌∷◌, length, get_or, set, map, Some, None, count_by, refl, sym, ap, ◌∙◌, inl, inr, arith, get_or-set_same, get_or-set_other}
use Rattle.std.specs.List.{list_any, position, position_from}
use Rattle.std.proofs.lemmas.Bool.{cases_Bool, cases_eq}
use Rattle.std.proofs.lemmas.List.Sums.{sum_by-set, sum_by-cons}
use Rattle.std.proofs.lemmas.Iterator.Adapters.{position_from-zero}

-- What stands at an index after the element at another was replaced.
pub set_cases : {X : Type 0} (xs : List X) (i k : ℕ) (x d : X) → i < length xs → ((k ≡ i) × (get_or (set xs i x) k d ≡ x)) ⊎ ((k ≢ i) × (get_or (set xs i x) k d ≡ get_or xs k d))
set_cases xs i k x d lt = elim (cases_eq k i) [
  | inl e ↦ inl (e, ap (λ (n : ℕ). get_or (set xs i x) n d) e ∙ get_or-set_same xs i x d lt)
  | inr ne ↦ inr (ne, get_or-set_other xs i k x d ne)
]

map_same : {X Y : Type 0} (f g : X → Y) (xs : List X) (d : X) → ((k : ℕ) → k < length xs → g (get_or xs k d) ≡ f (get_or xs k d)) → map g xs ≡ map f xs
map_same f g [] d same = refl
map_same f g (x ∷ xs) d same =
    let rest = map_same f g xs d (λ k lt. same (suc k) (omega arith)) in
    let head : g x ≡ f x = same 0 (omega arith) in
    rw (head, rest) refl

-- A function that differs from another at one index alone, where the element was replaced.
pub map_set : {X Y : Type 0} (f g : X → Y) (xs : List X) (i : ℕ) (x d : X) → ((k : ℕ) → k ≢ i → k < length xs → g (get_or xs k d) ≡ f (get_or xs k d)) → map g (set xs i x) ≡ set (map f xs) i (g x)
map_set f g [] i x d same = refl
map_set f g (y ∷ ys) zero x d same =
    let rest = map_same f g ys d (λ k lt. same (suc k) (λ e. omega (arith, e)) (omega arith)) in
    rw rest refl
map_set f g (y ∷ ys) (suc i) x d same =
    let rest = map_set f g ys i x d (λ k ne lt. same (suc k) (λ e. ne (omega (arith, e))) (omega arith)) in
    let head : g y ≡ f y = same 0 (λ e. omega (arith, e)) (omega arith) in
    rw (head, rest) refl

-- What stands at an index of a list does not depend on what a read past its end gives.
pub default : {X : Type 0} (xs : List X) (i : ℕ) (d e : X) → i < length xs → get_or xs i d ≡ get_or xs i e
default [] i d e lt = absurd (omega arith)
default (x ∷ xs) zero d e lt = refl
default (x ∷ xs) (suc i) d e lt = default xs i d e (omega arith)

module _ {X : Type 0} (p : X → Bool) where
  -- One element more passes, one fewer, or as many.
  pub count_gain : (xs : List X) (i : ℕ) (x d : X) → i < length xs → p (get_or xs i d) ≡ false → p x ≡ true → count_by p (set xs i x) ≡ count_by p xs + 1
  count_gain xs i x d lt was is = omega (arith, rw (was, is) at (sum_by-set (λ x. cond (p x) 1 0) xs i x d lt))

  pub count_loss : (xs : List X) (i : ℕ) (x d : X) → i < length xs → p (get_or xs i d) ≡ true → p x ≡ false → count_by p (set xs i x) + 1 ≡ count_by p xs
  count_loss xs i x d lt was is = omega (arith, rw (was, is) at (sum_by-set (λ x. cond (p x) 1 0) xs i x d lt))

  pub count_stay : (xs : List X) (i : ℕ) (x d : X) → i < length xs → p (get_or xs i d) ≡ false → p x ≡ false → count_by p (set xs i x) ≡ count_by p xs
  count_stay xs i x d lt was is = omega (arith, rw (was, is) at (sum_by-set (λ x. cond (p x) 1 0) xs i x d lt))

  pub count_keep : (xs : List X) (i : ℕ) (x d : X) → i < length xs → p (get_or xs i d) ≡ true → p x ≡ true → count_by p (set xs i x) ≡ count_by p xs
  count_keep xs i x d lt was is = omega (arith, rw (was, is) at (sum_by-set (λ x. cond (p x) 1 0) xs i x d lt))

  -- The count of a list, by its head.
  count_yes : (x : X) (xs : List X) → p x ≡ true → count_by p (x ∷ xs) ≡ 1 + count_by p xs
  count_yes x xs passes =
      let one : cond (p x) 1 0 ≡ 1 = rw passes refl in
      sum_by-cons (λ x. cond (p x) 1 0) x xs ∙ ap (λ (n : ℕ). n + count_by p xs) one

  count_no : (x : X) (xs : List X) → p x ≡ false → count_by p (x ∷ xs) ≡ count_by p xs
  count_no x xs fails =
      let none : cond (p x) 1 0 ≡ 0 = rw fails refl in
      sum_by-cons (λ x. cond (p x) 1 0) x xs ∙ ap (λ (n : ℕ). n + count_by p xs) none ∙ zero-add (count_by p xs)

  -- An element that passes is counted.
  pub count_some : (xs : List X) (k : ℕ) (d : X) → k < length xs → p (get_or xs k d) ≡ true → 0 < count_by p xs
  count_some [] k d lt passes = absurd (omega arith)
  count_some (x ∷ xs) zero d lt passes = omega (arith, count_yes x xs passes)
  count_some (x ∷ xs) (suc k) d lt passes = omega (arith, count_some xs k d (omega arith) passes, sum_by-cons (λ x. cond (p x) 1 0) x xs)

  -- Where none passes, none is counted.
  pub count_none : (xs : List X) (d : X) → ((k : ℕ) → k < length xs → p (get_or xs k d) ≡ false) → count_by p xs ≡ 0
  count_none [] d fails = refl
  count_none (x ∷ xs) d fails =
      let head : p x ≡ false = fails 0 (omega arith) in
      count_no x xs head ∙ count_none xs d (λ k lt. fails (suc k) (omega arith))

  -- Either some element passes, or none is counted.
  pub any_cases : (xs : List X) → ((list_any p xs ≡ true) × (0 < count_by p xs)) ⊎ ((list_any p xs ≡ false) × (count_by p xs ≡ 0))
  any_cases [] = inr (refl, refl)
  any_cases (x ∷ xs) = elim (cases_Bool (p x)) [
    | inl passes ↦ inl (rw passes refl, omega (arith, count_yes x xs passes))
    | inr fails ↦ elim (any_cases xs) [
      | inl some ↦ inl (rw (fails, some.0) refl, omega (arith, some.1, count_no x xs fails))
      | inr none ↦ inr (rw (fails, none.0) refl, count_no x xs fails ∙ none.1)
    ]
  ]

  first_from : (i : ℕ) (xs : List X) (d : X) → ((position_from p i xs ≡ None) × (count_by p xs ≡ 0)) ⊎ ((k : ℕ) × (position_from p i xs ≡ Some (i + k)) × (k < length xs) × (p (get_or xs k d) ≡ true))
  first_from i [] d = inl (refl, refl)
  first_from i (x ∷ xs) d = elim (cases_Bool (p x)) [
    | inl passes ↦ inr (0, rw passes (ap Some (sym (add-zero i))), omega arith, passes)
    | inr fails ↦ elim (first_from (i + 1) xs d) [
      | inl none ↦ inl (rw fails none.0, count_no x xs fails ∙ none.1)
      | inr found ↦
          let shift : i + 1 + found.0 ≡ i + suc found.0 = omega arith in
          inr (suc found.0, rw fails (found.1 ∙ ap Some shift), omega (arith, found.2), found.3)
    ]
  ]

  -- The first element that passes stands in the list and passes, or none is counted.
  pub first_cases : (xs : List X) (d : X) → ((position p xs ≡ None) × (count_by p xs ≡ 0)) ⊎ ((k : ℕ) × (position p xs ≡ Some k) × (k < length xs) × (p (get_or xs k d) ≡ true))
  first_cases xs d = elim (first_from 0 xs d) [
    | inl none ↦ inl (position_from-zero p xs ∙ none.0, none.1)
    | inr found ↦ inr (found.0, position_from-zero p xs ∙ found.1 ∙ ap Some (zero-add found.0), found.2, found.3)
  ]
