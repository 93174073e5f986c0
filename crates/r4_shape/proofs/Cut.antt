-- A name of several words is found by its first word and what stands after the first slash.
use Rattle.std.proofs.Common.{inl, inr, ◌≡◌, refl, sym, ℕ, suc, ◌+◌, Bool, true, false, ◌&&◌, not, List, [], ◌∷◌, ◌++◌, arith}
use Rattle.std.specs.Prelude.{◌==◌, bytes_eq}
use Rattle.std.specs.List.{before_first, after_first, position_or_len, list_all}
use Rattle.std.proofs.lemmas.Bool.{and_parts, cases_Bool, eqb-true}
use Rattle.std.proofs.lemmas.Bool.Decides.{nat_tests}
use Rattle.r4_shape.specs.Names.{slash}

-- the words round the first slash
abbrev pub first : List ℕ → List ℕ
first text = before_first (λ code. code == slash) text

abbrev pub rest : List ℕ → List ℕ
rest text = after_first (λ code. code == slash) text

first_here : (text : List ℕ) → first (slash ∷ text) ≡ []
first_here text = refl

rest_here : (text : List ℕ) → rest (slash ∷ text) ≡ text
rest_here text = refl

first_later : (code : ℕ) (text : List ℕ) → (code == slash) ≡ false → first (code ∷ text) ≡ code ∷ first text
first_later code text other =
    let n = position_or_len (λ one. one == slash) text in
    let more : 1 + n ≡ suc n = omega arith in
    rw (other, more) refl

rest_later : (code : ℕ) (text : List ℕ) → (code == slash) ≡ false → rest (code ∷ text) ≡ rest text
rest_later code text other =
    let n = position_or_len (λ one. one == slash) text in
    let more : 1 + n + 1 ≡ suc (n + 1) = omega arith in
    rw (other, more) refl

-- a word has no slash
abbrev pub is_plain : List ℕ → Bool
is_plain text = list_all (λ code. not (code == slash)) text

-- a text is a word, a slash and another text that is not empty, exactly if its parts are
pub same_parts : (text head : List ℕ) (c : ℕ) (tail : List ℕ) → is_plain head ≡ true
    → bytes_eq text (head ++ slash ∷ c ∷ tail) ≡ (bytes_eq (first text) head && bytes_eq (rest text) (c ∷ tail))
same_parts [] [] c tail plain = refl
same_parts [] (h ∷ head) c tail plain = refl
same_parts (t ∷ text) [] c tail plain = elim (cases_Bool (t == slash)) [
  | inl here ↦ rw (eqb-true t slash here) refl
  | inr other ↦ rw (first_later t text other, other) refl
]
same_parts (t ∷ text) (h ∷ head) c tail plain =
    let parts = and_parts (not (h == slash)) (is_plain head) plain in
    elim (cases_Bool (t == slash)) [
      | inl here ↦ rw (eqb-true t slash here) (rw (not_same h parts.0) refl)
      | inr other ↦ rw (first_later t text other, rest_later t text other, same_parts text head c tail parts.1) (sym (and_assoc (t == h) _ _))
    ]
  where
    not_same : (h : ℕ) → not (h == slash) ≡ true → (slash == h) ≡ false
    not_same h apart = grind (arith, nat_tests)

    and_assoc : (a b c : Bool) → ((a && b) && c) ≡ (a && (b && c))
    and_assoc true b c = refl
    and_assoc false b c = refl

-- a text that is not empty
abbrev pub is_written : List ℕ → Bool
is_written [] = false
is_written (c ∷ text) = true

pub same_name : (text head tail : List ℕ) → is_plain head ≡ true → is_written tail ≡ true → bytes_eq text (head ++ slash ∷ tail) ≡ (bytes_eq (first text) head && bytes_eq (rest text) tail)
same_name text head [] plain written = absurd cc
same_name text head (c ∷ tail) plain written = same_parts text head c tail plain
