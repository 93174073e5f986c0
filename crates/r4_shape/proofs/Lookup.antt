-- Names looked up among those under a word, and among several lists.
use Rattle.std.proofs.Common.{inl, inr, ◌≡◌, ◌∙◌, refl, sym, ap₂, ℕ, Bool, true, false, cond, List, [], ◌∷◌, ◌++◌, Option, Some, None}
use Rattle.std.specs.Prelude.{bytes_eq, codes, nat_le}
use Rattle.std.specs.List.{list_all}
use Rattle.std.specs.Option.{option_or}
use Rattle.std.proofs.lemmas.Bool.{and_parts, cases_Bool}
use Rattle.std.proofs.lemmas.Slice.Eq.{bytes_eq-Decides}
use Rattle.r4_shape.specs.Names.{Name, name, names, slash, under, shape_of, primary_names, size_names, group_names, secondary_names, read_shape}
use Rattle.r4_shape.specs.Numbers.{Numbers, IsLine}
use Rattle.r4_shape.proofs.Cut.{first, rest, is_plain, is_written, same_name}

-- no name is empty
abbrev pub is_named : Name → Bool
is_named one = is_written one.text

-- the answer of a list of names, given whether the first of them has the text
abbrev found : Bool → Numbers → Option Numbers → Option Numbers
found same shape later = cond same (Some shape) later

shape_of-cons : (one : Name) (some : List Name) (text : List ℕ) → shape_of (one ∷ some) text ≡ found (bytes_eq text one.text) one.shape (shape_of some text)
shape_of-cons one some text = elim (cases_Bool (bytes_eq text one.text)) [ inl e ↦ rw e refl | inr e ↦ rw e refl ]

pub shape_of-append : (xs ys : List Name) (text : List ℕ) → shape_of (xs ++ ys) text ≡ option_or (shape_of xs text) (shape_of ys text)
shape_of-append [] ys text = refl
shape_of-append (x ∷ xs) ys text = elim (cases_Bool (bytes_eq text x.text)) [ inl e ↦ rw e refl | inr e ↦ rw e (shape_of-append xs ys text) ]

pub shape_of-under : (head : List ℕ) (names : List Name) (text : List ℕ) → is_plain head ≡ true → list_all is_named names ≡ true
    → shape_of (under head names) text ≡ cond (bytes_eq (first text) head) (shape_of names (rest text)) None
shape_of-under head [] text plain named = elim (cases_Bool (bytes_eq (first text) head)) [ inl e ↦ rw e refl | inr e ↦ rw e refl ]
shape_of-under head (one ∷ names) text plain named =
    let parts = and_parts (is_named one) (list_all is_named names) named in
    shape_of-cons (name (head ++ slash ∷ one.text) one.shape) (under head names) text
    ∙ (rw (same_name text head one.text plain parts.0, shape_of-under head names text plain parts.1) (elim (cases_Bool (bytes_eq (first text) head)) [
      | inl e ↦ rw e (sym (shape_of-cons one names (rest text)))
      | inr e ↦ rw e refl
    ]))

bytes_eq-is : (text word : List ℕ) → bytes_eq text word ≡ true → text ≡ word
bytes_eq-is text word same = (bytes_eq-Decides text word).0 same

-- the answer of two lists of names, given whether the text is under the word of the first
both : (same : Bool) (x y : Option Numbers) → (same ≡ true → y ≡ None) → option_or (cond same x None) y ≡ cond same x y
both true x y apart = rw (apart refl) (go x)
  where
    go : (x : Option Numbers) → option_or x None ≡ x
    go None = refl
    go (Some shape) = refl
both false x y apart = refl

-- a text that is one word is no other
apart : (text one other : List ℕ) → bytes_eq one other ≡ false → bytes_eq text one ≡ true → bytes_eq text other ≡ false
apart text one other differ same = rw (bytes_eq-is text one same) differ

-- the choice by two words, and by three
two : (head a b : List ℕ) → bytes_eq a b ≡ false → (x y : Option Numbers)
    → option_or (cond (bytes_eq head a) x None) (cond (bytes_eq head b) y None) ≡ cond (bytes_eq head a) x (cond (bytes_eq head b) y None)
two head a b differ x y = both (bytes_eq head a) x _ (λ same. rw (apart head a b differ same) refl)

three : (head a b c : List ℕ) → bytes_eq a b ≡ false → bytes_eq a c ≡ false → bytes_eq b c ≡ false → (x y z : Option Numbers)
    → option_or (cond (bytes_eq head a) x None) (option_or (cond (bytes_eq head b) y None) (cond (bytes_eq head c) z None))
    ≡ cond (bytes_eq head a) x (cond (bytes_eq head b) y (cond (bytes_eq head c) z None))
three head a b c ab ac bc x y z =
    rw (two head b c bc y z) (both (bytes_eq head a) x _ (λ same. rw (apart head a b ab same, apart head a c ac same) refl))

-- the names by their first word
pub kind_of : (text : List ℕ) → read_shape text ≡ cond (bytes_eq (first text) (codes "pc")) (shape_of (primary_names 8192) (rest text))
    (cond (bytes_eq (first text) (codes "sc")) (shape_of (secondary_names 8192) (rest text)) None)
unfolding read_shape secondary_names group_names
kind_of text =
    shape_of-append (under (codes "pc") (primary_names 8192)) (under (codes "sc") (secondary_names 8192)) text
    ∙ (ap₂ option_or (shape_of-under (codes "pc") (primary_names 8192) text refl refl) (shape_of-under (codes "sc") (secondary_names 8192) text refl refl)
    ∙ two (first text) (codes "pc") (codes "sc") refl _ _)

pub line_of : (prim : ℕ) (text : List ℕ) → shape_of (secondary_names prim) text ≡ cond (bytes_eq (first text) (codes "16")) (shape_of (group_names prim 16) (rest text))
    (cond (bytes_eq (first text) (codes "32")) (shape_of (group_names prim 32) (rest text)) None)
unfolding secondary_names group_names
line_of prim text =
    shape_of-append (under (codes "16") (group_names prim 16)) (under (codes "32") (group_names prim 32)) text
    ∙ (ap₂ option_or (shape_of-under (codes "16") (group_names prim 16) text refl refl) (shape_of-under (codes "32") (group_names prim 32) text refl refl)
    ∙ two (first text) (codes "16") (codes "32") refl _ _)

longer : (prim line : ℕ) (text : List ℕ)
    → shape_of (under (codes "32") (size_names prim line 32) ++ (under (codes "64") (size_names prim line 64) ++ under (codes "128") (size_names prim line 128))) text ≡
    cond (bytes_eq (first text) (codes "32")) (shape_of (size_names prim line 32) (rest text))
    (cond (bytes_eq (first text) (codes "64")) (shape_of (size_names prim line 64) (rest text))
    (cond (bytes_eq (first text) (codes "128")) (shape_of (size_names prim line 128) (rest text)) None))
longer prim line text =
    shape_of-append (under (codes "32") (size_names prim line 32)) (under (codes "64") (size_names prim line 64) ++ under (codes "128") (size_names prim line 128)) text
    ∙ (ap₂ option_or (shape_of-under (codes "32") (size_names prim line 32) text refl refl) (
    shape_of-append (under (codes "64") (size_names prim line 64)) (under (codes "128") (size_names prim line 128)) text
    ∙ ap₂ option_or (shape_of-under (codes "64") (size_names prim line 64) text refl refl) (shape_of-under (codes "128") (size_names prim line 128) text refl refl))
    ∙ three (first text) (codes "32") (codes "64") (codes "128") refl refl refl _ _ _)

-- a text whose first word is 16 has none of the longer lengths
none_longer : (text : List ℕ) (x y z : Option Numbers) → bytes_eq (first text) (codes "16") ≡ true
    → cond (bytes_eq (first text) (codes "32")) x (cond (bytes_eq (first text) (codes "64")) y (cond (bytes_eq (first text) (codes "128")) z None)) ≡ None
none_longer text x y z same =
    rw (apart (first text) (codes "16") (codes "32") refl same, apart (first text) (codes "16") (codes "64") refl same, apart (first text) (codes "16") (codes "128") refl same) refl

pub length_of : (prim line : ℕ) (text : List ℕ) → IsLine line → shape_of (group_names prim line) text ≡
    cond (bytes_eq (first text) (codes "16")) (cond (nat_le line 16) (shape_of (size_names prim line 16) (rest text)) None)
    (cond (bytes_eq (first text) (codes "32")) (shape_of (size_names prim line 32) (rest text))
    (cond (bytes_eq (first text) (codes "64")) (shape_of (size_names prim line 64) (rest text))
    (cond (bytes_eq (first text) (codes "128")) (shape_of (size_names prim line 128) (rest text)) None)))
unfolding group_names
length_of prim line text (inl is) = rw is (
    shape_of-append (under (codes "16") (size_names prim 16 16)) (under (codes "32") (size_names prim 16 32) ++ (under (codes "64") (size_names prim 16 64) ++ under (codes "128") (size_names prim 16 128))) text
    ∙ (ap₂ option_or (shape_of-under (codes "16") (size_names prim 16 16) text refl refl) (longer prim 16 text)
    ∙ both (bytes_eq (first text) (codes "16")) _ _ (none_longer text _ _ _)))
length_of prim line text (inr is) = rw is (longer prim 32 text ∙ elim (cases_Bool (bytes_eq (first text) (codes "16"))) [
  | inl same ↦ none_longer text _ _ _ same ∙ rw same refl
  | inr other ↦ rw other refl
])
