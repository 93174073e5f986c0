-- At most one row of the table matches a word: a test on pairs of rows, computed over the table.
use Rattle.std.proofs.Common.{◌≡◌, ◌==◌, ℕ, zero, suc, ◌+◌, ◌<◌, Bool, true, false, not, ◌&&◌, List, [], ◌∷◌, Option, Some, None, length, bit_and, slice_index_or, refl, sym, ap, subst, ◌∙◌, ⊎_elim, arith, if◌then◌else◌}
use Rattle.std.proofs.Common.{rules, IsNone, IfSome, ◌↔◌}
use Rattle.std.specs.List.{list_all}
use Rattle.std.proofs.lemmas.Bool.{eqb-true, eq-eqb, and_parts, cases_Bool, both_ways, not-true}
use Rattle.std.proofs.lemmas.Nat.{and_assoc, and_comm}
use Rattle.mips3_table.specs.Rows.{Row, rows, row_at, no_row}
use Rattle.mips3_table.specs.Matching.{matches, match_from, row_of, IsRowOf}

-- two rows that no word matches both: they want different things of the bits that both read
abbrev pub apart : Row → Row → Bool
apart one other = not (bit_and one.match other.mask == bit_and other.match one.mask)

-- each row is apart from each later one
abbrev pub all_apart : List Row → Bool
all_apart [] = true
all_apart (row ∷ rest) = list_all (apart row) rest && all_apart rest

pub rows_apart : all_apart rows ≡ true
unfolding rows
rows_apart = refl

pub rows_count : length rows ≡ 129
unfolding rows
rows_count = refl

-- two rows that one word matches want the same of the bits that both read
pub both_read : (word : ℕ) (one other : Row) → bit_and word one.mask ≡ one.match → bit_and word other.mask ≡ other.match →
    bit_and one.match other.mask ≡ bit_and other.match one.mask
both_read word one other at_one at_other =
    ap (λ v. bit_and v other.mask) (sym at_one) ∙ and_assoc other.mask word one.mask ∙ ap (bit_and word) (and_comm one.mask other.mask)
    ∙ sym (and_assoc one.mask word other.mask) ∙ ap (λ v. bit_and v one.mask) at_other

-- so a word that matches one of two rows that are apart does not match the other
pub apart_matches : (word : ℕ) (one other : Row) → apart one other ≡ true → matches word other ≡ true → matches word one ≡ false
apart_matches word one other is_apart at_other =
    ⊎_elim
    (λ at_one. absurd (both_ways (bit_and one.match other.mask == bit_and other.match one.mask) (not-true _ is_apart)
    (eq-eqb _ _ (both_read word one other (eqb-true _ _ at_one) (eqb-true _ _ at_other)))))
    (λ none. none)
    (cases_Bool (matches word one))

-- a test of each element holds of the one at a place
pub each_at : (test : Row → Bool) (rows : List Row) (at : ℕ) → list_all test rows ≡ true → at < length rows → test (slice_index_or rows at no_row) ≡ true
each_at test [] at all within = absurd (omega arith)
each_at test (row ∷ rest) zero all within = (and_parts (test row) (list_all test rest) all).0
each_at test (row ∷ rest) (suc at) all within = each_at test rest at (and_parts (test row) (list_all test rest) all).1 (omega arith)

-- among rows that are apart, the first that a word matches is the one that it matches
pub match_from_only : (word first : ℕ) (rows : List Row) (at : ℕ) → all_apart rows ≡ true → at < length rows →
    matches word (slice_index_or rows at no_row) ≡ true → match_from word first rows ≡ Some (first + at)
match_from_only word first [] at all within is_match = absurd (omega arith)
match_from_only word first (row ∷ rest) zero all within is_match =
    ap (λ b. if b then Some first else match_from word (first + 1) rest) is_match ∙ ap Some (omega arith)
match_from_only word first (row ∷ rest) (suc at) all within is_match =
    let parts = and_parts (list_all (apart row) rest) (all_apart rest) all in
    let here : at < length rest = omega arith in
    let not_first : matches word row ≡ false = apart_matches word row (slice_index_or rest at no_row) (each_at (apart row) rest at parts.0 here) is_match in
    ap (λ b. if b then Some first else match_from word (first + 1) rest) not_first
    ∙ match_from_only word (first + 1) rest at parts.1 here is_match ∙ ap Some (omega arith)

-- what is found is a row of the list that the word matches
pub record FoundIn (word first number : ℕ) (rows : List Row) : Type 0 where
  pub place : ℕ
  pub is : number ≡ first + place
  pub within : place < length rows
  pub is_match : matches word (slice_index_or rows place no_row) ≡ true

pub match_from_found : (word first number : ℕ) (rows : List Row) → match_from word first rows ≡ Some number → FoundIn word first number rows
match_from_found word first number [] found = cc
match_from_found word first number (row ∷ rest) found =
    ⊎_elim
    (λ here.
    let same : Some first ≡ Some number = sym (ap (λ b. if b then Some first else match_from word (first + 1) rest) here) ∙ found in
    let is_first : first ≡ number = cc in
    let is : number ≡ first + 0 = omega arith in
    let within : 0 < suc (length rest) = omega arith in
    record { place = 0; is = is; within = within; is_match = here })
    (λ later.
    let inner : FoundIn word (first + 1) number rest = match_from_found word (first + 1) number rest (sym (ap (λ b. if b then Some first else match_from word (first + 1) rest) later) ∙ found) in
    let is : number ≡ first + suc inner.place = omega arith in
    let within : suc inner.place < suc (length rest) = omega arith in
    record { place = suc inner.place; is = is; within = within; is_match = inner.is_match })
    (cases_Bool (matches word row))

-- the row that a word matches is its row
pub row_of_match : (word number : ℕ) → IsRowOf word number → row_of word ≡ Some number
unfolding row_of row_at
row_of_match word number is_row =
    let within : number < length rows = rw rows_count is_row.is_row in
    match_from_only word 0 rows number rows_apart within (eq-eqb _ _ is_row.is_match) ∙ ap Some (omega arith)

-- the row of a word is a row that it matches
pub match_of_row : (word number : ℕ) → row_of word ≡ Some number → IsRowOf word number
unfolding row_of row_at
match_of_row word number found =
    let inner = match_from_found word 0 number rows found in
    let same : number ≡ inner.place = omega arith in
    let within : number < 129 = rw rows_count at (subst (λ n. n < length rows) (sym same) inner.within) in
    record { is_row = within; is_match = subst (λ n. bit_and word (slice_index_or rows n no_row).mask ≡ (slice_index_or rows n no_row).match) (sym same) (eqb-true _ _ inner.is_match) }

pub at_most_one_row : (word one other : ℕ) → IsRowOf word one → IsRowOf word other → one ≡ other
at_most_one_row word one other is_one is_other =
    let same : Some one ≡ Some other = sym (row_of_match word one is_one) ∙ row_of_match word other is_other in
    cc

-- a word is reserved where no row matches it
pub reserved_word : (word : ℕ) (answer : Option ℕ) → answer ≡ row_of word → IsNone answer ↔ ((number : ℕ) → ¬ IsRowOf word number)
reserved_word word None is = (λ none number is_row. let bad : None ≡ Some number = is ∙ row_of_match word number is_row in cc, λ none. search rules)
reserved_word word (Some number) is = (λ none. absurd (search rules), λ none. absurd (none number (match_of_row word number (sym is))))

-- a row that a word has is in the table
pub row_in_table : (word : ℕ) (answer : Option ℕ) → answer ≡ row_of word → IfSome answer (λ number. number < 129)
row_in_table word None is = tt
row_in_table word (Some number) is = (match_of_row word number (sym is)).is_row
