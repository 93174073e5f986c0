-- Walking down the table of program headers.
use Rattle.std.proofs.Common.{◌≡◌, ℕ, zero, suc, ◌+◌, ◌-◌, ◌*◌, ◌<◌, Bool, true, false, List, [], ◌∷◌, refl, sym, ap, ◌∙◌, subst, arith, Some, None}
use Rattle.std.specs.List.{find}
use Rattle.elf_image.specs.Header.{headers_from, segment_at}
use Rattle.elf_image.specs.Rules.{breaks_range}
use Rattle.elf_image.specs.Loading.{stored, stored_all}

pub no_headers : (at count : ℕ) → count ≡ 0 → headers_from at count ≡ []
unfolding headers_from
no_headers at zero none = refl
no_headers at (suc count) none = absurd (omega arith)

pub more_headers : (at count next rest : ℕ) → next ≡ at + 32 → count ≡ rest + 1 → headers_from at count ≡ at ∷ headers_from next rest
unfolding headers_from
more_headers at zero next rest n c = absurd (omega arith)
more_headers at (suc count) next rest n c =
    let same : count ≡ rest = omega arith in
    ap (λ k. at ∷ headers_from (at + 32) k) same ∙ ap (λ a. at ∷ headers_from a rest) (sym n)

find_here : (p : ℕ → Bool) (x : ℕ) (xs : List ℕ) → p x ≡ true → find p (x ∷ xs) ≡ Some x
find_here p x xs is = rw is refl

find_later : (p : ℕ → Bool) (x : ℕ) (xs : List ℕ) → p x ≡ false → find p (x ∷ xs) ≡ find p xs
find_later p x xs is = rw is refl

pub find_at_header : (bytes : List ℕ) (at count : ℕ) → 0 < count → breaks_range bytes at ≡ true → find (breaks_range bytes) (headers_from at count) ≡ Some at
find_at_header bytes at count some is =
    ap (find (breaks_range bytes)) (more_headers at count (at + 32) (count - 1) refl (omega arith)) ∙ find_here (breaks_range bytes) at (headers_from (at + 32) (count - 1)) is

pub find_past_header : (bytes : List ℕ) (at count next rest : ℕ) → next ≡ at + 32 → count ≡ rest + 1 → breaks_range bytes at ≡ false →
    find (breaks_range bytes) (headers_from next rest) ≡ find (breaks_range bytes) (headers_from at count)
find_past_header bytes at count next rest n c is =
    sym (ap (find (breaks_range bytes)) (more_headers at count next rest n c) ∙ find_later (breaks_range bytes) at (headers_from next rest) is)

pub find_no_header : (bytes : List ℕ) (at count : ℕ) → count ≡ 0 → find (breaks_range bytes) (headers_from at count) ≡ None
find_no_header bytes at count none = ap (find (breaks_range bytes)) (no_headers at count none)

not_found : (bytes : List ℕ) (at count : ℕ) (b : Bool) → 0 < count → breaks_range bytes at ≡ b → find (breaks_range bytes) (headers_from at count) ≡ None → b ≡ false
not_found bytes at count false some is none = refl
not_found bytes at count true some is none = let found = find_at_header bytes at count some is in cc

pub good_header : (bytes : List ℕ) (at count : ℕ) → 0 < count → find (breaks_range bytes) (headers_from at count) ≡ None → breaks_range bytes at ≡ false
good_header bytes at count some none = not_found bytes at count (breaks_range bytes at) some refl none

pub stored_past_header : (bytes ram : List ℕ) (at count next rest : ℕ) → next ≡ at + 32 → count ≡ rest + 1 →
    stored_all bytes (stored bytes ram (segment_at bytes at)) (headers_from next rest) ≡ stored_all bytes ram (headers_from at count)
stored_past_header bytes ram at count next rest n c = sym (ap (stored_all bytes ram) (more_headers at count next rest n c))

pub stored_no_header : (bytes ram : List ℕ) (at count : ℕ) → count ≡ 0 → stored_all bytes ram (headers_from at count) ≡ ram
stored_no_header bytes ram at count none = ap (stored_all bytes ram) (no_headers at count none)

-- no header of a table in which none is bad is bad
pub good_at : (bytes : List ℕ) (table at count index : ℕ) → find (breaks_range bytes) (headers_from table count) ≡ None → index < count → at ≡ table + 32 * index → breaks_range bytes at ≡ false
good_at bytes table at count zero none lt is = subst (λ a. breaks_range bytes a ≡ false) (omega arith) (good_header bytes table count lt none)
good_at bytes table at count (suc index) none lt is =
    let good = good_header bytes table count (omega arith) none in
    let rest : find (breaks_range bytes) (headers_from (table + 32) (count - 1)) ≡ None = find_past_header bytes table count (table + 32) (count - 1) refl (omega arith) good ∙ none in
    good_at bytes (table + 32) at (count - 1) index rest (omega arith) (omega arith)
