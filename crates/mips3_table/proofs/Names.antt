-- No two rows have the same name: a test on pairs of rows, computed over the table.
use Rattle.std.proofs.Common.{◌≡◌, ℕ, zero, suc, ◌<◌, Bool, true, false, not, ◌&&◌, List, [], ◌∷◌, length, slice_index_or, refl, sym, ap, ◌∙◌, ⊎_elim, arith}
use Rattle.std.proofs.Common.{Some, None, Option, cond, nat_lt, lt-ltb, IfSome, bytes_eq}
use Rattle.std.specs.List.{position, position_or_len}
use Rattle.std.proofs.lemmas.List.Quantifiers.{position-Some}
use Rattle.std.proofs.lemmas.List.Sums.{position_or_len_is}
use Rattle.std.proofs.lemmas.Grind.{common_steps}
use Rattle.std.proofs.lemmas.Slice.Eq.{bytes_eq-Decides}
use Rattle.std.specs.List.{list_all}
use Rattle.std.proofs.lemmas.Bool.{and_parts, both_ways, not-true, cases_order, cases_Bool}
use Rattle.mips3_table.specs.Rows.{Row, rows, row_at, no_row}
use Rattle.mips3_table.specs.Matching.{IsNamed, row_named}
use Rattle.mips3_table.proofs.Apart.{each_at, rows_count}

-- texts are equal where the test of their bytes says so
pub equal_bytes : (xs ys : List ℕ) → bytes_eq xs ys ≡ true → xs ≡ ys
equal_bytes xs ys = (bytes_eq-Decides xs ys).0

pub same_bytes : (xs ys : List ℕ) → xs ≡ ys → bytes_eq xs ys ≡ true
same_bytes xs ys = (bytes_eq-Decides xs ys).1

abbrev pub has_other_name : Row → Row → Bool
has_other_name one other = not (bytes_eq one.name other.name)

-- each row's name is other than each later one's
abbrev pub all_names_differ : List Row → Bool
all_names_differ [] = true
all_names_differ (row ∷ rest) = list_all (has_other_name row) rest && all_names_differ rest

pub table_names_differ : all_names_differ rows ≡ true
unfolding rows
table_names_differ = refl

pub later_name : (rows : List Row) (one other : ℕ) → all_names_differ rows ≡ true → one < other → other < length rows →
    (slice_index_or rows one no_row).name ≡ (slice_index_or rows other no_row).name → ⊥
later_name [] one other all before within same = absurd (omega arith)
later_name (row ∷ rest) one zero all before within same = absurd (omega arith)
later_name (row ∷ rest) zero (suc other) all before within same =
    let parts = and_parts (list_all (has_other_name row) rest) (all_names_differ rest) all in
    let test : not (bytes_eq row.name (slice_index_or rest other no_row).name) ≡ true = each_at (has_other_name row) rest other parts.0 (omega arith) in
    both_ways (bytes_eq row.name (slice_index_or rest other no_row).name) (not-true _ test) (same_bytes row.name (slice_index_or rest other no_row).name same)
later_name (row ∷ rest) (suc one) (suc other) all before within same =
    let parts = and_parts (list_all (has_other_name row) rest) (all_names_differ rest) all in
    later_name rest one other parts.1 (omega arith) (omega arith) same

pub same_name : (one other : ℕ) → one < 129 → other < 129 → (row_at one).name ≡ (row_at other).name → one ≡ other
unfolding row_at
same_name one other is_one is_other same =
    let one_within : one < length rows = rw rows_count is_one in
    let other_within : other < length rows = rw rows_count is_other in
    ⊎_elim
    (λ here. here)
    (λ apart. ⊎_elim
    (λ before. absurd (later_name rows one other table_names_differ before other_within same))
    (λ after. absurd (later_name rows other one table_names_differ after one_within (sym same)))
    apart)
    (cases_order one other)

-- the first of some values that passes a test, or that there is none
pub position_here : {X : Type 0} (p : X → Bool) (values : List X) (none : X) (i : ℕ) → i < length values → ((k : ℕ) → k < i → p (slice_index_or values k none) ≡ false) →
    p (slice_index_or values i none) ≡ true → position p values ≡ Some i
position_here p values none i within before here =
    let is : position_or_len p values ≡ i = position_or_len_is p values i none (omega arith) before (λ lt. here) in
    ap (λ n. cond (nat_lt n (length values)) (Some n) None) is ∙ ap (λ b. cond b (Some i) None) (lt-ltb _ _ within)

pub position_nowhere : {X : Type 0} (p : X → Bool) (values : List X) (none : X) (count : ℕ) → length values ≡ count →
    ((k : ℕ) → k < count → p (slice_index_or values k none) ≡ false) → position p values ≡ None
position_nowhere p values none count long before =
    let is : position_or_len p values ≡ count = position_or_len_is p values count none (omega arith) before (λ lt. absurd (omega arith)) in
    let past : nat_lt count (length values) ≡ false = grind (arith, common_steps) in
    ap (λ n. cond (nat_lt n (length values)) (Some n) None) is ∙ ap (λ b. cond b (Some count) None) past

pub row_here : (name : List ℕ) (i : ℕ) → i < 129 → ((k : ℕ) → k < i → bytes_eq name (row_at k).name ≡ false) → bytes_eq name (row_at i).name ≡ true → row_named name ≡ Some i
unfolding row_at row_named
row_here name i lt before here = let within : i < length rows = rw rows_count lt in position_here (λ (row : Row). bytes_eq name row.name) rows no_row i within before here

pub row_nowhere : (name : List ℕ) → ((k : ℕ) → k < 129 → bytes_eq name (row_at k).name ≡ false) → row_named name ≡ None
unfolding row_at row_named
row_nowhere name before = position_nowhere (λ (row : Row). bytes_eq name row.name) rows no_row 129 rows_count before

-- the row of a name has it
pub named_row : (name : List ℕ) (number : ℕ) → row_named name ≡ Some number → IsNamed name number
unfolding row_at row_named
named_row name number found =
    let parts = position-Some (λ (row : Row). bytes_eq name row.name) rows number no_row found in
    let within : number < 129 = rw rows_count at parts.0 in
    record { is_row = within; has_name = sym (equal_bytes name (slice_index_or rows number no_row).name parts.1) }

-- and no other row has it
differs : (name : List ℕ) (number k : ℕ) → IsNamed name number → k < number → bytes_eq name (row_at k).name ≡ false
differs name number k named before =
    ⊎_elim
    (λ has. let is_row : k < 129 = let lt = named.is_row in omega arith in
    let same : k ≡ number = same_name k number is_row named.is_row (sym (equal_bytes name (row_at k).name has) ∙ sym named.has_name) in
    absurd (omega arith))
    (λ none. none)
    (cases_Bool (bytes_eq name (row_at k).name))

pub row_of_name : (name : List ℕ) (number : ℕ) → IsNamed name number → row_named name ≡ Some number
row_of_name name number named =
    row_here name number named.is_row (λ k lt. differs name number k named lt) (same_bytes name (row_at number).name (sym named.has_name))

-- a row of a name is in the table
pub named_in_table : (name : List ℕ) (answer : Option ℕ) → answer ≡ row_named name → IfSome answer (λ number. number < 129)
named_in_table name None is = tt
named_in_table name (Some number) is = (named_row name number (sym is)).is_row
