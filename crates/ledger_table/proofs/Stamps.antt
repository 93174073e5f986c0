-- A table by its numbers: what stays where a number was read, a mark set, a row cleared.
use Rattle.std.proofs.Common.{Bool, true, false, ◌≡◌, ◌≢◌, ℕ, ◌+◌, ◌*◌, ◌%◌, ◌^◌, ◌<◌, ◌≤◌, cond, length, get_or, set, replicate, arith, refl, sym, ap, ◌∙◌, inl, inr, eqb}
use Rattle.std.proofs.lemmas.Nat.{mod_below}
use Rattle.std.proofs.lemmas.Bool.{cases_eq, cases_lt, eq-eqb, ne_eqb}
use Rattle.std.proofs.lemmas.List.{get_or-set_same, get_or-set_other, get_or-replicate, get_or_past, length-set, length-replicate}
use Rattle.ledger_table.specs.Table.{Counted, Table, IsTable, cell_stamp, row_stamp, mark_of, untouched, no_marks}

-- the table with these numbers
abbrev pub with_numbers : Table → Counted → Table
with_numbers t counted = record t { counted = counted }

module _ (t : Table) (is : IsTable t) where
  -- the numbers of a cell and of a row lie in the table
  pub cell_inside : (cell : ℕ) → cell < t.cells → 2 * cell + 1 < length t.counted.numbers
  cell_inside cell lt = let n = is.numbers in omega arith

  pub row_inside : (row : ℕ) → row < t.rows → 2 * t.cells + row < length t.counted.numbers
  row_inside row lt = let n = is.numbers in omega arith

  pub row_of_cell : (cell : ℕ) → cell % t.rows < t.rows
  row_of_cell cell = mod_below cell t.rows is.some

  -- ---- a number was read

  module _ (u : Counted) (same : u.numbers ≡ t.counted.numbers) where
    pub read_is : IsTable (with_numbers t u)
    unfolding cell_stamp row_stamp
    read_is = record {
      some = is.some;
      numbers = rw same is.numbers;
      fits = is.fits;
      stamps = rw same is.stamps;
      marks = rw same is.marks;
    }

  -- the mark that is read: the cell's own stamp is its row's, or it is not
  pub mark_read : (cell row stamp own mark : ℕ) → row ≡ cell % t.rows → stamp ≡ get_or t.counted.numbers (2 * t.cells + row) 0 → own ≡ get_or t.counted.numbers (2 * cell) 0
      → own ≡ stamp → mark ≡ get_or t.counted.numbers (2 * cell + 1) 0 → mark ≡ mark_of t cell
  unfolding mark_of cell_stamp row_stamp
  mark_read cell row stamp own mark r s o e m = rw (← r, ← s, ← o, eq-eqb own stamp e) m

  pub none_read : (cell row stamp own : ℕ) → row ≡ cell % t.rows → stamp ≡ get_or t.counted.numbers (2 * t.cells + row) 0 → own ≡ get_or t.counted.numbers (2 * cell) 0
      → own ≢ stamp → ◌≡◌ {A = ℕ} 0 (mark_of t cell)
  unfolding mark_of cell_stamp row_stamp
  none_read cell row stamp own r s o n = rw (← r, ← s, ← o, ne_eqb own stamp n) refl

  -- a mark that is 0 says so whatever the stamps are
  pub zero_read : (cell mark : ℕ) → mark ≡ get_or t.counted.numbers (2 * cell + 1) 0 → mark ≡ 0 → ◌≡◌ {A = ℕ} 0 (mark_of t cell)
  unfolding mark_of cell_stamp row_stamp
  zero_read cell mark m z = rw (← m, z) (either_zero (eqb (get_or t.counted.numbers (2 * cell) 0) (get_or t.counted.numbers (2 * t.cells + cell % t.rows) 0)))
    where
      either_zero : (b : Bool) → ◌≡◌ {A = ℕ} 0 (cond b 0 0)
      either_zero true = refl
      either_zero false = refl

  -- ---- a mark was set

  module _ (u : Counted) (cell row stamp value : ℕ) (inside : cell < t.cells) (row_is : row ≡ cell % t.rows) (stamp_is : stamp ≡ get_or t.counted.numbers (2 * t.cells + row) 0)
      (same : u.numbers ≡ set (set t.counted.numbers (2 * cell) stamp) (2 * cell + 1) value) where
    apart : (j : ℕ) → j ≢ 2 * cell → j ≢ 2 * cell + 1 → get_or u.numbers j 0 ≡ get_or t.counted.numbers j 0
    apart j n m = rw (same, get_or-set_other (set t.counted.numbers (2 * cell) stamp) (2 * cell + 1) j value 0 m, get_or-set_other t.counted.numbers (2 * cell) j stamp 0 n) refl

    own_stamp : get_or u.numbers (2 * cell) 0 ≡ stamp
    own_stamp =
        let low = cell_inside cell inside in
        rw (same, get_or-set_other (set t.counted.numbers (2 * cell) stamp) (2 * cell + 1) (2 * cell) value 0 (λ e. omega arith), get_or-set_same t.counted.numbers (2 * cell) stamp 0 (omega arith)) refl

    own_mark : get_or u.numbers (2 * cell + 1) 0 ≡ value
    own_mark =
        let low = cell_inside cell inside in
        rw (same, get_or-set_same (set t.counted.numbers (2 * cell) stamp) (2 * cell + 1) value 0 (rw (length-set t.counted.numbers (2 * cell) stamp) low)) refl

    pub set_stamps : (other : ℕ) → row_stamp (with_numbers t u) other ≡ row_stamp t other
    unfolding row_stamp
    set_stamps other = apart (2 * t.cells + other) (λ e. omega arith) (λ e. omega arith)

    other_stamp : (other : ℕ) → other ≢ cell → cell_stamp (with_numbers t u) other ≡ cell_stamp t other
    unfolding cell_stamp
    other_stamp other n = apart (2 * other) (λ e. n (omega arith)) (λ e. omega arith)

    other_mark : (other : ℕ) → other ≢ cell → get_or u.numbers (2 * other + 1) 0 ≡ get_or t.counted.numbers (2 * other + 1) 0
    other_mark other n = apart (2 * other + 1) (λ e. omega arith) (λ e. n (omega arith))

    is_rows : stamp ≡ row_stamp t (cell % t.rows)
    unfolding row_stamp
    is_rows = rw (← row_is) stamp_is

    set_at : cell_stamp (with_numbers t u) cell ≡ row_stamp (with_numbers t u) (cell % t.rows)
    unfolding cell_stamp
    set_at = own_stamp ∙ (is_rows ∙ sym (set_stamps (cell % t.rows)))

    pub set_marks : (other : ℕ) → other < t.cells → mark_of (with_numbers t u) other ≡ cond (eqb other cell) value (mark_of t other)
    unfolding mark_of
    set_marks other lt = elim (cases_eq other cell) [
      | inl e ↦ rw (e, set_at, eq-eqb (row_stamp (with_numbers t u) (cell % t.rows)) (row_stamp (with_numbers t u) (cell % t.rows)) refl, eq-eqb cell cell refl) own_mark
      | inr n ↦ rw (other_stamp other n, set_stamps (other % t.rows), other_mark other n, ne_eqb other cell n) refl
    ]

    pub set_is : value < 2 ^ 8 → IsTable (with_numbers t u)
    set_is small = record {
      some = is.some;
      numbers = rw (same, length-set (set t.counted.numbers (2 * cell) stamp) (2 * cell + 1) value, length-set t.counted.numbers (2 * cell) stamp) is.numbers;
      fits = is.fits;
      stamps = λ other lt. elim (cases_eq other cell) [
        | inl e ↦ rw (e, set_at) (omega arith)
        | inr n ↦ rw (other_stamp other n, set_stamps (other % t.rows)) (is.stamps other lt)
      ];
      marks = λ other lt. elim (cases_eq other cell) [
        | inl e ↦ rw (e, own_mark) small
        | inr n ↦ rw (other_mark other n) (is.marks other lt)
      ];
    }

  -- ---- a row was cleared

  module _ (u : Counted) (row stamp : ℕ) (inside : row < t.rows) (stamp_is : stamp ≡ get_or t.counted.numbers (2 * t.cells + row) 0)
      (same : u.numbers ≡ set t.counted.numbers (2 * t.cells + row) (stamp + 1)) where
    besides : (j : ℕ) → j ≢ 2 * t.cells + row → get_or u.numbers j 0 ≡ get_or t.counted.numbers j 0
    besides j n = rw (same, get_or-set_other t.counted.numbers (2 * t.cells + row) j (stamp + 1) 0 n) refl

    raised : row_stamp (with_numbers t u) row ≡ row_stamp t row + 1
    unfolding row_stamp
    raised = rw (same, get_or-set_same t.counted.numbers (2 * t.cells + row) (stamp + 1) 0 (row_inside row inside)) (ap (λ x. x + 1) stamp_is)

    other_row : (other : ℕ) → other ≢ row → row_stamp (with_numbers t u) other ≡ row_stamp t other
    unfolding row_stamp
    other_row other n = besides (2 * t.cells + other) (λ e. n (omega arith))

    pub clear_stamps : (other : ℕ) → row_stamp (with_numbers t u) other ≡ cond (eqb other row) (row_stamp t row + 1) (row_stamp t other)
    clear_stamps other = elim (cases_eq other row) [
      | inl e ↦ rw (e, eq-eqb row row refl) raised
      | inr n ↦ rw (ne_eqb other row n) (other_row other n)
    ]

    same_stamp : (cell : ℕ) → cell < t.cells → cell_stamp (with_numbers t u) cell ≡ cell_stamp t cell
    unfolding cell_stamp
    same_stamp cell lt = besides (2 * cell) (λ e. omega arith)

    same_mark : (cell : ℕ) → cell < t.cells → get_or u.numbers (2 * cell + 1) 0 ≡ get_or t.counted.numbers (2 * cell + 1) 0
    same_mark cell lt = besides (2 * cell + 1) (λ e. omega arith)

    pub clear_marks : (cell : ℕ) → cell < t.cells → mark_of (with_numbers t u) cell ≡ cond (eqb (cell % t.rows) row) 0 (mark_of t cell)
    unfolding mark_of
    clear_marks cell lt = elim (cases_eq (cell % t.rows) row) [
      | inl e ↦ (let low = is.stamps cell lt in
          let below : cell_stamp t cell ≤ row_stamp t row = rw e at low in
          rw (e, same_stamp cell lt, raised, ne_eqb (cell_stamp t cell) (row_stamp t row + 1) (λ q. omega arith), eq-eqb row row refl) refl)
      | inr n ↦ rw (same_stamp cell lt, other_row (cell % t.rows) n, same_mark cell lt, ne_eqb (cell % t.rows) row n) refl
    ]

    pub clear_is : IsTable (with_numbers t u)
    clear_is = record {
      some = is.some;
      numbers = rw (same, length-set t.counted.numbers (2 * t.cells + row) (stamp + 1)) is.numbers;
      fits = is.fits;
      stamps = λ cell lt. elim (cases_eq (cell % t.rows) row) [
        | inl e ↦ (let low = is.stamps cell lt in
            let below : cell_stamp t cell ≤ row_stamp t row = rw e at low in
            rw (e, same_stamp cell lt, raised) (omega arith))
        | inr n ↦ rw (same_stamp cell lt, other_row (cell % t.rows) n) (is.stamps cell lt)
      ];
      marks = λ cell lt. rw (same_mark cell lt) (is.marks cell lt);
    }

-- ---- a table as it is made

zero_at : (n k : ℕ) → ◌≡◌ {A = ℕ} (get_or (replicate n 0) k 0) 0
zero_at n k = elim (cases_lt k n) [
  | inl lt ↦ get_or-replicate n k 0 0 lt
  | inr ge ↦ get_or_past (replicate n 0) k 0 (rw length-replicate ge)
]

pub new_is : (cells rows : ℕ) → 0 < rows → 2 * cells + rows < 2 ^ 64 → IsTable (no_marks cells rows)
unfolding untouched cell_stamp row_stamp
new_is cells rows some fits = record {
  some = some;
  numbers = length-replicate _ 0;
  fits = fits;
  stamps = λ cell lt. rw (zero_at (2 * cells + rows) (2 * cell)) (omega arith);
  marks = λ cell lt. rw (zero_at (2 * cells + rows) (2 * cell + 1)) (omega arith);
}

-- ---- for the crates above

-- a table of which a number was read: the marks and the stamps are as they were
pub marks_kept : (t : Table) (touches : ℕ) → mark_of (record t { counted = record t.counted { touches = touches } }) ≡ mark_of t
unfolding mark_of cell_stamp row_stamp
marks_kept t touches = refl

pub stamps_kept : (t : Table) (touches : ℕ) → row_stamp (record t { counted = record t.counted { touches = touches } }) ≡ row_stamp t
unfolding row_stamp
stamps_kept t touches = refl

-- a table without a mark
pub no_mark : (cells rows cell : ℕ) → mark_of (no_marks cells rows) cell ≡ 0
unfolding mark_of cell_stamp row_stamp untouched
no_mark cells rows cell =
    rw (zero_at (2 * cells + rows) (2 * cell), zero_at (2 * cells + rows) (2 * cells + cell % rows), zero_at (2 * cells + rows) (2 * cell + 1)) refl

pub no_stamp : (cells rows row : ℕ) → row_stamp (no_marks cells rows) row ≡ 0
unfolding row_stamp untouched
no_stamp cells rows row = zero_at (2 * cells + rows) (2 * cells + row)
