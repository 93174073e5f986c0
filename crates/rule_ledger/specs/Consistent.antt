-- What holds of the facts of a ledger that began without a fact, since every row of the table of rules keeps it.
-- Source: this project's own.
use Rattle.std.specs.Prelude.{ℕ, ◌≡◌, ◌≢◌, ◌<◌, Bool, true, false}
use Rattle.r4_shape.specs.Numbers.{IsShape}
use Rattle.rule_ledger.specs.Facts.{Facts}
use Rattle.rule_ledger.specs.Cells.{Grid, grid_of}
use Rattle.rule_ledger.specs.Marks.{Ledger, facts_of}

-- They are facts of cells that the grid has, a dirty copy and an old one are held, none is dirty and old, and a granule is dirty at
-- one colour at most. Where a granule is dirty at a colour, its copies at the other colours and in the instruction cache are old.
pub record IsConsistent (grid : Grid) (k : Facts) : Type 0 where
  pub inside : (g c : ℕ) → k.dirty g c ≡ true → (g < grid.whole) × (c < grid.colours)
  pub dirty_held : (g c : ℕ) → k.dirty g c ≡ true → k.held g c ≡ true
  pub old_held : (g c : ℕ) → k.old g c ≡ true → k.held g c ≡ true
  pub iold_held : (g c : ℕ) → k.iold g c ≡ true → k.iheld g c ≡ true
  pub not_old : (g c : ℕ) → k.dirty g c ≡ true → k.old g c ≡ false
  pub one_dirty : (g c d : ℕ) → k.dirty g c ≡ true → k.dirty g d ≡ true → c ≡ d
  pub others_old : (g c d : ℕ) → k.dirty g c ≡ true → c ≢ d → k.held g d ≡ true → k.old g d ≡ true
  pub instructions_old : (g c d : ℕ) → k.dirty g c ≡ true → k.iheld g d ≡ true → k.iold g d ≡ true

-- What each ledger keeps: its marks are the marks of a shape, and any of them can be. Where all that it has came from a reset by steps
-- alone, its facts are consistent.
pub record IsLedger (from_reset : Bool) (ledger : Ledger) : Type 0 where
  pub shape : IsShape ledger.shape
  pub facts : from_reset ≡ true → IsConsistent (grid_of ledger.shape) (facts_of ledger)
