-- What a step of the ledger answers and leaves.
-- Source: this project's own.
use Rattle.std.specs.Prelude.{◌≡◌, ◌<◌, ◌+◌, ℕ, true, false, Option, Some, None}
use Rattle.access_trace.specs.declared.event.Breach.{Breach}
use Rattle.ledger_table.specs.Table.{row_stamp}
use Rattle.rule_ledger.specs.Cells.{grid_of}
use Rattle.rule_ledger.specs.Facts.{Facts}
use Rattle.rule_ledger.specs.Marks.{Ledger, facts_of, touches_of}
use Rattle.rule_ledger.specs.Rules.{Row, first_breach, next, after}

-- What a reading leaves as it was: the facts, the shape and the number of the steps. Its touches are counted.
pub record Reads (old new : Ledger) : Type 0 where
  pub facts : facts_of new ≡ facts_of old
  pub shape : new.shape ≡ old.shape
  pub steps : new.steps ≡ old.steps

-- What a change of marks leaves as it was.
pub record Keeps (old new : Ledger) : Type 0 where
  pub shape : new.shape ≡ old.shape
  pub steps : new.steps ≡ old.steps

-- One step more is counted: each row can be cleared once more before its clearings are more than the steps.
pub record Counts (old new : Ledger) : Type 0 where
  pub facts : facts_of new ≡ facts_of old
  pub shape : new.shape ≡ old.shape
  pub steps : new.steps ≡ old.steps + 1
  pub touches : touches_of new ≡ touches_of old
  pub data_room : (row : ℕ) → row_stamp new.data_table row < new.steps
  pub instruction_room : (row : ℕ) → row_stamp new.instruction_table row < new.steps

-- the number of the steps without a breach after one that was answered so
abbrev pub steps_after : Option Breach → ℕ → ℕ
steps_after None steps = steps + 1
steps_after (Some breach) steps = steps

-- The answer is the first breach of the row, none where all rules are kept, and the facts are those after it. After a breach the
-- facts, the shape and the number of the steps are as they were; else the shape stays, and there is one step more.
pub record Follows (row : Row) (old new : Ledger) (answer : Option Breach) : Type 0 where
  pub breach : answer ≡ first_breach (grid_of old.shape) (facts_of old) row
  pub facts : facts_of new ≡ after answer (facts_of old) row
  pub shape : new.shape ≡ old.shape
  pub steps : new.steps ≡ steps_after answer old.steps

-- A write of memory past the caches changes nothing of a granule: at the colours below a bound no copy is dirty, and each that is held
-- is old.
pub record IsLeft (k : Facts) (granule bound : ℕ) : Type 0 where
  pub clean : (c : ℕ) → c < bound → k.dirty granule c ≡ false
  pub old : (c : ℕ) → c < bound → k.held granule c ≡ true → k.old granule c ≡ true
  pub iold : (c : ℕ) → c < bound → k.iheld granule c ≡ true → k.iold granule c ≡ true

-- The row breaks no rule and changes no fact.
pub record Settles (row : Row) (ledger : Ledger) : Type 0 where
  pub breach : None ≡ first_breach (grid_of ledger.shape) (facts_of ledger) row
  pub facts : facts_of ledger ≡ next (facts_of ledger) row
