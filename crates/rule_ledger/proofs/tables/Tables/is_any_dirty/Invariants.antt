use Rattle.std.proofs.Common.{◌≡◌, ◌<◌, ◌≤◌, ℕ, false}
use Rattle.rule_ledger.specs.Cells.{grid_of, meets}
use Rattle.rule_ledger.specs.Facts.{granules}
use Rattle.rule_ledger.specs.Marks.{facts_of}
use Rattle.rule_ledger.specs.Steps.{Reads}
use Rattle.rule_ledger.proofs.tables.Tables.is_any_dirty.Given as goal

abbrev pub invariant-loop-granule : goal.invariant-loop-granule
invariant-loop-granule l = record {
  reads : Reads l.fn.self l.self;
  clean : (h : ℕ) → l.first ≤ h → h < l.granule → meets (grid_of l.fn.self.shape) (granules h 1) (facts_of l.fn.self).dirty ≡ false;
}
