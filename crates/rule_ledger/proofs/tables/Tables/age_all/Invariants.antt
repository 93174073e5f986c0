use Rattle.std.proofs.Common.{◌≡◌, ◌-◌}
use Rattle.rule_ledger.specs.Facts.{granules}
use Rattle.rule_ledger.specs.Marks.{facts_of}
use Rattle.rule_ledger.specs.MarkFlags.{all_aged}
use Rattle.rule_ledger.specs.Steps.{Keeps}
use Rattle.rule_ledger.proofs.tables.Tables.age_all.Given as goal

abbrev pub invariant-loop-granule : goal.invariant-loop-granule
invariant-loop-granule l = record {
  facts : facts_of l.self ≡ all_aged (granules l.first (l.granule - l.first)) (facts_of l.fn.self);
  kept : Keeps l.fn.self l.self;
}
