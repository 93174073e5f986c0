use Rattle.std.proofs.Common.{◌≡◌}
use Rattle.rule_ledger.specs.Marks.{facts_of}
use Rattle.rule_ledger.specs.MarkFlags.{aged}
use Rattle.rule_ledger.specs.Steps.{Keeps}
use Rattle.rule_ledger.proofs.Ageing.{below}
use Rattle.rule_ledger.proofs.tables.Tables.age.Given as goal

abbrev pub invariant-loop-colour : goal.invariant-loop-colour
invariant-loop-colour l = record {
  facts : facts_of l.self ≡ aged (below l.granule l.colour) (facts_of l.fn.self);
  kept : Keeps l.fn.self l.self;
}
