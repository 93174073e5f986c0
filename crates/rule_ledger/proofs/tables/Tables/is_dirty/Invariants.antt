use Rattle.std.proofs.Common.{◌≡◌, ◌<◌, ℕ, false}
use Rattle.rule_ledger.specs.Marks.{facts_of}
use Rattle.rule_ledger.specs.Steps.{Reads}
use Rattle.rule_ledger.proofs.tables.Tables.is_dirty.Given as goal

abbrev pub invariant-loop-colour : goal.invariant-loop-colour
invariant-loop-colour l = record {
  reads : Reads l.fn.self l.self;
  clean : (d : ℕ) → d < l.colour → (facts_of l.fn.self).dirty l.granule d ≡ false;
}
