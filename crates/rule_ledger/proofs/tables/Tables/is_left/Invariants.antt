use Rattle.rule_ledger.specs.Marks.{facts_of}
use Rattle.rule_ledger.specs.Steps.{IsLeft, Reads}
use Rattle.rule_ledger.proofs.tables.Tables.is_left.Given as goal

abbrev pub invariant-loop-colour : goal.invariant-loop-colour
invariant-loop-colour l = record {
  reads : Reads l.fn.self l.self;
  left : IsLeft (facts_of l.fn.self) l.granule l.colour;
}
