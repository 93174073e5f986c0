use Rattle.rule_ledger.proofs.Consistent.{no_facts_consistent}
use Rattle.rule_ledger.proofs.ledger.PcLedger.new.Goals as goal

pub invariant_of-result : goal.invariant_of-result
invariant_of-result c = record { shape = c.in_ok-tables.ensures.is; facts = λ e. rw c.in_ok-tables.ensures.facts (no_facts_consistent _) }
