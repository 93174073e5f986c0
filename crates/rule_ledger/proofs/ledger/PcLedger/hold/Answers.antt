use Rattle.rule_ledger.proofs.Stepping.{kept_after}
use Rattle.rule_ledger.proofs.ledger.PcLedger.hold.Goals as goal

pub invariant_of-self : goal.invariant_of-self
invariant_of-self c = kept_after _ c.self.inside.tables c.hold.new.self c.args.event _ c.self.invariant c.hold.ensures.follows
