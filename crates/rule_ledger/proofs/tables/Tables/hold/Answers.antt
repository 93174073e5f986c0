use Rattle.std.proofs.Common.{subst}
use Rattle.std.proofs.lemmas.Bool.{le-ltb}
use Rattle.rule_ledger.specs.Rules.{Row}
use Rattle.rule_ledger.specs.Steps.{Follows}
use Rattle.rule_ledger.proofs.Rows.{row_of_access, no_flush}
use Rattle.rule_ledger.proofs.tables.Tables.hold.Goals as goal

pub returns-in_default-2 : goal.returns-in_default-2
returns-in_default-2 c = record {
  follows = subst (λ (row : Row). Follows row c.args.self.now c.pass.new.self c.pass.result)
      (row_of_access c.args.event.now.kind c.args.self.now.shape c.args.event.now c.in_default-2.not-Cache)
      (rw (le-ltb c.args.event.now.pa 8388608 c.if-event-lt8388608.false) c.pass.ensures);
  touches = λ e. absurd (no_flush c.args.event.now.kind c.args.event.now c.in_default-2.not-Cache e);
}
