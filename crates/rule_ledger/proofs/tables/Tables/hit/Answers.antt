use Rattle.std.proofs.lemmas.Bool.{le-ltb}
use Rattle.rule_ledger.proofs.tables.Tables.hit.Goals as goal

pub returns-else-event-lt8388608 : goal.returns-else-event-lt8388608
returns-else-event-lt8388608 c = rw (le-ltb c.args.event.now.pa 8388608 c.if-event-lt8388608.false) c.pass.ensures
