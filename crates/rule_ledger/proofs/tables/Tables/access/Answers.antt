use Rattle.rule_ledger.proofs.tables.Tables.access.Goals as goal

pub returns-in-Cache : goal.returns-in-Cache
returns-in-Cache c = rw c.in-Cache.is c.pass.ensures
