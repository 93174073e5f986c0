use Rattle.rule_ledger.proofs.tables.Tables.operate.Goals as goal

pub returns-in-Nothing : goal.returns-in-Nothing
returns-in-Nothing c = rw (← c.from_code.ensures, c.in-Nothing.is) (record { follows = c.pass.ensures; touches = λ e. absurd (cc) })
