use Rattle.rule_ledger.proofs.Settling.{settled_inside, settled_outside, settled_write}
use Rattle.rule_ledger.proofs.tables.Tables.is_settled_write.Goals as goal

pub returns-then-pa-ge8388608-clause-settles : goal.returns-then-pa-ge8388608-clause-settles
returns-then-pa-ge8388608-clause-settles c = λ e. settled_outside c.args.self.now c.args.pa _ c.if-pa-ge8388608.true

pub returns-clause-settles : goal.returns-clause-settles
returns-clause-settles c = λ e.
    settled_inside c.args.self.now c.args.pa _ c.if-pa-ge8388608.false
    (rw (← c.granule-granule.ensures.granule) (settled_write c.args.self.now c.granule-granule.result (c.is_left.ensures.is e)))
