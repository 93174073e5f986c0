use Rattle.std.proofs.Common.{◌∙◌, sym}
use Rattle.std.proofs.lemmas.Bool.{not-true}
use Rattle.rule_ledger.specs.Facts.{granules}
use Rattle.rule_ledger.proofs.Settling.{settled_inside, settled_outside, settled_read}
use Rattle.rule_ledger.proofs.tables.Tables.is_settled_read.Goals as goal

pub returns-then-pa-ge8388608-clause-settles : goal.returns-then-pa-ge8388608-clause-settles
returns-then-pa-ge8388608-clause-settles c = λ e. settled_outside c.args.self.now c.args.pa _ c.if-pa-ge8388608.true

pub returns-clause-settles : goal.returns-clause-settles
returns-clause-settles c = λ e.
    settled_inside c.args.self.now c.args.pa _ c.if-pa-ge8388608.false
    (rw (← c.granule-granule.ensures.granule) (settled_read c.args.self.now (granules c.granule-granule.result 1) (sym c.is_dirty.ensures.is ∙ not-true _ e)))
