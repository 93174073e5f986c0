use Rattle.std.proofs.Common.{refl}
use Rattle.rule_ledger.specs.Cells.{grid_of}
use Rattle.rule_ledger.specs.Marks.{facts_of}
use Rattle.rule_ledger.proofs.Meeting.{meets_nowhere}
use Rattle.rule_ledger.proofs.Answering.{kept_rules}
use Rattle.rule_ledger.proofs.tables.Tables.pass.Goals as goal

pub returns : goal.returns
returns c = kept_rules _ c.args.self.now c.args.self.now _ c.count_step.ensures (record { shape = refl; steps = refl }) refl
    (rw (meets_nowhere (grid_of c.args.self.now.shape) (facts_of c.args.self.now).old) refl)
