use Rattle.judged_run.proofs.JudgedRuns.{tick_keeps_judged}
use Rattle.judged_run.proofs.judged_machine.JudgedMachine.tick.Goals as goal

pub invariant_of-self : goal.invariant_of-self
invariant_of-self c = tick_keeps_judged (record { machine = c.self.inside.machine; judge = c.self.inside.judge }) _ _ c.self.invariant c.tick_judged.ensures.ticked
