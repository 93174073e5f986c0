use Rattle.std.proofs.Common.{OnOk, Result, Ok, Err, subst}
use Rattle.judged_run.specs.JudgedMachines.{JudgedState, HasRun}
use Rattle.flat_bridge.specs.Runs.{RunWasFlat}
use Rattle.flat_bridge.proofs.BenchLevels.{run_was_flat, within_keeps}
use Rattle.flat_bridge.proofs.bench.Bench.write_traced.Goals as goal

where_ok : {X E : Type 0} {P Q : Type 0} (result : Result X E) → OnOk result P → (P → Q) → OnOk result Q
where_ok (Ok x) p f = f p
where_ok (Err e) p f = p

pub invariant_of-self : goal.invariant_of-self
invariant_of-self g c = within_keeps c.self.inside.judged c.self.invariant c.args.steps _ c.write_traced-answer.ensures.within c.machine-machine.ensures.keeps

pub returns-clause-flat : goal.returns-clause-flat
returns-clause-flat g c = where_ok c.write_traced-answer.result c.write_traced-answer.ensures.whole
    (λ (run : HasRun c.args.steps c.self.inside.judged c.write_traced-answer.new.judged).
    subst (λ (bench : JudgedState). RunWasFlat c.args.steps bench) c.self.view_is
    (run_was_flat c.self.inside.judged c.self.invariant c.args.steps run.grammar))
