use Rattle.std.proofs.Common.{rules, arith, ◌≡◌, ◌+◌, ◌-◌, ap, true}
use Rattle.mips3_exec.specs.Tick.{goes_on}
use Rattle.judged_run.specs.JudgedMachines.{HasRun}
use Rattle.judged_run.proofs.JudgedRuns.{made_first, made_more, run_made, run_halted, run_within, whole_within}
use Rattle.judged_run.proofs.Written.{writing_first, writing_more, writing_made, writing_halted}
use Rattle.judged_run.proofs.writing.put_run.Goals as goal

pub loop-step-init : goal.loop-step-init
loop-step-init g c = (
  made_first c.args.judged.now,
  writing_first (c.args.steps - 0) c.args.steps c.args.judged.now _ (omega arith),
  omega arith,
  omega arith,
)

pub returns-in-Halted-clause-writes : goal.returns-in-Halted-clause-writes
returns-in-Halted-clause-writes g c =
    writing_halted (c.args.steps - c.loop-step.step) _ _ _ _ _ _ _ _ c.loop-step.invariant.1 c.put_tick.ensures.ticked (ap goes_on c.in-Halted.is) (omega (arith, c.loop-step-test.true)) c.put_tick.ensures.writes

pub returns-in-Halted-clause-whole : goal.returns-in-Halted-clause-whole
returns-in-Halted-clause-whole g c =
    λ fine. run_halted (c.args.steps - c.loop-step.step) c.args.steps _ _ _ _ (c.loop-step.invariant.0 c.args.steps c.loop-step.invariant.3) c.put_tick.ensures.ticked (ap goes_on c.in-Halted.is) (omega (arith, c.loop-step-test.true))

pub returns-in-Halted-clause-within : goal.returns-in-Halted-clause-within
returns-in-Halted-clause-within g c =
    whole_within c.args.steps _ _
    (run_halted (c.args.steps - c.loop-step.step) c.args.steps _ _ _ _ (c.loop-step.invariant.0 c.args.steps c.loop-step.invariant.3) c.put_tick.ensures.ticked (ap goes_on c.in-Halted.is) (omega (arith, c.loop-step-test.true)))

pub loop-step-preserved : goal.loop-step-preserved
loop-step-preserved g c =
    let on : goes_on c.put_tick.result ≡ true = search rules in
    let ticks = c.put_tick.ensures.ticked.ticks on in
    let left = c.args.steps - c.loop-step.step in
    let rest = c.args.steps - (c.loop-step.step + 1) in
    let one : left ≡ rest + 1 = omega (arith, c.loop-step-test.true) in (
      made_more c.loop-step.step _ _ _ _ c.loop-step.invariant.0 c.put_tick.ensures.ticked on,
      writing_more left rest _ _ _ _ _ _ _ _ c.loop-step.invariant.1 c.put_tick.ensures.ticked on one c.put_tick.ensures.writes,
      omega (arith, ticks, c.loop-step.invariant.2),
      omega (arith, c.loop-step-test.true),
    )

pub returns-then-pending-clause-within : goal.returns-then-pending-clause-within
returns-then-pending-clause-within g c = run_within c.loop-step.step c.args.steps _ _ c.loop-step.invariant.0 c.loop-step.invariant.3

pub returns-clause-writes : goal.returns-clause-writes
returns-clause-writes g c = writing_made (c.args.steps - c.loop-step.step) _ _ _ _ _ c.loop-step.invariant.1 (omega (arith, c.loop-step-test.false))

pub returns-clause-whole : goal.returns-clause-whole
returns-clause-whole g c = λ fine. run_made (c.args.steps - c.loop-step.step) c.args.steps _ _ (c.loop-step.invariant.0 c.args.steps c.loop-step.invariant.3) (omega (arith, c.loop-step-test.false))

pub returns-clause-within : goal.returns-clause-within
returns-clause-within g c = run_within c.loop-step.step c.args.steps _ _ c.loop-step.invariant.0 c.loop-step.invariant.3
