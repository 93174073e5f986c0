use Rattle.std.proofs.Common.{rules, arith, ◌≡◌, ◌+◌, ◌-◌, ◌∙◌, sym, true, false}
use Rattle.mips3_exec.specs.Tick.{goes_on}
use Rattle.mips3_exec.proofs.Runs.{run_none, runs_from, ends_there, same_answer, same_cpu, same_memory}
use Rattle.mips3_exec.proofs.ticking.make_run.Goals as goal

pub returns-in_default-clause-answer : goal.returns-in_default-clause-answer
returns-in_default-clause-answer g c =
    let off : goes_on c.make_tick.result ≡ false = search rules in
    let end = ends_there g.M.MemorySystem.ask_gives (c.args.steps - c.loop-step.step) _ _ _ _ _
    (record { cpu_is = c.make_tick.ensures.cpu; memory_is = c.make_tick.ensures.memory; answer_is = c.make_tick.ensures.answer })
    (omega (arith, c.loop-step-test.true)) off in
    same_answer _ _ (sym end ∙ c.loop-step.invariant.0)

pub returns-in_default-clause-cpu : goal.returns-in_default-clause-cpu
returns-in_default-clause-cpu g c =
    let off : goes_on c.make_tick.result ≡ false = search rules in
    let end = ends_there g.M.MemorySystem.ask_gives (c.args.steps - c.loop-step.step) _ _ _ _ _
    (record { cpu_is = c.make_tick.ensures.cpu; memory_is = c.make_tick.ensures.memory; answer_is = c.make_tick.ensures.answer })
    (omega (arith, c.loop-step-test.true)) off in
    same_cpu _ _ (sym end ∙ c.loop-step.invariant.0)

pub returns-in_default-clause-memory : goal.returns-in_default-clause-memory
returns-in_default-clause-memory g c =
    let off : goes_on c.make_tick.result ≡ false = search rules in
    let end = ends_there g.M.MemorySystem.ask_gives (c.args.steps - c.loop-step.step) _ _ _ _ _
    (record { cpu_is = c.make_tick.ensures.cpu; memory_is = c.make_tick.ensures.memory; answer_is = c.make_tick.ensures.answer })
    (omega (arith, c.loop-step-test.true)) off in
    same_memory _ _ (sym end ∙ c.loop-step.invariant.0)

pub loop-step-preserved : goal.loop-step-preserved
loop-step-preserved g c =
    let on : goes_on c.make_tick.result ≡ true = search rules in
    let ticks = c.make_tick.ensures.ticks on in
    let more = runs_from g.M.MemorySystem.ask_gives (c.args.steps - c.loop-step.step) (c.args.steps - (c.loop-step.step + 1)) _ _ _ _ _
    (record { cpu_is = c.make_tick.ensures.cpu; memory_is = c.make_tick.ensures.memory; answer_is = c.make_tick.ensures.answer })
    (omega (arith, c.loop-step-test.true)) on in
    (sym more ∙ c.loop-step.invariant.0, omega (arith, ticks, c.loop-step.invariant.1), λ config fixed. c.make_tick.ensures.fixed config (c.loop-step.invariant.2 config fixed))

pub returns-clause-answer : goal.returns-clause-answer
returns-clause-answer g c =
    same_answer _ _
    (sym (run_none g.M.MemorySystem.ask_gives (c.args.steps - c.loop-step.step) _ (omega (arith, c.loop-step-test.false))) ∙ c.loop-step.invariant.0)

pub returns-clause-cpu : goal.returns-clause-cpu
returns-clause-cpu g c =
    same_cpu _ _
    (sym (run_none g.M.MemorySystem.ask_gives (c.args.steps - c.loop-step.step) _ (omega (arith, c.loop-step-test.false))) ∙ c.loop-step.invariant.0)

pub returns-clause-memory : goal.returns-clause-memory
returns-clause-memory g c =
    same_memory _ _
    (sym (run_none g.M.MemorySystem.ask_gives (c.args.steps - c.loop-step.step) _ (omega (arith, c.loop-step-test.false))) ∙ c.loop-step.invariant.0)

pub returns-in_default-clause-fixed : goal.returns-in_default-clause-fixed
returns-in_default-clause-fixed g c = λ config fixed. c.make_tick.ensures.fixed config (c.loop-step.invariant.2 config fixed)

pub returns-clause-fixed : goal.returns-clause-fixed
returns-clause-fixed g c = c.loop-step.invariant.2
