use Rattle.std.proofs.Common.{◌≡◌, ◌∙◌, None, ap, sym}
use Rattle.access_trace.specs.Traces.{events_text}
use Rattle.machine_core.proofs.TracedTicks.{running_events}
use Rattle.machine_core.specs.TickEvents.{events_of}
use Rattle.machine_core.specs.Traced.{machine_in}
use Rattle.r4_ports.proofs.Writing.{writes_same}
use Rattle.judged_run.proofs.JudgedRuns.{halted_ticked}
use Rattle.judged_run.proofs.writing.put_tick.Goals as goal

pub returns-in-Some-clause-ticked : goal.returns-in-Some-clause-ticked
returns-in-Some-clause-ticked g c = halted_ticked c.args.judged.now c.in-Some.code (sym c.halted.ensures ∙ c.in-Some.is)

pub returns-clause-writes : goal.returns-clause-writes
returns-clause-writes g c =
    let runs : c.args.judged.now.machine.cpu.halt ≡ None = sym c.halted.ensures ∙ c.in_default.is in
    writes_same _ _ _ _ c.put_tick_events.ensures.writes
    (ap events_text
    (ap (λ log. events_of c.ticks-ticks.result c.span-span.result log) c.log.ensures
    ∙ ap (λ tick. events_of tick c.span-span.result c.tick-answer.new.self.machine.memory.log) c.ticks-ticks.ensures
    ∙ ap (λ span. events_of c.args.judged.now.machine.cpu.ticks span c.tick-answer.new.self.machine.memory.log) c.span-span.ensures
    ∙ running_events c.args.judged.now.machine.span_left (machine_in c.args.judged.now.machine) c.tick-answer.new.self.machine.memory.log runs (c.tick-answer.ensures.log runs)))
