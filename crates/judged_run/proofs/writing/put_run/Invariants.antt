use Rattle.std.proofs.Common.{◌≡◌, ◌≤◌, ◌+◌, ◌-◌}
use Rattle.r4_ports.specs.Writing.{stand}
use Rattle.judged_run.proofs.JudgedRuns.{HasMade}
use Rattle.judged_run.proofs.Written.{IsBeingWritten}
use Rattle.judged_run.proofs.writing.put_run.Given as goal

-- what is left of the run comes to what the whole run comes to, and so does what is written with what is left to write
abbrev pub invariant-loop-step : goal.invariant-loop-step
invariant-loop-step g l =
    HasMade l.step l.judged l.initial.judged
    × IsBeingWritten (l.steps - l.step) l.judged l.steps l.initial.judged (stand g.K.Sink.written g.K.Sink.faults l.initial.out l.initial.pending) (stand g.K.Sink.written g.K.Sink.faults l.out l.pending)
    × (l.judged.machine.cpu.ticks ≡ l.initial.judged.machine.cpu.ticks + l.step) × (l.step ≤ l.steps)
