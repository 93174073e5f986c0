use Rattle.r4_ports.specs.Writing.{Writes, stand}
use Rattle.run_report.specs.Report.{system_lines}
use Rattle.run_report.proofs.reporting.write_system.Given as goal

-- the lines so far were written
abbrev pub invariant-loop-turn : goal.invariant-loop-turn
invariant-loop-turn g l = Writes (stand g.K.Sink.written g.K.Sink.faults l.initial.out l.initial.pending) (stand g.K.Sink.written g.K.Sink.faults l.out l.pending) (system_lines l.cp0 l.turn)
