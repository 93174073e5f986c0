use Rattle.r4_ports.specs.Writing.{Writes, stand}
use Rattle.run_report.specs.Report.{register_lines}
use Rattle.run_report.proofs.reporting.write_registers.Given as goal

-- the lines so far were written
abbrev pub invariant-loop-turn : goal.invariant-loop-turn
invariant-loop-turn g l = Writes (stand g.K.Sink.written g.K.Sink.faults l.initial.out l.initial.pending) (stand g.K.Sink.written g.K.Sink.faults l.out l.pending) (register_lines l.regs l.turn)
