use Rattle.r4_ports.specs.Writing.{Writes, stand}
use Rattle.run_report.specs.Report.{bytes_lines}
use Rattle.run_report.proofs.reporting.write_bytes.Given as goal

-- the lines so far were written
abbrev pub invariant-loop-line : goal.invariant-loop-line
invariant-loop-line g l = Writes (stand g.K.Sink.written g.K.Sink.faults l.initial.out l.initial.pending) (stand g.K.Sink.written g.K.Sink.faults l.out l.pending) (bytes_lines l.bytes l.line)
