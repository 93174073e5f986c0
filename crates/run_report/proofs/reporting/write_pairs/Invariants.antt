use Rattle.r4_ports.specs.Writing.{Writes, stand}
use Rattle.run_report.specs.Report.{pair_lines}
use Rattle.run_report.proofs.reporting.write_pairs.Given as goal

-- the lines so far were written
abbrev pub invariant-loop-at : goal.invariant-loop-at
invariant-loop-at g l = Writes (stand g.K.Sink.written g.K.Sink.faults l.initial.out l.initial.pending) (stand g.K.Sink.written g.K.Sink.faults l.out l.pending) (pair_lines l.tlb l.at)
