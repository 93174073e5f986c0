use Rattle.std.proofs.Common.{sym}
use Rattle.r4_ports.proofs.Writing.{writes_nothing, writes_line, writes_same}
use Rattle.run_report.proofs.ReportLines.{register_lines_none, register_lines_more}
use Rattle.run_report.proofs.reporting.write_registers.Goals as goal

pub loop-turn-init : goal.loop-turn-init
loop-turn-init g c = writes_same _ _ _ _ (writes_nothing _) (sym (register_lines_none _))

pub loop-turn-preserved : goal.loop-turn-preserved
loop-turn-preserved g c = writes_same _ _ _ _ (writes_line _ _ _ _ _ _ c.write_line.ensures c.register_line.ensures.text c.loop-turn.invariant) (sym (register_lines_more _ _))
