use Rattle.std.proofs.Common.{sym, ap, ◌∙◌}
use Rattle.r4_ports.proofs.Writing.{writes_nothing, writes_line, writes_same}
use Rattle.run_report.specs.Report.{bytes_line}
use Rattle.run_report.proofs.ReportLines.{bytes_lines_none, bytes_lines_more}
use Rattle.run_report.proofs.reporting.write_bytes.Goals as goal

pub loop-line-init : goal.loop-line-init
loop-line-init g c = writes_same _ _ _ _ (writes_nothing _) (sym (bytes_lines_none _))

pub loop-line-preserved : goal.loop-line-preserved
loop-line-preserved g c =
    writes_same _ _ _ _
    (writes_line _ _ _ _ _ _ c.write_line.ensures (c.bytes_line.ensures.text ∙ ap bytes_line c.line_at.ensures.bytes) c.loop-line.invariant)
    (sym (bytes_lines_more _ _))
