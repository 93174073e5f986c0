use Rattle.std.proofs.Common.{sym, ap, ◌∙◌}
use Rattle.r4_ports.proofs.Writing.{writes_nothing, writes_line, writes_same}
use Rattle.run_report.specs.Report.{pair_line}
use Rattle.run_report.proofs.ReportLines.{pair_lines_none, pair_lines_more}
use Rattle.run_report.proofs.reporting.write_pairs.Goals as goal

pub loop-at-init : goal.loop-at-init
loop-at-init g c = writes_same _ _ _ _ (writes_nothing _) (sym (pair_lines_none _))

pub loop-at-preserved : goal.loop-at-preserved
loop-at-preserved g c =
    writes_same _ _ _ _
    (writes_line _ _ _ _ _ _ c.write_line.ensures (c.pair_line.ensures.text ∙ ap (pair_line _) c.read.ensures.pair) c.loop-at.invariant)
    (sym (pair_lines_more _ _))
