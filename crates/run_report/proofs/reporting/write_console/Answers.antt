use Rattle.r4_ports.proofs.Writing.{writes_then, writes_same}
use Rattle.run_report.specs.Report.{console_lines}
use Rattle.run_report.proofs.reporting.write_console.Goals as goal

pub returns : goal.returns
unfolding console_lines
returns g c = record { writes = writes_then _ _ _ _ _ c.write_bytes.ensures.writes (writes_same _ _ _ _ c.write_line.ensures c.out_line.ensures.text) }
