use Rattle.r4_ports.proofs.Writing.{writes_then, writes_line}
use Rattle.run_report.specs.Report.{report_of}
use Rattle.run_report.proofs.reporting.put_report.Goals as goal

pub returns : goal.returns
unfolding report_of
returns g c = record {
  writes =
      writes_then _ _ _ _ _ c.write_console.ensures.writes
      (writes_line _ _ _ _ _ _ c.write_line.ensures c.disk_line.ensures.text
      (writes_then _ _ _ _ _ c.write_pairs.ensures.writes
      (writes_then _ _ _ _ _ c.write_system.ensures.writes c.write_cpu.ensures.writes)));
}
