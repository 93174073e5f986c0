use Rattle.r4_ports.proofs.Writing.{writes_then, writes_line, writes_same}
use Rattle.run_report.specs.Report.{cpu_lines}
use Rattle.run_report.proofs.reporting.write_cpu.Goals as goal

pub returns : goal.returns
unfolding cpu_lines
returns g c = record {
  writes =
      writes_then _ _ _ _ _ c.write_registers.ensures.writes
      (writes_line _ _ _ _ _ _ c.write_line-3.ensures c.halves_line.ensures.text
      (writes_line _ _ _ _ _ _ c.write_line-2.ensures c.pc_line.ensures.text
      (writes_same _ _ _ _ c.write_line.ensures c.ticks_line.ensures.text)));
}
