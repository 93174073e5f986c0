use Rattle.r4_ports.proofs.Writing.{writes_then, writes_same}
use Rattle.run_report.proofs.verdicts.put_no.Goals as goal

pub returns : goal.returns
returns g c = record { writes = writes_then _ _ _ _ _ c.put_event.ensures.writes (writes_same _ _ _ _ c.write_line.ensures c.no_line.ensures.text) }
