use Rattle.std.proofs.Common.{ap}
use Rattle.r4_ports.proofs.Writing.{writes_then, writes_same}
use Rattle.run_report.specs.Report.{report_of}
use Rattle.judged_run.proofs.writing.put_checked.Goals as goal

pub returns : goal.returns
returns g c = record { writes = writes_then _ _ _ _ _ c.put_verdict_on.ensures.writes (writes_same _ _ _ _ c.put_report.ensures.writes (ap report_of c.view.ensures.shown)) }
