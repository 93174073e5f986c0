use Rattle.std.proofs.Common.{refl}
use Rattle.r4_ports.proofs.Writing.{writes_pending}
use Rattle.run_report.specs.Verdict.{event_line}
use Rattle.run_report.proofs.verdicts.put_event.Goals as goal

pub returns-then-len-le70 : goal.returns-then-len-le70
unfolding event_line
returns-then-len-le70 g c = record { writes = writes_pending _ _ _ refl refl refl c.append_event.ensures.text }
