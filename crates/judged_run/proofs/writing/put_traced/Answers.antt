use Rattle.std.proofs.Common.{ap, ◌++◌}
use Rattle.r4_ports.proofs.Writing.{writes_then, writes_same}
use Rattle.access_trace.specs.Traces.{trace_text}
use Rattle.judged_run.specs.JudgedMachines.{events_in}
use Rattle.judged_run.proofs.Ended.{checked_of_run}
use Rattle.judged_run.proofs.writing.put_traced.Goals as goal

pub returns-clause-writes : goal.returns-clause-writes
returns-clause-writes g c =
    writes_same _ _ _ _
    (writes_then _ _ _ _ _ c.put_checked.ensures.writes (writes_then _ _ _ _ _ c.put_end.ensures.writes c.put_run.ensures.writes))
    (ap (λ text. trace_text (events_in c.args.steps c.args.judged.now) ++ text) (checked_of_run c.args.steps c.args.judged.now c.put_run.new.judged (c.put_run.ensures.whole c.if-pending.false)))
