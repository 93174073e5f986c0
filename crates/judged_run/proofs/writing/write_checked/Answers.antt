use Rattle.r4_ports.specs.Writing.{IsFresh, stand}
use Rattle.r4_ports.proofs.Writing.{err_appended}
use Rattle.machine_core.specs.Traced.{machine_in}
use Rattle.judged_run.specs.RunTexts.{checked_text}
use Rattle.judged_run.proofs.writing.write_checked.Goals as goal

pub returns-clause-err : goal.returns-clause-err
returns-clause-err g c =
    let stand_of = stand g.K.Sink.written g.K.Sink.faults in
    let fresh : IsFresh (stand_of c.args.out.now c.new-pending.result) = record { pending = c.new-pending.ensures.piece; failed = c.new-pending.ensures.failed } in
    err_appended _ _ _ (checked_text (machine_in c.args.judged.now.machine) c.args.judged.now.judge.first) c.finish.result fresh c.put_checked.ensures.writes c.finish.ensures.writes c.finish.ensures.err
