use Rattle.r4_ports.specs.Writing.{IsFresh, stand}
use Rattle.r4_ports.proofs.Writing.{err_appended}
use Rattle.judged_run.specs.RunTexts.{traced_text}
use Rattle.judged_run.proofs.writing.write_run.Goals as goal

pub returns-clause-err : goal.returns-clause-err
returns-clause-err g c =
    let stand_of = stand g.K.Sink.written g.K.Sink.faults in
    let fresh : IsFresh (stand_of c.args.out.now c.new-pending.result) = record { pending = c.new-pending.ensures.piece; failed = c.new-pending.ensures.failed } in
    err_appended _ _ _ (traced_text c.args.steps c.args.judged.now) c.finish.result fresh c.put_traced.ensures.writes c.finish.ensures.writes c.finish.ensures.err
