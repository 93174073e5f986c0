-- The verdict comes of the one file that is wanted.
use Rattle.std.proofs.Common.{[], refl}
use Rattle.r4k_top.specs.Command.{Judge}
use Rattle.r4k_top.specs.Wanted.{a_trace}
use Rattle.r4k_top.specs.Outcome.{Makes, judged}
use Rattle.r4k_top.proofs.Reading.{stopped_reading, all_accepted, made_of, of_told, handed_on}
use Rattle.r4k_top.proofs.job.make_verdict.Goals as goal

pub returns-in_err-judge-clause-stopped : goal.returns-in_err-judge-clause-stopped
returns-in_err-judge-clause-stopped g c =
    handed_on _ _ c.in_err-judge.field-0.0 c.from_residual.ensures.1
    (stopped_reading (Judge c.args.inquiry.now.shape c.args.inquiry.now.trace.now) [] (a_trace c.args.inquiry.now.trace.now) [] _ _ _ _ _ refl tt c.read_judged.ensures.asked c.in_err-judge.ensures.stopped)

pub returns-clause-made : goal.returns-clause-made
returns-clause-made g c =
    made_of _ _ _ _ _
    (all_accepted (Judge c.args.inquiry.now.shape c.args.inquiry.now.trace.now) _ (Makes (judged c.in_ok-judge.judge.first)) (c.in_ok-judge.ensures.accepted, tt)
    (λ files told. of_told _ _ _ c.in_ok-judge.ensures.judged files told))
    refl c.read_judged.ensures.asked
