-- The clauses on what the words come to and on what stands, from what is made and how it is delivered.
use Rattle.std.proofs.Common.{refl, sym, subst, ◌∙◌}
use Rattle.r4k_top.specs.Answers.{IsComplete}
use Rattle.r4k_top.specs.Stands.{ports_of}
use Rattle.r4k_top.proofs.Headline.{usage_ends, delivered_answer, delivered_stands, stopped_stands}
use Rattle.r4k_top.proofs.FlatEnds.{said_flat}
use Rattle.r4k_top.proofs.workstation.Goals as goal

pub returns-in_default-clause-answer : goal.returns-in_default-clause-answer
returns-in_default-clause-answer g c = usage_ends _ _ (c.in_default.ensures.none.0 refl)

pub returns-in_default-clause-stands : goal.returns-in_default-clause-stands
returns-in_default-clause-stands g c = record { shelf = refl; sink = refl }

pub returns-in-Ok-clause-answer : goal.returns-in-Ok-clause-answer
returns-in-Ok-clause-answer g c =
    delivered_answer _ _ _ _ _ _ _ _ _ _ _ _ _ c.in-Some.ensures.some c.in-Ok.ensures.made c.deliver.ensures.delivered.late c.make.ensures.put_faults
    c.deliver.ensures.delivered.verdict c.deliver.ensures.delivered.cause

pub returns-in-Ok-clause-stands : goal.returns-in-Ok-clause-stands
returns-in-Ok-clause-stands g c =
    delivered_stands (ports_of g.F.Shelf.held g.F.Shelf.asked g.F.Shelf.put_faults g.K.Sink.written g.K.Sink.is_flushed g.K.Sink.faults) _ _ _ _ _ _ _ _
    c.in-Some.ensures.some c.in-Ok.ensures.made c.make.ensures.held c.make.ensures.put_faults _ c.deliver.ensures.delivered

pub returns-in-Err-clause-stands : goal.returns-in-Err-clause-stands
returns-in-Err-clause-stands g c =
    stopped_stands (ports_of g.F.Shelf.held g.F.Shelf.asked g.F.Shelf.put_faults g.K.Sink.written g.K.Sink.is_flushed g.K.Sink.faults) _ _ _ _ _ _
    c.in-Some.ensures.some c.make.ensures.held c.make.ensures.put_faults _ c.in-Err.ensures.stopped

pub returns-in-Ok-clause-flat : goal.returns-in-Ok-clause-flat
returns-in-Ok-clause-flat g c = λ is.
    let complete : IsComplete c.deliver.result = subst IsComplete (sym is) tt in
    said_flat _ _ _ _ _ _ c.in-Some.ensures.some c.in-Ok.ensures.made (sym is ∙ c.deliver.ensures.delivered.verdict complete)
    (c.in-Ok.ensures.flat (c.deliver.ensures.flat complete))
