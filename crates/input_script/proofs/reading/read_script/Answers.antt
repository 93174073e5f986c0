use Rattle.input_script.proofs.Passed.{before_line, before_more, before_none, first_bad, none_at_all}
use Rattle.input_script.proofs.reading.read_script.Goals as goal

pub returns-in-Err-clause-first_bad : goal.returns-in-Err-clause-first_bad
returns-in-Err-clause-first_bad c =
    let first = c.first_part-first in
    let here = before_line _ _ _ _ _ c.in-Some.text first.result.part.now first.result.rest c.loop-rest.invariant c.in-Some.is first.ensures.parts in
    let fault = rw c.in-Err.is at c.in_ok-taken.ensures.taken in
    first_bad _ _ _ _ _ _ _ here fault

pub loop-rest-preserved : goal.loop-rest-preserved
loop-rest-preserved c =
    let first = c.first_part-first in
    let taken = rw c.in-Ok.is at c.in_ok-taken.ensures.taken in
    let order = rw c.in-Ok.is at c.in_ok-taken.ensures.order in
    let room = rw c.in-Ok.is at c.in_ok-taken.ensures.room in
    before_more _ _ _ _ _ c.in-Some.text first.result.part.now first.result.rest c.take_line.new.script c.in-Ok.next
    c.loop-rest.invariant c.in-Some.is first.ensures.parts first.ensures.shorter taken.0 taken.1 taken.2 order room

pub returns-clause-faultless : goal.returns-clause-faultless
returns-clause-faultless c = none_at_all _ _ _ _ (before_none _ _ _ _ _ c.loop-rest.invariant c.in_default.is)
