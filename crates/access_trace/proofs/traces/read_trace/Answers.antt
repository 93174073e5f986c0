use Rattle.std.proofs.Common.{◌≡◌, ◌∙◌, Result, Ok, Err, [], IsErrAnd, IfErr, subst, sym}
use Rattle.access_trace.specs.Traces.{lines_of, events_left}
use Rattle.access_trace.specs.Faults.{NamesFirstBad}
use Rattle.access_trace.specs.declared.traces.TraceFault.TheVariants as fault
use Rattle.access_trace.proofs.Collected.{with_events_end, with_events_bad, events_are, first_bad}
use Rattle.access_trace.proofs.traces.read_trace.Goals as goal

-- what holds of the only error that a result may be
at_error : {T E : Type 0} (r : Result T E) (e : E) (P : E → Type 0) → IsErrAnd r (λ given. given ≡ e) → P e → IfErr r P
at_error (Ok value) e P is holds = tt
at_error (Err given) e P is holds = subst P (sym is) holds

pub returns-in_err-event-clause-first_bad : goal.returns-in_err-event-clause-first_bad
returns-in_err-event-clause-first_bad c =
    let bad = c.in_err-event.field-0.0 in
    let lines = lines_of c.args.bytes.now in
    at_error c.from_residual.result (fault.BadLine bad.line) (λ fault. NamesFirstBad lines fault) c.from_residual.ensures.1
    (first_bad lines bad.line (c.loop-events.invariant ∙ with_events_bad c.loop-events.events.items (events_left c.loop-events.reader) bad.line c.in_err-event.ensures.bad))

pub returns-clause-lines : goal.returns-clause-lines
returns-clause-lines c =
    let end : events_left c.loop-events.reader ≡ Ok [] = rw c.in_default.is at c.in_ok-event.ensures.end in
    events_are 1 (lines_of c.args.bytes.now) c.loop-events.events.items (c.loop-events.invariant ∙ with_events_end c.loop-events.events.items (events_left c.loop-events.reader) end)
