-- A trace that is judged while it is read.
use Rattle.std.proofs.Common.{◌≡◌, ℕ, List, Result, Ok, Err, refl}
use Rattle.access_trace.specs.declared.event.Event.{Event}
use Rattle.access_trace.specs.Traces.{with_event}
use Rattle.trace_check.specs.Verdicts.{Standing, held}
use Rattle.trace_check.specs.JudgedTraces.{judged_from}

-- one event more
pub judged_more : (standing : Standing) (event : Event) (later : Result (List Event) ℕ) →
    judged_from standing (with_event event later) ≡ judged_from (held standing event) later
judged_more standing event (Ok events) = refl
judged_more standing event (Err line) = refl

-- a trace that comes to a bad line has it
pub bad_line : (standing : Standing) (trace : Result (List Event) ℕ) (line : ℕ) → Err line ≡ judged_from standing trace → trace ≡ Err line
bad_line standing (Ok events) line is = absurd cc
bad_line standing (Err bad) line is = cc
