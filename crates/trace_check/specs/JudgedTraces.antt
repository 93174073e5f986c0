-- A trace that is judged while it is read.
-- Source: this project's own.
use Rattle.std.specs.Prelude.{ℕ, ◌≡◌, List, fold, Result, Ok, Err}
use Rattle.access_trace.specs.declared.event.Event.{Event}
use Rattle.r4_shape.specs.Numbers.{Numbers}
use Rattle.trace_check.specs.Verdicts.{Standing, Judging, held, standing_at, start}

-- how matters stand with a judge after the events of a trace, or the first line of it that is bad
abbrev pub judged_from : Standing → Result (List Event) ℕ → Result Standing ℕ
judged_from standing (Ok events) = Ok (fold held standing events)
judged_from standing (Err line) = Err line

-- a judge has seen all events of a trace, on a shape
pub record HasJudged (shape : Numbers) (trace : Result (List Event) ℕ) (judge : Judging) : Type 0 where
  pub is : judged_from (start shape) trace ≡ Ok (standing_at judge)
