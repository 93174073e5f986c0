-- What the faults of a trace say.
use Rattle.std.specs.Prelude.{ℕ, ◌≡◌, List, Result, Err}
use Rattle.access_trace.specs.Traces.{IsFirstBad}
use Rattle.access_trace.specs.declared.event.Event.{Event}
use Rattle.access_trace.specs.declared.traces.TraceFault.{TraceFault}
use Rattle.access_trace.specs.declared.traces.TraceFault.TheVariants.{BadLine, Memory}

-- a bad line is the one that the trace has in place of its events; of want of memory nothing is said
abbrev pub IsFaultOf : Result (List Event) ℕ → TraceFault → Type 0
IsFaultOf trace (BadLine line) = trace ≡ Err line
IsFaultOf trace Memory = Unit {0}

-- a bad line is the first one of these lines
abbrev pub NamesFirstBad : List (List ℕ) → TraceFault → Type 0
NamesFirstBad lines (BadLine line) = IsFirstBad lines line
NamesFirstBad lines Memory = Unit {0}
