use Rattle.std.proofs.Common.{◌≡◌, length}
use Rattle.access_trace.specs.Traces.{trace_of, events_left}
use Rattle.access_trace.proofs.Collected.{with_events}
use Rattle.access_trace.proofs.traces.read_trace.Given as goal

abbrev pub invariant-loop-events : goal.invariant-loop-events
invariant-loop-events l = trace_of l.bytes ≡ with_events l.events.items (events_left l.reader)

abbrev pub decreases-loop-events : goal.decreases-loop-events
decreases-loop-events l = length l.reader.lines
