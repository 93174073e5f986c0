use Rattle.std.proofs.Common.{◌≡◌, ◌≤◌, ◌+◌, length}
use Rattle.access_trace.specs.Traces.{events_left, trace_of}
use Rattle.trace_check.specs.Verdicts.{standing_at, start}
use Rattle.trace_check.specs.JudgedTraces.{judged_from}
use Rattle.trace_check.proofs.reading.judge_text.Given as goal

-- what is left of the trace brings the judge to where the whole trace brings a new one
abbrev pub invariant-loop-judge : goal.invariant-loop-judge
invariant-loop-judge l =
    (judged_from (standing_at l.judge) (events_left l.reader) ≡ judged_from (start l.fn.shape) (trace_of l.text))
    × (l.judge.events + length l.reader.lines ≤ length l.text)

abbrev pub decreases-loop-judge : goal.decreases-loop-judge
decreases-loop-judge l = length l.reader.lines
