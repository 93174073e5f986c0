-- A trace that was written is judged again.
use Rattle.std.proofs.Common.{◌≡◌, ◌∙◌, ℕ, ap, List, ◌++◌, All, append_assoc}
use Rattle.access_trace.specs.Grammar.{IsEvent}
use Rattle.access_trace.specs.Traces.{trace_of, trace_text}
use Rattle.access_trace.proofs.WrittenTrace.{trace_of_text}
use Rattle.machine_core.specs.Run.{run_of}
use Rattle.machine_core.specs.Traced.{machine_in}
use Rattle.trace_check.specs.Verdicts.{start}
use Rattle.judged_run.specs.JudgedMachines.{JudgedState, events_in, standing_after}
use Rattle.trace_check.specs.JudgedTraces.{judged_from}
use Rattle.judged_run.specs.RunTexts.{checked_text, IsJudgedAgain}

pub judged_again : (steps : ℕ) (judged : JudgedState) → All IsEvent (events_in steps judged) → IsJudgedAgain steps judged
judged_again steps judged grammar shape rest =
    let events = events_in steps judged in
    let behind : List ℕ = checked_text (run_of steps (machine_in judged.machine)).machine (standing_after judged events).first in
    ap (judged_from (start shape))
    (ap trace_of (append_assoc (trace_text events) behind rest) ∙ trace_of_text events (behind ++ rest) grammar)
