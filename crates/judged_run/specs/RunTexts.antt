-- What is written of a run that is judged.
-- Source: this project's own.
use Rattle.std.specs.Prelude.{ℕ, ◌≡◌, ◌++◌, List, Option, Ok}
use Rattle.machine_core.specs.Machine.{MachineState}
use Rattle.machine_core.specs.Run.{run_of}
use Rattle.machine_core.specs.Shown.{shown_of}
use Rattle.machine_core.specs.Traced.{machine_in}
use Rattle.r4_shape.specs.Numbers.{Numbers}
use Rattle.run_report.specs.Report.{report_of}
use Rattle.access_trace.specs.Traces.{trace_of, trace_text}
use Rattle.run_report.specs.Verdict.{verdict_text}
use Rattle.trace_check.specs.declared.found.Found.{Found}
use Rattle.trace_check.specs.Verdicts.{standing_of, start, verdict_by, event_by}
use Rattle.trace_check.specs.JudgedTraces.{judged_from}
use Rattle.judged_run.specs.JudgedMachines.{JudgedState, events_in, standing_after}

-- ---- what is written

-- the report of a machine, and the verdict by the first event that broke a rule
abbrev pub checked_text : MachineState → Option Found → List ℕ
checked_text machine first = report_of (shown_of machine) ++ verdict_text (verdict_by first) (event_by first)

-- the trace of a run of at most so many ticks, and the report and the verdict at its end
abbrev pub traced_text : ℕ → JudgedState → List ℕ
traced_text steps judged =
    trace_text (events_in steps judged)
    ++ checked_text (run_of steps (machine_in judged.machine)).machine (standing_after judged (events_in steps judged)).first

-- ---- a trace that was written

-- What is written of a run, with whatever behind it, is judged on any shape as the events of the run are.
abbrev pub IsJudgedAgain : ℕ → JudgedState → Type 0
IsJudgedAgain steps judged =
    (shape : Numbers) (rest : List ℕ) →
    judged_from (start shape) (trace_of (traced_text steps judged ++ rest)) ≡ Ok (standing_of shape (events_in steps judged))
