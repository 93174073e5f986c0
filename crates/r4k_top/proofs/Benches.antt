-- What the run of a bench from its beginning comes to.
use Rattle.std.proofs.Common.{◌≡◌, ◌∙◌, ◌*◌, ◌≤◌, ℕ, List, [], Option, None, ap, sym}
use Rattle.access_trace.specs.declared.event.Event.{Event}
use Rattle.access_trace.specs.Traces.{trace_text}
use Rattle.r4_shape.specs.Numbers.{Numbers}
use Rattle.machine_core.specs.declared.machine_state.Machine.{Machine}
use Rattle.machine_core.specs.Machine.{MachineState}
use Rattle.machine_core.specs.Run.{run_of}
use Rattle.machine_core.specs.Traced.{machine_in}
use Rattle.trace_check.specs.declared.found.Found.{Found}
use Rattle.trace_check.specs.Verdicts.{standing_of}
use Rattle.judged_run.specs.JudgedMachines.{JudgedState, Begins, events_in, standing_after}
use Rattle.judged_run.proofs.JudgedRuns.{events_of_reset, first_of_reset}
use Rattle.r4k_top.specs.declared.telling.Telling.TheVariants as telling
use Rattle.r4k_top.specs.Outcome.{Makes, report_at, checked, run_job}
use Rattle.r4k_top.specs.EndShown.{machine_shown, checked_shown, traced_shown}

-- the report alone, of the machine itself
pub report_made : (shape : Numbers) (steps : ℕ) (out : Option (List ℕ)) (reset : MachineState) (machine : Machine) → machine_in machine ≡ reset →
    run_job telling.Report shape steps out reset ≡ Makes (machine_shown out steps machine)
unfolding run_job
report_made shape steps out reset machine begins = ap (λ at. report_at out (run_of steps at).machine) (sym begins)

-- the report and the verdict
pub check_made : (shape : Numbers) (steps : ℕ) (out : Option (List ℕ)) (reset : MachineState) (bench : JudgedState) →
    Begins shape reset bench → run_job telling.Verdict shape steps out reset ≡ Makes (checked_shown out steps bench)
unfolding run_job
check_made shape steps out reset bench begins =
    ap (λ (events : List Event). Makes (checked out [] (standing_of shape events).first (run_of steps reset).machine)) (sym (events_of_reset shape reset bench begins steps))
    ∙ ap (λ (found : Option Found). Makes (checked out [] found (run_of steps reset).machine)) (sym (first_of_reset shape reset bench begins (events_in steps bench)))
    ∙ ap (λ (machine : MachineState). Makes (checked out [] (standing_after bench (events_in steps bench)).first (run_of steps machine).machine)) (sym begins.machine)

-- and with the trace before them
pub trace_made : (shape : Numbers) (steps : ℕ) (out : Option (List ℕ)) (reset : MachineState) (bench : JudgedState) →
    Begins shape reset bench → run_job telling.Trace shape steps out reset ≡ Makes (traced_shown out steps bench)
unfolding run_job
trace_made shape steps out reset bench begins =
    ap (λ (events : List Event). Makes (checked out (trace_text events) (standing_of shape events).first (run_of steps reset).machine)) (sym (events_of_reset shape reset bench begins steps))
    ∙ ap (λ (found : Option Found). Makes (checked out (trace_text (events_in steps bench)) found (run_of steps reset).machine)) (sym (first_of_reset shape reset bench begins (events_in steps bench)))
    ∙ ap (λ (machine : MachineState). Makes (checked out (trace_text (events_in steps bench)) (standing_after bench (events_in steps bench)).first (run_of steps machine).machine)) (sym begins.machine)

-- no tick was made at the beginning
pub no_ticks : (shape : Numbers) (reset : MachineState) (bench : JudgedState) → Begins shape reset bench → bench.machine.cpu.ticks ≡ 0
no_ticks shape reset bench begins = begins.ticks
