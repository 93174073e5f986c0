-- What is written at the end of a run.
use Rattle.std.proofs.Common.{◌≡◌, ◌∙◌, ℕ, ap}
use Rattle.machine_core.specs.Run.{run_of}
use Rattle.machine_core.specs.Traced.{machine_in}
use Rattle.trace_check.specs.Verdicts.{Standing}
use Rattle.judged_run.specs.JudgedMachines.{JudgedState, HasRun, events_in, standing_after}
use Rattle.judged_run.specs.RunTexts.{checked_text}

-- the report and the verdict at the end of a run
pub checked_of_run : (steps : ℕ) (old new : JudgedState) → HasRun steps old new →
    checked_text (machine_in new.machine) new.judge.first ≡ checked_text (run_of steps (machine_in old.machine)).machine (standing_after old (events_in steps old)).first
checked_of_run steps old new run =
    ap (λ machine. checked_text machine new.judge.first) run.machine
    ∙ ap (λ (standing : Standing). checked_text (run_of steps (machine_in old.machine)).machine standing.first) run.standing
