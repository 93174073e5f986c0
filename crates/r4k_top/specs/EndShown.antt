-- What a job made, as the program holds it.
use Rattle.std.specs.Prelude.{ℕ, List, [], Option, Some, None, String, string_bytes}
use Rattle.std.specs.declared.alloc.Global.{Global}
use Rattle.image_listing.specs.Listing.{listing_of}
use Rattle.machine_core.specs.Shown.{shown_of}
use Rattle.run_report.specs.Report.{report_of}
use Rattle.access_trace.specs.Traces.{trace_text}
use Rattle.machine_core.specs.Run.{run_of}
use Rattle.machine_core.specs.declared.machine_state.Machine.{Machine}
use Rattle.machine_core.specs.Traced.{machine_in}
use Rattle.flat_bridge.specs.Runs.{RunWasFlat}
use Rattle.judged_run.specs.JudgedMachines.{JudgedState, events_in, standing_after}
use Rattle.r4k_top.specs.declared.product.FileMade.{FileMade}
use Rattle.r4k_top.specs.declared.product.Finished.{Finished}
use Rattle.r4k_top.specs.declared.product.Finished.TheVariants as finished
use Rattle.r4k_top.specs.declared.runs.Untraced.{Untraced}
use Rattle.r4k_top.specs.declared.runs.Untraced.TheVariants as untraced
use Rattle.r4k_top.specs.declared.product.Product.{Product}
use Rattle.r4k_top.specs.declared.product.Product.TheVariants as product
use Rattle.r4k_top.specs.Outcome.{File, Made, named_file, checked, judged, summed_up}

-- the name of a file, where there is one
abbrev pub out_shown : Option (String Global) → Option (List ℕ)
out_shown None = None
out_shown (Some name) = Some (string_bytes name)

-- a file as the program holds it
abbrev pub file_shown : Option FileMade → Option File
file_shown None = None
file_shown (Some file) = Some (record { name = file.name.now; bytes = file.bytes.now })

-- what the run of a machine that is still to be made comes to: its report
abbrev pub machine_shown : Option (List ℕ) → ℕ → Machine → Made
machine_shown out steps machine =
    record {
      verdict = None;
      text = report_of (shown_of (run_of steps (machine_in machine)).machine);
      file = named_file out (shown_of (run_of steps (machine_in machine)).machine).disk;
    }

-- what the run of a bench that is still to be made comes to: its report and the verdict
abbrev pub checked_shown : Option (List ℕ) → ℕ → JudgedState → Made
checked_shown out steps bench =
    checked out [] (standing_after bench (events_in steps bench)).first (run_of steps (machine_in bench.machine)).machine

-- what a run comes to of which no trace is written
abbrev pub untraced_shown : Option (List ℕ) → Untraced → Made
untraced_shown out (untraced.Machine run) = machine_shown out run.steps run.machine
untraced_shown out (untraced.Bench run) = checked_shown out run.steps run.bench

-- what a run that is still to be made and traced comes to
abbrev pub traced_shown : Option (List ℕ) → ℕ → JudgedState → Made
traced_shown out steps bench =
    checked out (trace_text (events_in steps bench)) (standing_after bench (events_in steps bench)).first
    (run_of steps (machine_in bench.machine)).machine

-- what is made already
abbrev pub finished_shown : Finished → Made
finished_shown (finished.Report machine out) =
    record {
      verdict = None;
      text = report_of (shown_of (machine_in machine));
      file = named_file (out_shown out) (shown_of (machine_in machine)).disk;
    }
finished_shown (finished.Checked bench out) = checked (out_shown out) [] bench.judge.first (machine_in bench.machine)
finished_shown (finished.Judged judge) = judged judge.first
finished_shown (finished.Listing image) = record { verdict = None; text = listing_of image; file = None }
finished_shown (finished.File name bytes) =
    record { verdict = None; text = []; file = Some (record { name = name.now; bytes = bytes.items }) }
finished_shown (finished.Load bench words name image) =
    summed_up words name.now image bench.judge.first (machine_in bench.machine)

-- what a job makes
abbrev pub made_shown : Product → Made
made_shown (product.Finished finished) = finished_shown finished
made_shown (product.Untraced run out) = untraced_shown (out_shown out) run
made_shown (product.Traced run out) = traced_shown (out_shown out) run.steps run.bench

-- A run of a bench that is still to be made, without a trace: where no event of it breaks a rule it is one of the flat machine.
abbrev pub UntracedWillBeFlat : Untraced → Type 0
UntracedWillBeFlat (untraced.Machine run) = Unit {0}
UntracedWillBeFlat (untraced.Bench run) = RunWasFlat run.steps run.bench

-- A run that is still to be made, where something is promised of it: where no event of it breaks a rule it is one of the flat machine.
abbrev pub RunWillBeFlat : Product → Type 0
RunWillBeFlat (product.Finished finished) = Unit {0}
RunWillBeFlat (product.Untraced run out) = UntracedWillBeFlat run
RunWillBeFlat (product.Traced run out) = RunWasFlat run.steps run.bench
