-- What a yes promises: the run that was checked is a run of the flat machine, which has no caches. What the machine shows at its end is
-- what the flat machine shows, registers, console and disk among it; and each fetch and each load of a step has read what the flat
-- machine's reads, which is what the lines F and L of the trace tell.
-- Source: this project's own.
use Rattle.std.specs.Prelude.{◌≡◌, ℕ, List, Option, Some, None}
use Rattle.access_trace.specs.declared.event.Verdict.TheVariants.{Yes}
use Rattle.flat_machine.specs.declared.flat_state.Flat.{Flat}
use Rattle.flat_ram.specs.declared.memory.Prom.{Prom}
use Rattle.flat_machine.specs.FlatMachine.{flat_reset_of, flat_shown_of}
use Rattle.flat_machine.specs.FlatMemory.{flat_ask}
use Rattle.flat_machine.specs.FlatRun.{flat_run_of}
use Rattle.flat_bridge.specs.RunReads.{run_reads, reads_in}
use Rattle.input_script.specs.Grammar as script
use Rattle.machine_core.specs.Machine.{MachineState, reset_of}
use Rattle.machine_core.specs.Shown.{shown_of}
use Rattle.r4_ports.specs.Told.{Files, file_of}
use Rattle.r4_shape.specs.Numbers.{Numbers}
use Rattle.trace_check.specs.Verdicts.{verdict_of}
use Rattle.prom_code.specs.PromWords.{boot_prom}
use Rattle.r4k_top.specs.declared.telling.Telling.{Telling}
use Rattle.r4k_top.specs.declared.telling.Telling.TheVariants as telling
use Rattle.r4k_top.specs.Command.{Plan, Command, Run}
use Rattle.r4k_top.specs.Outcome.{bytes_given, script_given, run_from, trace_from}

-- The run from a machine is that from a flat machine: both show the same at the end, and read the same on the way.
pub record RunIsFlat (steps : ℕ) (machine : MachineState) (flat : Flat) : Type 0 where
  pub view : shown_of (run_from steps machine).machine ≡ flat_shown_of (flat_run_of steps flat).flat
  pub reads : reads_in (trace_from steps machine) ≡ run_reads flat_ask steps flat.memory flat.cpu

-- It is where the verdict on its trace, on a shape, is yes.
abbrev pub IsFlatWhereYes : Numbers → ℕ → MachineState → Flat → Type 0
IsFlatWhereYes shape steps machine flat = verdict_of shape (trace_from steps machine) ≡ Yes → RunIsFlat steps machine flat

-- a run whose report alone is told has no verdict
abbrev pub ToldFlat : Telling → Numbers → ℕ → MachineState → Flat → Type 0
ToldFlat telling.Report shape steps machine flat = Unit {0}
ToldFlat telling.Verdict shape steps machine flat = IsFlatWhereYes shape steps machine flat
ToldFlat telling.Trace shape steps machine flat = IsFlatWhereYes shape steps machine flat

-- the run of a plan from reset, with a PROM, over the bytes of its image and of its disk, by what its script says
abbrev pub PlanIsFlat : Prom → Plan → List ℕ → List ℕ → script.ScriptText → Type 0
PlanIsFlat prom plan image disk (script.Inputs inputs) =
    ToldFlat plan.telling plan.shape plan.steps (reset_of plan.shape prom image disk inputs)
    (flat_reset_of plan.shape prom image disk inputs)
PlanIsFlat prom plan image disk (script.Bad line reason) = Unit {0}

-- over the files that are held, where they are told
abbrev pub PlanIsFlatOver : Prom → Plan → Option Files → Type 0
PlanIsFlatOver prom plan None = Unit {0}
PlanIsFlatOver prom plan (Some files) =
    PlanIsFlat prom plan (file_of files plan.image) (bytes_given (file_of files) plan.disk) (script_given (file_of files) plan.script)

-- what the words promise of a run; the other commands run nothing
abbrev pub YesIsFlat : Option Command → Option Files → Type 0
YesIsFlat (Some (Run plan)) held = PlanIsFlatOver boot_prom plan held
YesIsFlat _ held = Unit {0}

-- WHAT DONE PROMISES

-- after Done a run is that of the flat machine, where a verdict on it is told
abbrev pub DoneTold : Telling → ℕ → MachineState → Flat → Type 0
DoneTold telling.Report steps machine flat = Unit {0}
DoneTold telling.Verdict steps machine flat = RunIsFlat steps machine flat
DoneTold telling.Trace steps machine flat = RunIsFlat steps machine flat

-- for the run of a plan from reset, with a PROM, over the bytes of its image and of its disk, by what its script says
abbrev pub PlanRanFlat : Prom → Plan → List ℕ → List ℕ → script.ScriptText → Type 0
PlanRanFlat prom plan image disk (script.Inputs inputs) =
    DoneTold plan.telling plan.steps (reset_of plan.shape prom image disk inputs) (flat_reset_of plan.shape prom image disk inputs)
PlanRanFlat prom plan image disk (script.Bad line reason) = Unit {0}

-- what Done promises of a run, over the files that are held, where they are told; the other commands run nothing
abbrev pub DoneIsFlat : Option Command → Option Files → Type 0
DoneIsFlat (Some (Run plan)) (Some files) =
    PlanRanFlat boot_prom plan (file_of files plan.image) (bytes_given (file_of files) plan.disk) (script_given (file_of files) plan.script)
DoneIsFlat _ held = Unit {0}
