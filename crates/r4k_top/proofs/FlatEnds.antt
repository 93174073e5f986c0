-- The run of a bench from reset, and of a plan's files, as a run of the flat machine.
use Rattle.std.proofs.Common.{[], ◌∷◌, ◌≡◌, ◌∙◌, refl, ℕ, List, Option, Some, None, ap, sym, subst}
use Rattle.access_trace.specs.declared.event.Verdict.TheVariants.{Yes}
use Rattle.flat_bridge.specs.Beside.{StandsBeside}
use Rattle.judged_run.specs.JudgedMachines.{JudgedState, Begins, events_in, standing_after}
use Rattle.flat_bridge.specs.Runs.{RunsAsFlat, RunWasFlat}
use Rattle.judged_run.proofs.JudgedRuns.{events_of_reset, first_of_reset}
use Rattle.flat_machine.specs.declared.flat_state.Flat.{Flat}
use Rattle.flat_machine.specs.FlatMachine.{flat_reset_of, flat_shown_of}
use Rattle.flat_machine.specs.FlatRun.{flat_run_of}
use Rattle.dma_devices.specs.RecordedInputs.{RecordedState}
use Rattle.input_script.specs.declared.inputs.Input.{Input}
use Rattle.mips3_exec.specs.declared.processor.Cpu.{Cpu}
use Rattle.machine_core.specs.Machine.{MachineState, reset_of}
use Rattle.machine_core.specs.Run.{run_of}
use Rattle.machine_core.specs.Shown.{shown_of}
use Rattle.machine_core.specs.Traced.{machine_in, run_events}
use Rattle.r4_ports.specs.Told.{Files, Call, file_of, fetch_of}
use Rattle.r4_shape.specs.Numbers.{Numbers}
use Rattle.trace_check.specs.Books.{Book}
use Rattle.trace_check.specs.declared.found.Found.{Found}
use Rattle.trace_check.specs.Verdicts.{book_of, standing_of, verdict_by}
use Rattle.prom_code.specs.PromWords.{boot_prom}
use Rattle.input_script.specs.Grammar as script
use Rattle.r4k_top.specs.declared.statuses.Status.TheVariants as status
use Rattle.r4k_top.specs.declared.telling.Telling.{Telling}
use Rattle.r4k_top.specs.declared.telling.Telling.TheVariants as telling
use Rattle.r4k_top.specs.Answers.{status_of_verdict}
use Rattle.r4k_top.specs.Clauses.{ComesTo}
use Rattle.r4k_top.specs.Wanted.{Refusal, Wanted, refusal_of, wanted_by}
use Rattle.r4k_top.specs.Command.{Plan, Command, Run, Judge, Assemble, Disassemble, Make, disk_out}
use Rattle.r4k_top.specs.FlatRuns.{IsFlatWhereYes, ToldFlat, PlanIsFlat, YesIsFlat, DoneTold, PlanRanFlat, DoneIsFlat}
use Rattle.r4k_top.specs.Making.{IsSetup, MadeOf}
use Rattle.r4k_top.specs.Outcome.{Made, End, Makes, Outcome, bytes_given, script_given, trace_from, run_job, run_by, after_fetch, outcome_over, outcome_of}
use Rattle.r4k_top.proofs.Benches.{check_made, trace_made, no_ticks}
use Rattle.r4k_top.proofs.Reading.{of_told, given_told, script_told}

-- a verdict of yes names no event
nothing_found : (first : Option Found) → verdict_by first ≡ Yes → first ≡ None
nothing_found None is = refl
nothing_found (Some found) is = absurd cc

-- a machine shows what a flat machine shows that agrees with it
shown_beside : (machine : MachineState) (book : Book) (flat : Flat) → StandsBeside machine book flat → shown_of machine ≡ flat_shown_of flat
shown_beside machine book flat agrees =
    ap (λ (cpu : Cpu). shown_of (record machine { cpu = cpu })) agrees.cpu
    ∙ ap (λ (devices : RecordedState). flat_shown_of (record { cpu = flat.cpu; memory = record flat.memory { devices = devices } })) agrees.memory.devices

module _ (shape : Numbers) (steps : ℕ) (reset : MachineState) (flat : Flat) (bench : JudgedState) (begins : Begins shape reset bench)
    (agrees : StandsBeside (machine_in bench.machine) (book_of bench.judge) flat) where
  -- the run of a bench from reset is that of the flat machine from reset
  pub flat_from_reset : RunWasFlat steps bench → IsFlatWhereYes shape steps reset flat
  flat_from_reset was yes' =
      let found : (standing_of shape (run_events steps 0 reset)).first ≡ None = nothing_found (standing_of shape (run_events steps 0 reset)).first yes' in
      let first : (standing_after bench (events_in steps bench)).first ≡ None =
      first_of_reset shape reset bench begins (events_in steps bench)
      ∙ ap (λ events. (standing_of shape events).first) (events_of_reset shape reset bench begins steps) ∙ found in
      let after : Book = (standing_after bench (events_in steps bench)).book in
      let run : RunsAsFlat steps reset after flat = subst (λ machine. RunsAsFlat steps machine after flat) begins.machine (was first flat agrees) in
      record { view = shown_beside (run_of steps reset).machine after (flat_run_of steps flat).flat run.beside; reads = run.told }

-- what is promised of the run of a plan from reset
abbrev FromReset : Plan → List Input → List ℕ → List ℕ → Type 0
FromReset plan inputs image disk =
    ToldFlat plan.telling plan.shape plan.steps (reset_of plan.shape boot_prom image disk inputs) (flat_reset_of plan.shape boot_prom image disk inputs)

-- the run of a setup is that of the plan's files
pub setup_flat : (held : Option Files) (plan : Plan) (image : List ℕ) (inputs : List Input) (disk : List ℕ) → IsSetup held plan image inputs disk →
    FromReset plan inputs image disk → YesIsFlat (Some (Run plan)) held
setup_flat None plan image inputs disk is flat = tt
setup_flat (Some files) plan image inputs disk is flat =
    let a = of_told (Some files) plan.image (λ bytes. image ≡ bytes) is.image_is files refl in
    let b = script_told (Some files) plan.script inputs is.inputs_are files refl in
    let c = given_told (Some files) plan.disk (λ bytes. disk ≡ bytes) is.disk_is files refl in
    subst (PlanIsFlat boot_prom plan (file_of files plan.image) (bytes_given (file_of files) plan.disk)) (sym b)
    (subst (λ bytes. FromReset plan inputs bytes (bytes_given (file_of files) plan.disk)) a (subst (FromReset plan inputs image) c flat))

-- WHAT DONE PROMISES

verdict_here : (a b : Made) → Makes a ≡ Makes b → a.verdict ≡ b.verdict
verdict_here a b e = ap (λ (made : Made). made.verdict) (made_same a b e)
  where
    made_same : (a b : Made) → Makes a ≡ Makes b → a ≡ b
    made_same a b e = cc

-- Done comes of a yes alone
done_is_yes : (first : Option Found) → status.Done ≡ status_of_verdict (Some (verdict_by first)) → verdict_by first ≡ Yes
done_is_yes None is = refl
done_is_yes (Some found) is = absurd cc

done_told : (telling : Telling) (shape : Numbers) (steps : ℕ) (out : Option (List ℕ)) (machine : MachineState) (flat : Flat) (made : Made) →
    run_job telling shape steps out machine ≡ Makes made → status.Done ≡ status_of_verdict made.verdict →
    ToldFlat telling shape steps machine flat → DoneTold telling steps machine flat
unfolding run_job
done_told telling.Report shape steps out machine flat made e done told = tt
done_told telling.Verdict shape steps out machine flat made e done told =
    told (done_is_yes (standing_of shape (trace_from steps machine)).first (done ∙ ap status_of_verdict (sym (verdict_here _ made e))))
done_told telling.Trace shape steps out machine flat made e done told =
    told (done_is_yes (standing_of shape (trace_from steps machine)).first (done ∙ ap status_of_verdict (sym (verdict_here _ made e))))

done_plan : (plan : Plan) (image disk : List ℕ) (text : script.ScriptText) (made : Made) → run_by boot_prom plan image disk text ≡ Makes made →
    status.Done ≡ status_of_verdict made.verdict → PlanIsFlat boot_prom plan image disk text → PlanRanFlat boot_prom plan image disk text
done_plan plan image disk (script.Inputs inputs) made e done flat =
    done_told plan.telling plan.shape plan.steps (disk_out plan.disk) (reset_of plan.shape boot_prom image disk inputs)
    (flat_reset_of plan.shape boot_prom image disk inputs) made e done flat
done_plan plan image disk (script.Bad line reason) made e done flat = tt

-- files of which something is made are not refused
after_makes : (call : Call) (refusal : Option Refusal) (rest : Outcome) (made : Made) → (after_fetch call refusal rest).end ≡ Makes made → rest.end ≡ Makes made
after_makes call None rest made e = e
after_makes call (Some refusal) rest made e = absurd cc

over_makes : (held : List ℕ → List ℕ) (files : List Wanted) (end : End) (made : Made) → (outcome_over held files end).end ≡ Makes made → end ≡ Makes made
over_makes held [] end made e = e
over_makes held (file ∷ files) end made e =
    over_makes held files end made (after_makes (fetch_of file.name) (refusal_of file (held file.name)) (outcome_over held files end) made e)

done_command : (command : Command) (held : Option Files) (made : Made) → ComesTo (Some command) held (λ outcome. outcome.end ≡ Makes made) →
    status.Done ≡ status_of_verdict made.verdict → YesIsFlat (Some command) held → DoneIsFlat (Some command) held
unfolding outcome_of
done_command (Run plan) (Some files) made came done flat =
    done_plan plan _ _ (script_given (file_of files) plan.script) made (over_makes (file_of files) (wanted_by plan) _ made came) done flat
done_command (Run plan) None made came done flat = tt
done_command (Judge shape trace) held made came done flat = tt
done_command (Assemble source out) held made came done flat = tt
done_command (Disassemble image) held made came done flat = tt
done_command (Make number count out) held made came done flat = tt

-- for the words of the command, and the answer Done
pub said_flat : (said : Option Command) (command : Command) (held : Option Files) (before now : Option (List Call)) (made : Made) →
    said ≡ Some command → MadeOf (Some command) held before now made → status.Done ≡ status_of_verdict made.verdict →
    YesIsFlat (Some command) held → DoneIsFlat said held
said_flat said command held before now made is of done flat =
    subst (λ s. DoneIsFlat s held) (sym is) (done_command command held made of.came done flat)

-- the run of a bench that is made before its text is written
pub ruleset untraced_run = (check_made, no_ticks, flat_from_reset)

-- the run of a bench that is made while its trace is written
pub ruleset traced_run = (trace_made, no_ticks, flat_from_reset)
