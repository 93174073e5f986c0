-- What the words come to, as a function of the bytes that stand under each name: how many of the files are fetched, and
-- what is made of them, or why nothing is. What stands after an answer is said of it once for all commands.
use Rattle.std.specs.Prelude.{ℕ, List, [], ◌∷◌, ◌++◌, length, Option, Some, None, Result, Ok, Err}
use Rattle.elf_image.specs.Written.{image_of}
use Rattle.flat_ram.specs.declared.memory.Prom.{Prom}
use Rattle.mips_asm.specs.Assembly.{Assembly, Image, Bad, assembled}
use Rattle.image_listing.specs.Listing.{listing_of}
use Rattle.r4_shape.specs.Numbers.{Numbers, primary_alone}
use Rattle.load_maker.specs.Program.{program, program_base, program_ticks, word_bytes}
use Rattle.load_maker.specs.declared.summary.Summary.{Summary}
use Rattle.load_maker.specs.Summary.{summary_text}
use Rattle.machine_core.specs.Machine.{MachineState, Reached, reset_of}
use Rattle.machine_core.specs.Run.{run_of}
use Rattle.machine_core.specs.Shown.{shown_of}
use Rattle.machine_core.specs.Traced.{run_events}
use Rattle.access_trace.specs.declared.event.Event.{Event}
use Rattle.access_trace.specs.declared.event.Verdict.{Verdict}
use Rattle.access_trace.specs.Traces.{trace_of, trace_text}
use Rattle.trace_check.specs.declared.found.Found.{Found}
use Rattle.trace_check.specs.Verdicts.{standing_of, verdict_by, event_by}
use Rattle.judged_run.specs.RunTexts.{checked_text}
use Rattle.run_report.specs.Verdict.{verdict_text}
use Rattle.input_script.specs.declared.inputs.Input.{Input}
use Rattle.input_script.specs.Grammar as script
use Rattle.run_report.specs.Report.{report_of}
use Rattle.r4_ports.specs.Told.{Call, fetch_of}
use Rattle.prom_code.specs.PromWords.{boot_prom}
use Rattle.r4k_top.specs.declared.telling.Telling.{Telling}
use Rattle.r4k_top.specs.declared.telling.Telling.TheVariants as telling
use Rattle.r4k_top.specs.Command.{Plan, Command, Run, Judge, Assemble, Disassemble, Make, disk_out}
use Rattle.r4k_top.specs.Wanted.{Refusal, NoCommand, Unreadable, Unparsed, Refused, Wanted, refusal_of, wanted_of}

-- a file for the shelf
pub record File : Type 0 where
  pub name : List ℕ
  pub bytes : List ℕ

-- the name of a file, where there is one
abbrev pub file_name : Option File → Option (List ℕ)
file_name None = None
file_name (Some file) = Some file.name

-- what a job makes: a verdict, where it gives one, a text for the sink, and then a file for the shelf, where it makes one
pub record Made : Type 0 where
  pub verdict : Option Verdict
  pub text : List ℕ
  pub file : Option File

-- What a job comes to.
pub data End : Type 0 where
  -- it can be done, and this is what it makes
  Makes : Made → End
  -- it makes nothing
  Refuses : Refusal → End

-- THE RUN OF AN IMAGE

-- the bytes of a file that may be left out: none where no name is given
abbrev pub bytes_given : (List ℕ → List ℕ) → Option (List ℕ) → List ℕ
bytes_given held None = []
bytes_given held (Some name) = held name

-- what a script says, which may be left out: no inputs where no name is given
abbrev pub script_given : (List ℕ → List ℕ) → Option (List ℕ) → script.ScriptText
script_given held None = script.Inputs []
script_given held (Some name) = script.script_text (held name)

-- a file of these bytes, where there is a name for it
abbrev pub named_file : Option (List ℕ) → List ℕ → Option File
named_file None bytes = None
named_file (Some name) bytes = Some (record { name = name; bytes = bytes })

-- a machine is reported, and its disk is put under a name, where there is one
abbrev pub report_at : Option (List ℕ) → MachineState → End
report_at out machine =
    Makes (record { verdict = None; text = report_of (shown_of machine); file = named_file out (shown_of machine).disk })

-- the run from a machine within a bound on its ticks
abbrev pub run_from : ℕ → MachineState → Reached
run_from steps machine = run_of steps machine

-- THE VERDICT ON A RUN

-- the trace of such a run, from a machine outside every span
abbrev pub trace_from : ℕ → MachineState → List Event
trace_from steps machine = run_events steps 0 machine

-- behind a text the report of a machine and the verdict by the first event that broke a rule; and its disk put under a name,
-- where there is one
abbrev pub checked : Option (List ℕ) → List ℕ → Option Found → MachineState → Made
checked out before first machine = record {
  verdict = Some (verdict_by first);
  text = before ++ checked_text machine first;
  file = named_file out (shown_of machine).disk;
}

-- what is told of a run: its report, with the verdict on its trace, or with its trace before both
abbrev pub told : Telling → Numbers → Option (List ℕ) → List Event → MachineState → End
told telling.Report shape out events machine = report_at out machine
told telling.Verdict shape out events machine = Makes (checked out [] (standing_of shape events).first machine)
told telling.Trace shape out events machine = Makes (checked out (trace_text events) (standing_of shape events).first machine)

-- what such a run of a shape comes to, with the changed disk put under a name, where there is one
unfoldable pub run_job : Telling → Numbers → ℕ → Option (List ℕ) → MachineState → End
run_job telling shape steps out machine = told telling shape out (trace_from steps machine) (run_from steps machine).machine

-- THE FILES OF A PLAN

-- what the run of a plan from reset comes to, with a PROM, over the bytes of its image and of its disk, by what its script says
abbrev pub run_by : Prom → Plan → List ℕ → List ℕ → script.ScriptText → End
run_by prom plan image disk (script.Inputs inputs) =
    run_job plan.telling plan.shape plan.steps (disk_out plan.disk) (reset_of plan.shape prom image disk inputs)
run_by prom plan image disk (script.Bad line reason) = Refuses (Unreadable line reason)

-- THE VERDICT ON A TRACE

-- a verdict, by the first event that broke a rule
abbrev pub judged : Option Found → Made
judged first = record { verdict = Some (verdict_by first); text = verdict_text (verdict_by first) (event_by first); file = None }

-- the verdict on some events, or the first line of a trace that has none
abbrev pub judge_job : Numbers → Result (List Event) ℕ → End
judge_job shape (Ok events) = Makes (judged (standing_of shape events).first)
judge_job shape (Err line) = Refuses (Unparsed line)

-- THE IMAGE OF A SOURCE

-- an image, put under a name
abbrev pub put_image : List ℕ → Assembly → End
put_image name (Image base entry bytes) =
    Makes (record { verdict = None; text = []; file = Some (record { name = name; bytes = image_of base entry bytes }) })
put_image name (Bad line reason) = Refuses (Refused line reason)

-- THE LISTING OF AN IMAGE

-- the listing of an image
abbrev pub list_job : List ℕ → End
list_job bytes = Makes (record { verdict = None; text = listing_of bytes; file = None })

-- A LOAD

-- the shape on which a load is run: pc/32
abbrev pub load_shape : Numbers
load_shape = primary_alone 8192 32

-- the image of a load
abbrev pub load_image : ℕ → ℕ → List ℕ
load_image number count = image_of program_base program_base (word_bytes (program number count))

-- what is told of the run of so many words, by the first event that broke a rule and the machine at its end
abbrev pub summary_by : ℕ → Option Found → MachineState → Summary
summary_by words first machine = record {
  words = words;
  ticks = (shown_of machine).ticks;
  halt = (shown_of machine).halt;
  verdict = verdict_by first;
}

-- its summary, and the image put under a name; the job is done whatever the verdict is
abbrev pub summed_up : ℕ → List ℕ → List ℕ → Option Found → MachineState → Made
summed_up words name image first machine = record {
  verdict = None;
  text = summary_text (summary_by words first machine);
  file = Some (record { name = name; bytes = image });
}

-- an image that is run on that shape within a bound, from a machine
unfoldable pub run_load : ℕ → ℕ → List ℕ → List ℕ → MachineState → End
run_load words steps name image machine =
    Makes (summed_up words name image (standing_of load_shape (trace_from steps machine)).first (run_from steps machine).machine)

-- an image that is run so from reset, with a PROM, without a script and a disk
abbrev pub load_from_reset : Prom → ℕ → ℕ → List ℕ → List ℕ → End
load_from_reset prom words steps name image = run_load words steps name image (reset_of load_shape prom image [] [])

-- the load of a number, with so many turns
abbrev pub load_job : Prom → ℕ → ℕ → List ℕ → End
load_job prom number count name =
    load_from_reset prom (length (program number count)) (program_ticks count) name (load_image number count)

-- ALL COMMANDS

-- what the job of a command comes to, over the bytes that stand under each name, where no file is refused. A machine that is run has
-- the PROM of this workstation.
abbrev pub job_of : Command → (List ℕ → List ℕ) → End
job_of (Run plan) held = run_by boot_prom plan (held plan.image) (bytes_given held plan.disk) (script_given held plan.script)
job_of (Judge shape trace) held = judge_job shape (trace_of (held trace))
job_of (Assemble source out) held = put_image out (assembled (held source))
job_of (Disassemble image) held = list_job (held image)
job_of (Make number count out) held = load_job boot_prom number count out

-- What the words come to: the fetches that are made, and the end.
pub record Outcome : Type 0 where
  pub fetches : List Call
  pub end : End

-- a file is fetched, and where it is refused nothing comes after it
abbrev pub after_fetch : Call → Option Refusal → Outcome → Outcome
after_fetch fetch (Some refusal) rest = record { fetches = fetch ∷ []; end = Refuses refusal }
after_fetch fetch None rest = record { fetches = fetch ∷ rest.fetches; end = rest.end }

-- the files are fetched in their order, up to the first that is refused; behind them all comes the job
abbrev pub outcome_over : (List ℕ → List ℕ) → List Wanted → End → Outcome
outcome_over held [] end = record { fetches = []; end = end }
outcome_over held (file ∷ files) end =
    after_fetch (fetch_of file.name) (refusal_of file (held file.name)) (outcome_over held files end)

-- what the words come to, over the bytes that stand under each name
unfoldable pub outcome_of : Option Command → (List ℕ → List ℕ) → Outcome
outcome_of None held = record { fetches = []; end = Refuses NoCommand }
outcome_of (Some command) held = outcome_over held (wanted_of command) (job_of command held)
