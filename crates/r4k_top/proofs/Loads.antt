-- A load: its image, the run of it, and what that comes to.
use Rattle.std.proofs.Common.{◌≡◌, ◌∙◌, ◌+◌, ℕ, List, [], ◌++◌, length, length-append, Option, Some, None, ap, sym}
use Rattle.std.proofs.lemmas.List.{append-nil}
use Rattle.elf_image.specs.Written.{elf_header, program_header, image_of}
use Rattle.machine_core.specs.Machine.{MachineState}
use Rattle.machine_core.specs.Run.{run_of}
use Rattle.machine_core.specs.Traced.{machine_in, run_events}
use Rattle.r4_ports.specs.Told.{Files, Call, Appended}
use Rattle.trace_check.specs.declared.found.Found.{Found}
use Rattle.trace_check.specs.Verdicts.{Standing, standing_of}
use Rattle.judged_run.specs.JudgedMachines.{JudgedState, Begins, HasRun, events_in}
use Rattle.judged_run.proofs.JudgedRuns.{events_of_reset, first_of_reset, machine_run_from_reset}
use Rattle.prom_code.specs.PromWords.{boot_prom}
use Rattle.r4k_top.specs.Command.{Make}
use Rattle.r4k_top.specs.Making.{MadeOf}
use Rattle.r4k_top.specs.Outcome.{Made, Makes, file_name, load_shape, summed_up, run_load, load_job}
use Rattle.r4k_top.proofs.Reading.{all_accepted, made_of, made_here}

-- the image of some bytes has two headers more
pub length_image : (base entry : ℕ) (body : List ℕ) → length (image_of base entry body) ≡ 84 + length body
unfolding image_of elf_header program_header
length_image base entry body = length-append (elf_header entry ++ program_header base (length body)) body

-- the run of a bench from its beginning
pub load_made : (words steps : ℕ) (name image : List ℕ) (reset : MachineState) (old new : JudgedState) →
    Begins load_shape reset old → HasRun steps old new →
    run_load words steps name image reset ≡ Makes (summed_up words name image new.judge.first (machine_in new.machine))
unfolding run_load
load_made words steps name image reset old new begins run =
    let machine : machine_in new.machine ≡ (run_of steps reset).machine = machine_run_from_reset load_shape reset old begins steps new run in
    let first : new.judge.first ≡ (standing_of load_shape (run_events steps 0 reset)).first =
    ap (λ (standing : Standing). standing.first) run.standing ∙ first_of_reset load_shape reset old begins (events_in steps old)
    ∙ ap (λ events. (standing_of load_shape events).first) (events_of_reset load_shape reset old begins steps) in
    ap (λ at. Makes (summed_up words name image (standing_of load_shape (run_events steps 0 reset)).first at)) (sym machine)
    ∙ ap (λ (found : Option Found). Makes (summed_up words name image found (machine_in new.machine))) (sym first)

no_calls : (told : Option (List Call)) → Appended told told []
no_calls None = tt
no_calls (Some calls) = sym (append-nil calls)

put_name_is : (number count : ℕ) (name : List ℕ) (made : Made) → load_job boot_prom number count name ≡ Makes made → file_name made.file ≡ Some name
unfolding run_load
put_name_is number count name made e = sym (made_here _ made e)

-- nothing is fetched for it
pub load_of_command : (held : Option Files) (asked : Option (List Call)) (number count : ℕ) (name : List ℕ) (made : Made) →
    load_job boot_prom number count name ≡ Makes made → MadeOf (Some (Make number count name)) held asked asked made
load_of_command held asked number count name made e =
    made_of _ _ _ _ _ (all_accepted (Make number count name) held (Makes made) tt (λ files told. e))
    (put_name_is number count name made e) (no_calls asked)
