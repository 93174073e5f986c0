-- What the words come to, file by file: each file that is accepted is one fetch more before what comes of the others, and
-- a file that is refused ends it. The lemmas hold for any list of files and any job.
use Rattle.std.proofs.Common.{◌≡◌, ◌≤◌, arith, ℕ, List, [], ◌∷◌, Option, Some, None, refl, sym, ap, subst, ◌∙◌, Result, Ok, Err, IfOk, IfErr, ◌++◌, append_assoc}
use Rattle.std.specs.Prelude.{map, IsErrAnd}
use Rattle.std.proofs.lemmas.List.{append-nil, map-append}
use Rattle.input_script.specs.declared.inputs.Input.{Input}
use Rattle.input_script.specs.Grammar.{Inputs, script_text}
use Rattle.r4_shape.specs.Numbers.{Numbers}
use Rattle.access_trace.specs.declared.event.Event.{Event}
use Rattle.machine_core.specs.Machine.{MachineState, reset_of}
use Rattle.prom_code.specs.PromWords.{boot_prom}
use Rattle.r4k_top.specs.declared.telling.Telling.{Telling}
use Rattle.r4k_top.specs.declared.telling.Telling.TheVariants as telling
use Rattle.machine_core.specs.Shown.{shown_of}
use Rattle.r4_ports.specs.Told.{Files, Call, file_of, fetch_of, Appended, Rose}
use Rattle.r4k_top.specs.declared.statuses.Status.{Status}
use Rattle.r4k_top.specs.declared.statuses.Status.TheVariants as status
use Rattle.r4k_top.specs.Command.{Plan, Command, Run, disk_out, out_name}
use Rattle.r4k_top.specs.Wanted.{Refusal, Wanted, refusal_of, an_image, a_script, a_disk, if_given, wanted_by, wanted_of, fetches_of}
use Rattle.r4k_top.specs.Outcome.{file_name, named_file, bytes_given, script_given, Made, End, Makes, run_from, trace_from, told, run_job, run_by, Outcome, after_fetch, outcome_over, outcome_of, job_of}
use Rattle.r4k_top.specs.Answers.{status_of, IsRefusal}
use Rattle.r4k_top.specs.Clauses.{OfFile, ComesTo, EndsWith}
use Rattle.r4k_top.specs.Making.{refused_status, MayStop, RefusedAs, GivenRefusedAs, Accepted, AllAccepted, OfGiven, OfScript, fetches, IsSetup, MadeOf, StoppedWith}

some_same : {A : Type 0} (a b : A) → Some a ≡ Some b → a ≡ b
some_same a b e = cc

-- A fact of what some files come to, with a job behind them, where the files are told.
abbrev pub Over : Option Files → List Wanted → ((List ℕ → List ℕ) → End) → (Outcome → Type 0) → Type 0
Over None files job P = Unit {0}
Over (Some held) files job P = P (outcome_over (file_of held) files (job (file_of held)))

-- one fetch more
abbrev pub fetched : Wanted → Outcome → Outcome
fetched file rest = record { fetches = fetch_of file.name ∷ rest.fetches; end = rest.end }

-- all of these fetches more
abbrev pub fetched_all : List Wanted → Outcome → Outcome
fetched_all files rest = record { fetches = map (λ f. fetch_of f.name) files ++ rest.fetches; end = rest.end }

-- an accepted file
accepted : (held : Option Files) (file : Wanted) (files : List Wanted) (job : (List ℕ → List ℕ) → End) (P : Outcome → Type 0) →
    Accepted held file → Over held files job (λ rest. P (fetched file rest)) → Over held (file ∷ files) job P
accepted None file files job P is p = tt
accepted (Some held) file files job P is p =
    subst (λ refusal. P (after_fetch (fetch_of file.name) refusal (outcome_over (file_of held) files (job (file_of held))))) (sym is) p

-- accepted files before others
accepted_all : (held : Option Files) (front files : List Wanted) (job : (List ℕ → List ℕ) → End) (P : Outcome → Type 0) →
    AllAccepted held front → Over held files job (λ rest. P (fetched_all front rest)) → Over held (front ++ files) job P
accepted_all held [] files job P are p = p
accepted_all held (file ∷ front) files job P are p =
    accepted held file (front ++ files) job P are.0 (accepted_all held front files job (λ rest. P (fetched file rest)) are.1 p)

refused_end : (fetch : Call) (refusal : Option Refusal) (rest : Outcome) (answer : Status) → refused_status refusal ≡ Some answer →
    (answer ≡ status_of (after_fetch fetch refusal rest).end) × ((after_fetch fetch refusal rest).fetches ≡ fetch ∷ [])
refused_end fetch None rest answer is = cc
refused_end fetch (Some refusal) rest answer is = (cc, refl)

-- a refused file
pub refused : (held : Option Files) (file : Wanted) (files : List Wanted) (job : (List ℕ → List ℕ) → End) (answer : Status) →
    RefusedAs held file answer →
    Over held (file ∷ files) job (λ all. (answer ≡ status_of all.end) × (all.fetches ≡ fetch_of file.name ∷ []))
refused None file files job answer is = tt
refused (Some held) file files job answer is =
    refused_end (fetch_of file.name) (refusal_of file (file_of held file.name)) (outcome_over (file_of held) files (job (file_of held))) answer is

-- what holds of the files of a command holds of what it comes to
pub come_to : (command : Command) (held : Option Files) (P : Outcome → Type 0) →
    Over held (wanted_of command) (job_of command) P → ComesTo (Some command) held P
unfolding outcome_of
come_to command None P p = tt
come_to command (Some files) P p = p

-- a weaker fact
pub weaker : (said : Option Command) (held : Option Files) (P Q : Outcome → Type 0) → ((o : Outcome) → P o → Q o) → ComesTo said held P → ComesTo said held Q
weaker said None P Q f p = tt
weaker said (Some files) P Q f p = f (outcome_of said (file_of files)) p

over_weaker : (held : Option Files) (files : List Wanted) (job : (List ℕ → List ℕ) → End) (P Q : Outcome → Type 0) →
    ((o : Outcome) → P o → Q o) → Over held files job P → Over held files job Q
over_weaker None files job P Q f p = tt
over_weaker (Some held) files job P Q f p = f (outcome_over (file_of held) files (job (file_of held))) p

-- THE ANSWERS OF A READER AND OF A JOB

may_stop : (unread unread' : Type 0) (P Q : Status → Type 0) (answer : Status) → (unread → unread') → ((s : Status) → P s → Q s) → MayStop unread P answer → MayStop unread' Q answer
may_stop u v P Q status.Done r f m = absurd m
may_stop u v P Q (status.Breach event breach) r f m = absurd m
may_stop u v P Q status.Usage r f m = absurd m
may_stop u v P Q status.ReadFault r f m = r m
may_stop u v P Q status.WriteFault r f m = absurd m
may_stop u v P Q (status.BadImage rule offset) r f m = f (status.BadImage rule offset) m
may_stop u v P Q (status.BadScript line reason) r f m = f (status.BadScript line reason) m
may_stop u v P Q (status.BadSource line reason) r f m = f (status.BadSource line reason) m
may_stop u v P Q status.Memory r f m = tt
may_stop u v P Q (status.BadTrace line) r f m = f (status.BadTrace line) m
may_stop u v P Q status.TooLong r f m = f status.TooLong m

-- of a refusal the fact holds
refusal_has : (unread : Type 0) (P : Status → Type 0) (answer : Status) → MayStop unread P answer → IsRefusal answer → P answer
refusal_has u P status.Done m is = absurd m
refusal_has u P (status.Breach event breach) m is = absurd m
refusal_has u P status.Usage m is = absurd m
refusal_has u P status.ReadFault m is = absurd is
refusal_has u P status.WriteFault m is = absurd m
refusal_has u P (status.BadImage rule offset) m is = m
refusal_has u P (status.BadScript line reason) m is = m
refusal_has u P (status.BadSource line reason) m is = m
refusal_has u P status.Memory m is = absurd is
refusal_has u P (status.BadTrace line) m is = m
refusal_has u P status.TooLong m is = m

-- a file of a command is refused, behind files that are accepted
refused_behind : (command : Command) (front : List Wanted) (file : Wanted) (files : List Wanted) (held : Option Files) (answer : Status) →
    wanted_of command ≡ front ++ file ∷ files → AllAccepted held front → RefusedAs held file answer →
    ComesTo (Some command) held (λ o. (answer ≡ status_of o.end) × (o.fetches ≡ fetches front ++ fetch_of file.name ∷ []))
refused_behind command front file files held answer are all is =
    come_to command held (λ o. (answer ≡ status_of o.end) × (o.fetches ≡ fetches front ++ fetch_of file.name ∷ []))
    (subst (λ wanted. Over held wanted (job_of command) (λ o. (answer ≡ status_of o.end) × (o.fetches ≡ fetches front ++ fetch_of file.name ∷ []))) (sym are)
    (accepted_all held front (file ∷ files) (job_of command) (λ o. (answer ≡ status_of o.end) × (o.fetches ≡ fetches front ++ fetch_of file.name ∷ [])) all
    (over_weaker held (file ∷ files) (job_of command) _ _ (λ o p. (p.0, ap (λ calls. fetches front ++ calls) p.1))
    (refused held file files (job_of command) answer is))))

fetches_cut : (command : Command) (front : List Wanted) (file : Wanted) (files : List Wanted) → wanted_of command ≡ front ++ file ∷ files →
    (fetches front ++ fetch_of file.name ∷ []) ++ fetches files ≡ fetches_of (Some command)
fetches_cut command front file files are =
    append_assoc (fetches front) (fetch_of file.name ∷ []) (fetches files)
    ∙ sym (map-append (λ (f : Wanted). fetch_of f.name) front (file ∷ files)) ∙ ap fetches (sym are)

-- a reader's answer where it reads no file, behind files that were read
pub stopped_reading : (command : Command) (front : List Wanted) (file : Wanted) (files : List Wanted) (held : Option Files) (before now : Option (List Call)) (unread : Type 0) (answer : Status) →
    wanted_of command ≡ front ++ file ∷ files → AllAccepted held front → Appended before now (fetches front ++ fetch_of file.name ∷ []) →
    MayStop unread (RefusedAs held file) answer → StoppedWith (Some command) held before now unread answer
stopped_reading command front file files held before now unread answer are all asked stop = record {
  answer = may_stop unread unread (RefusedAs held file) (EndsWith (Some command) held) answer (λ rose. rose)
      (λ s is. weaker (Some command) held _ (λ o. s ≡ status_of o.end) (λ o p. p.0) (refused_behind command front file files held s are all is)) stop;
  calls = record {
    made = fetches front ++ fetch_of file.name ∷ [];
    rest = fetches files;
    split = fetches_cut command front file files are;
    told = asked;
  };
  up_to = λ is. weaker (Some command) held _ (λ o. Appended before now o.fetches) (λ o p. subst (Appended before now) (sym p.1) asked)
      (refused_behind command front file files held answer are all (refusal_has unread (RefusedAs held file) answer stop is));
}

-- a reader's answer where it reads no file that may be left out, behind files that were read
pub stopped_given : (command : Command) (front : List Wanted) (kind : List ℕ → Wanted) (name : Option (List ℕ)) (files : List Wanted) (held : Option Files) (before now : Option (List Call)) (unread : Type 0) (answer : Status) →
    wanted_of command ≡ front ++ (if_given kind name ++ files) → AllAccepted held front → Appended before now (fetches front ++ fetches (if_given kind name)) →
    MayStop unread (GivenRefusedAs held kind name) answer → StoppedWith (Some command) held before now unread answer
stopped_given command front kind None files held before now unread answer are all asked stop = record {
  answer = may_stop unread unread (λ s. ⊥) (EndsWith (Some command) held) answer (λ rose. rose) (λ s no. absurd no) stop;
  calls = record {
    made = fetches front ++ [];
    rest = fetches files;
    split = append_assoc (fetches front) [] (fetches files)
        ∙ sym (map-append (λ (f : Wanted). fetch_of f.name) front files) ∙ ap fetches (sym are);
    told = asked;
  };
  up_to = λ is. absurd (refusal_has unread (λ s. ⊥) answer stop is);
}
stopped_given command front kind (Some name) files held before now unread answer are all asked stop =
    stopped_reading command front (kind name) files held before now unread answer are all asked stop

-- calls after calls
pub calls_then : (a b c : Option (List Call)) (x y : List Call) → Appended a b x → Appended b c y → Appended a c (x ++ y)
calls_then a b None x y p q = tt
calls_then (Some a) (Some b) (Some c) x y p q = q ∙ ap (λ s. s ++ y) p ∙ append_assoc a x y
calls_then None (Some b) (Some c) x y p q = p
calls_then a None (Some c) x y p q = absurd q

-- a count that rose since later rose since earlier
rose_before : (a b c : ℕ) → a ≤ b → Rose b c → Rose a c
rose_before a b c earlier rose = omega arith

-- the next reader's answer where it reads no file, behind files that were read, by the shelf as they left it
pub stopped_next : (command : Command) (front : List Wanted) (kind : List ℕ → Wanted) (name : Option (List ℕ)) (files : List Wanted) (held held' : Option Files)
    (before between now : Option (List Call)) (faults faults' faults'' : ℕ) (answer : Status) →
    wanted_of command ≡ front ++ (if_given kind name ++ files) → AllAccepted held front → held' ≡ held → faults ≤ faults' →
    Appended before between (fetches front) → Appended between now (fetches (if_given kind name)) →
    MayStop (Rose faults' faults'') (GivenRefusedAs held' kind name) answer → StoppedWith (Some command) held before now (Rose faults faults'') answer
stopped_next command front kind name files held held' before between now faults faults' faults'' answer are all same earlier asked asked' stop =
    stopped_given command front kind name files held before now (Rose faults faults'') answer are all
    (calls_then before between now (fetches front) (fetches (if_given kind name)) asked asked')
    (may_stop (Rose faults' faults'') (Rose faults faults'') (GivenRefusedAs held' kind name) (GivenRefusedAs held kind name) answer (rose_before faults faults' faults'' earlier)
    (λ s is. subst (λ h. GivenRefusedAs h kind name s) same is) stop)

-- accepted files, and more of them
pub accepted_more : (held : Option Files) (front files : List Wanted) → AllAccepted held front → AllAccepted held files → AllAccepted held (front ++ files)
accepted_more held [] files some more = more
accepted_more held (file ∷ front) files some more = (some.0, accepted_more held front files some.1 more)

-- want of memory is no refusal of the command
pub out_of_memory : (said : Option Command) (held : Option Files) (before now : Option (List Call)) (unread : Type 0) (answer : Status) →
    Appended before now (fetches_of said) → answer ≡ status.Memory → StoppedWith said held before now unread answer
out_of_memory said held before now unread answer asked is =
    subst (StoppedWith said held before now unread) (sym is)
    (record {
      answer = tt;
      calls = record { made = fetches_of said; rest = []; split = append-nil (fetches_of said); told = asked };
      up_to = λ no. absurd no;
    })

over_end : (held : Option Files) (files : List Wanted) (job : (List ℕ → List ℕ) → End) (end : End) →
    AllAccepted held files → ((told : Files) → held ≡ Some told → job (file_of told) ≡ end) →
    Over held files job (λ o. (o.end ≡ end) × (o.fetches ≡ fetches files))
over_end None [] job end all ends = tt
over_end (Some told) [] job end all ends = (ends told refl, refl)
over_end held (file ∷ files) job end all ends =
    accepted held file files job (λ o. (o.end ≡ end) × (o.fetches ≡ fetches (file ∷ files))) all.0
    (over_weaker held files job _ _ (λ o p. (p.0, ap (λ calls. fetch_of file.name ∷ calls) p.1)) (over_end held files job end all.1 ends))

-- what a command comes to with all its files accepted
pub all_accepted : (command : Command) (held : Option Files) (end : End) →
    AllAccepted held (wanted_of command) → ((told : Files) → held ≡ Some told → job_of command (file_of told) ≡ end) →
    ComesTo (Some command) held (λ o. (o.end ≡ end) × (o.fetches ≡ fetches_of (Some command)))
all_accepted command held end all ends =
    come_to command held (λ o. (o.end ≡ end) × (o.fetches ≡ fetches_of (Some command)))
    (over_end held (wanted_of command) (job_of command) end all ends)

-- what is made of it
pub made_of : (said : Option Command) (held : Option Files) (before now : Option (List Call)) (made : Made) →
    ComesTo said held (λ o. (o.end ≡ Makes made) × (o.fetches ≡ fetches_of said)) → file_name made.file ≡ out_name said →
    Appended before now (fetches_of said) → MadeOf said held before now made
made_of said held before now made came named asked = record {
  came = weaker said held _ (λ o. o.end ≡ Makes made) (λ o p. p.0) came;
  named = named;
  calls = asked;
}

-- THE THREE FILES OF A RUN, each read by the shelf as the one before left it

-- the setup that they make
pub setup_of : (held held' held'' : Option Files) (plan : Plan) (image : List ℕ) (inputs : List Input) (disk : List ℕ) → held' ≡ held → held'' ≡ held' →
    OfFile held plan.image (λ bytes. image ≡ bytes) → OfScript held' plan.script inputs → OfGiven held'' plan.disk (λ bytes. disk ≡ bytes) → IsSetup held plan image inputs disk
setup_of held held' held'' plan image inputs disk e f first second third = record {
  image_is = first;
  inputs_are = subst (λ h. OfScript h plan.script inputs) e second;
  disk_is = subst (λ h. OfGiven h plan.disk (λ bytes. disk ≡ bytes)) (f ∙ e) third;
}

-- none is refused
pub accepted_two : (held held' : Option Files) (plan : Plan) → held' ≡ held → Accepted held (an_image plan.image) → AllAccepted held' (if_given a_script plan.script) →
    AllAccepted held (an_image plan.image ∷ if_given a_script plan.script)
accepted_two held held' plan e first second = (first, subst (λ h. AllAccepted h (if_given a_script plan.script)) e second)

pub accepted_three : (held held' held'' : Option Files) (plan : Plan) → held' ≡ held → held'' ≡ held' → Accepted held (an_image plan.image) →
    AllAccepted held' (if_given a_script plan.script) → AllAccepted held'' (if_given a_disk plan.disk) → AllAccepted held (wanted_by plan)
accepted_three held held' held'' plan e f first second third = (
  first,
  accepted_more held (if_given a_script plan.script) (if_given a_disk plan.disk)
      (subst (λ h. AllAccepted h (if_given a_script plan.script)) e second) (subst (λ h. AllAccepted h (if_given a_disk plan.disk)) (f ∙ e) third),
)

-- the calls of the shelf
pub asked_three : (plan : Plan) (a b c d : Option (List Call)) → Appended a b (fetch_of plan.image ∷ []) → Appended b c (fetches (if_given a_script plan.script)) →
    Appended c d (fetches (if_given a_disk plan.disk)) → Appended a d (fetches (wanted_by plan))
asked_three plan a b c d first second third =
    subst (λ calls. Appended a d (fetch_of plan.image ∷ calls)) (sym (map-append (λ (f : Wanted). fetch_of f.name) (if_given a_script plan.script) (if_given a_disk plan.disk)))
    (calls_then a b d (fetch_of plan.image ∷ []) (fetches (if_given a_script plan.script) ++ fetches (if_given a_disk plan.disk)) first
    (calls_then b c d (fetches (if_given a_script plan.script)) (fetches (if_given a_disk plan.disk)) second third))

-- a fact of what is Ok
pub if_ok : {A E : Type 0} (P Q : A → Type 0) (result : Result A E) → ((a : A) → P a → Q a) → IfOk result P → IfOk result Q
if_ok P Q (Ok a) f p = f a p
if_ok P Q (Err e) f p = tt

-- a fact of what is Err
pub if_err : {A E : Type 0} (P Q : E → Type 0) (result : Result A E) → ((e : E) → P e → Q e) → IfErr result P → IfErr result Q
if_err P Q (Ok a) f p = tt
if_err P Q (Err e) f p = f e p

-- a fact of a file that is told
pub of_told : (held : Option Files) (name : List ℕ) (P : List ℕ → Type 0) → OfFile held name P → (files : Files) → held ≡ Some files → P (file_of files name)
of_told None name P is files told = cc
of_told (Some own) name P is files told = subst (λ f. P (file_of f name)) (some_same own files told) is

-- a fact of a file that may be left out, and that is told
pub given_told : (held : Option Files) (name : Option (List ℕ)) (P : List ℕ → Type 0) → OfGiven held name P → (files : Files) → held ≡ Some files → P (bytes_given (file_of files) name)
given_told held None P is files told = is
given_told held (Some name) P is files told = of_told held name P is files told

-- what a script says that may be left out, and that is told
pub script_told : (held : Option Files) (name : Option (List ℕ)) (inputs : List Input) → OfScript held name inputs → (files : Files) → held ≡ Some files → script_given (file_of files) name ≡ Inputs inputs
script_told held None inputs is files told = ap Inputs (sym is)
script_told held (Some name) inputs is files told = of_told held name (λ bytes. script_text bytes ≡ Inputs inputs) is files told

-- the run of a setup is that of the plan's files
pub setup_told : (held : Option Files) (plan : Plan) (image : List ℕ) (inputs : List Input) (disk : List ℕ) → IsSetup held plan image inputs disk →
    (files : Files) → held ≡ Some files → job_of (Run plan) (file_of files) ≡ run_job plan.telling plan.shape plan.steps (disk_out plan.disk) (reset_of plan.shape boot_prom image disk inputs)
setup_told held plan image inputs disk is files told =
    let a = of_told held plan.image (λ bytes. image ≡ bytes) is.image_is files told in
    let b = script_told held plan.script inputs is.inputs_are files told in
    let c = given_told held plan.disk (λ bytes. disk ≡ bytes) is.disk_is files told in
    ap (run_by boot_prom plan (file_of files plan.image) (bytes_given (file_of files) plan.disk)) b
    ∙ ap (λ (i : List ℕ). run_job plan.telling plan.shape plan.steps (disk_out plan.disk) (reset_of plan.shape boot_prom i (bytes_given (file_of files) plan.disk) inputs)) (sym a)
    ∙ ap (λ (d : List ℕ). run_job plan.telling plan.shape plan.steps (disk_out plan.disk) (reset_of plan.shape boot_prom image d inputs)) (sym c)

-- the name of a named file
name_of_file : (out : Option (List ℕ)) (bytes : List ℕ) → file_name (named_file out bytes) ≡ out
name_of_file None bytes = refl
name_of_file (Some name) bytes = refl

pub made_here : (a b : Made) → Makes a ≡ Makes b → file_name a.file ≡ file_name b.file
made_here a b e = ap (λ (made : Made). file_name made.file) (made_same a b e)
  where
    made_same : (a b : Made) → Makes a ≡ Makes b → a ≡ b
    made_same a b e = cc

-- a run makes a file of the name that it was given, whatever it tells
told_file : (telling : Telling) (shape : Numbers) (out : Option (List ℕ)) (events : List Event) (machine : MachineState) (made : Made) →
    told telling shape out events machine ≡ Makes made → file_name made.file ≡ out
told_file telling.Report shape out events machine made e = sym (made_here _ made e) ∙ name_of_file out (shown_of machine).disk
told_file telling.Verdict shape out events machine made e = sym (made_here _ made e) ∙ name_of_file out (shown_of machine).disk
told_file telling.Trace shape out events machine made e = sym (made_here _ made e) ∙ name_of_file out (shown_of machine).disk

pub disk_alone : (telling : Telling) (shape : Numbers) (steps : ℕ) (out : Option (List ℕ)) (machine : MachineState) (made : Made) →
    run_job telling shape steps out machine ≡ Makes made → file_name made.file ≡ out
unfolding run_job
disk_alone telling shape steps out machine made e = told_file telling shape out (trace_from steps machine) (run_from steps machine).machine made e

-- what `?` hands on is the error that came
pub handed_on : {A E : Type 0} (P : E → Type 0) (result : Result A E) (error : E) → IsErrAnd result (λ e. e ≡ error) → P error → IfErr result P
handed_on P (Ok a) error is p = tt
handed_on P (Err e) error is p = subst P (sym is) p
