-- What the steps of the top call promise each other: a reader of a file, what a command makes, and its delivery.
use Rattle.std.specs.Prelude.{◌≡◌, ℕ, Bool, true, ◌⊎◌, List, [], ◌∷◌, map, Option, Some, None, IsNone}
use Rattle.r4_ports.specs.Told.{Files, Call, fetch_of, Appended, AppendedPrefix, Rose}
use Rattle.input_script.specs.declared.inputs.Input.{Input}
use Rattle.input_script.specs.Grammar.{Inputs, script_text}
use Rattle.r4k_top.specs.declared.statuses.Status.{Status}
use Rattle.r4k_top.specs.declared.statuses.Status.TheVariants as status
use Rattle.r4k_top.specs.Command.{Plan, Command, out_name}
use Rattle.r4k_top.specs.Wanted.{Refusal, Wanted, refusal_of, fetches_of, puts_to}
use Rattle.access_trace.specs.declared.event.Verdict.{Verdict}
use Rattle.r4k_top.specs.Outcome.{File, file_name, Made, Makes}
use Rattle.r4k_top.specs.Answers.{status_of_refusal, status_of_verdict, IsRefusal, IsComplete}
use Rattle.r4k_top.specs.Clauses.{OfFile, ComesTo, EndsWith, HasPut, PutRose, OthersStay, AskedPrefix, AskedUpTo}

-- Which answers may come where a command makes nothing: of a refusal the fact holds.
abbrev pub MayStop : Type 0 → (Status → Type 0) → Status → Type 0
MayStop unread ends status.Done = ⊥
MayStop unread ends (status.Breach event breach) = ⊥
MayStop unread ends status.Usage = ⊥
MayStop unread ends status.WriteFault = ⊥
MayStop unread ends status.Memory = Unit {0}
MayStop unread ends status.ReadFault = unread
MayStop unread ends answer = ends answer

-- the status with which a file is refused, where it is
abbrev pub refused_status : Option Refusal → Option Status
refused_status None = None
refused_status (Some refusal) = Some (status_of_refusal refusal)

-- a file is refused with this status
abbrev pub RefusedAs : Option Files → Wanted → Status → Type 0
RefusedAs held file status = OfFile held file.name (λ bytes. refused_status (refusal_of file bytes) ≡ Some status)

-- a file is not refused
abbrev pub Accepted : Option Files → Wanted → Type 0
Accepted held file = OfFile held file.name (λ bytes. refusal_of file bytes ≡ None)

-- none of these files is refused
abbrev pub AllAccepted : Option Files → List Wanted → Type 0
AllAccepted held [] = Unit {0}
AllAccepted held (file ∷ files) = Accepted held file × AllAccepted held files

-- a file that may be left out is given, and is refused with this status
abbrev pub GivenRefusedAs : Option Files → (List ℕ → Wanted) → Option (List ℕ) → Status → Type 0
GivenRefusedAs held kind None status = ⊥
GivenRefusedAs held kind (Some name) status = RefusedAs held (kind name) status

-- a fact of the bytes of a file that may be left out: of no bytes where no name is given
abbrev pub OfGiven : Option Files → Option (List ℕ) → (List ℕ → Type 0) → Type 0
OfGiven held None P = P []
OfGiven held (Some name) P = OfFile held name P

-- the inputs of a script that may be left out: none where no name is given
abbrev pub OfScript : Option Files → Option (List ℕ) → List Input → Type 0
OfScript held None inputs = inputs ≡ []
OfScript held (Some name) inputs = OfFile held name (λ bytes. script_text bytes ≡ Inputs inputs)

-- the fetches of files
abbrev pub fetches : List Wanted → List Call
fetches files = map (λ f. fetch_of f.name) files

-- what a run is made of: the image, the inputs of its script, and its disk
pub record IsSetup (held : Option Files) (plan : Plan) (image : List ℕ) (inputs : List Input) (disk : List ℕ) : Type 0 where
  pub image_is : OfFile held plan.image (λ bytes. image ≡ bytes)
  pub inputs_are : OfScript held plan.script inputs
  pub disk_is : OfGiven held plan.disk (λ bytes. disk ≡ bytes)

-- all files were fetched, and this is made of them
pub record MadeOf (said : Option Command) (held : Option Files) (before now : Option (List Call))
    (made : Made) : Type 0 where
  pub came : ComesTo said held (λ outcome. outcome.end ≡ Makes made)
  pub named : file_name made.file ≡ out_name said
  pub calls : Appended before now (fetches_of said)

-- nothing is made, and the answer says why; a refusal comes after the fetches up to the file that is refused
pub record StoppedWith (said : Option Command) (held : Option Files) (before now : Option (List Call))
    (unread : Type 0) (status : Status) : Type 0 where
  pub answer : MayStop unread (EndsWith said held) status
  pub calls : AskedPrefix before now (fetches_of said)
  pub up_to : IsRefusal status → AskedUpTo said held before now

-- the answers that come after something was made
abbrev pub IsLate : Status → Type 0
IsLate status.Done = Unit {0}
IsLate (status.Breach event breach) = Unit {0}
IsLate status.WriteFault = Unit {0}
IsLate answer = ⊥

-- the put of what was made failed, after the whole text had been written and had gone out
pub record PutAfter (made : Made) (text_before text_now : Option (List ℕ)) (is_flushed : Bool)
    (asked_before asked : Option (List Call)) (before now : ℕ) : Type 0 where
  pub text : Appended text_before text_now made.text
  pub flushed : is_flushed ≡ true
  pub calls : Appended asked_before asked (puts_to (file_name made.file))
  pub rose : PutRose (file_name made.file) before now

-- The end of a delivery, whose text has gone out: the file is put, if there is one, and the answer is that of the verdict, or that
-- the put failed. Without a file the shelf stays; with one, its other files do.
pub record Placed {S : Type 0} (held : S → Option Files) (asked : S → Option (List Call)) (puts : S → ℕ) (before now : S)
    (verdict : Option Verdict) (file : Option File) (answer : Status) : Type 0 where
  pub late : IsLate answer
  pub verdict_is : IsComplete answer → answer ≡ status_of_verdict verdict
  pub put : IsComplete answer → HasPut (held before) (held now) file
  pub calls : Appended (asked before) (asked now) (puts_to (file_name file))
  pub rose : answer ≡ status.WriteFault → PutRose (file_name file) (puts before) (puts now)
  pub none : IsNone file → now ≡ before
  pub others : OthersStay (file_name file) (held before) (held now)

-- What a delivery does with the ports: from a shelf before it to the shelf after it, by what the sink tells before and after,
-- whether all has gone out then, and its counts of faults.
pub record Delivered {S : Type 0} (held : S → Option Files) (asked : S → Option (List Call)) (puts : S → ℕ) (before now : S)
    (text_before text_now : Option (List ℕ)) (is_flushed : Bool) (faults_before faults : ℕ) (made : Made)
    (answer : Status) : Type 0 where
  -- it ends complete, by the verdict, or with a failure
  pub late : IsLate answer
  pub verdict : IsComplete answer → answer ≡ status_of_verdict made.verdict
  -- complete, after the whole text was written and has gone out, and the file was put
  pub written : IsComplete answer → Appended text_before text_now made.text
  pub flushed : IsComplete answer → is_flushed ≡ true
  pub put : IsComplete answer → HasPut (held before) (held now) made.file
  pub asked_put : IsComplete answer → Appended (asked before) (asked now) (puts_to (file_name made.file))
  -- a failure, of a write or of the flush, after a prefix of the text, and then the shelf stays; or of the put, after the whole text
  pub prefix : answer ≡ status.WriteFault → AppendedPrefix text_before text_now made.text
  pub cause : answer ≡ status.WriteFault → Rose faults_before faults ⊎ PutRose (file_name made.file) (puts before) (puts now)
  pub stops : answer ≡ status.WriteFault → (Rose faults_before faults × (now ≡ before))
      ⊎ PutAfter made text_before text_now is_flushed (asked before) (asked now) (puts before) (puts now)
  -- without a file the shelf stays; with one, its other files do
  pub none : IsNone made.file → now ≡ before
  pub others : OthersStay (file_name made.file) (held before) (held now)
