-- What the table of answers is made of: what the words come to, what was written and put, and the calls of the shelf. Where the
-- shelf does not tell what it holds, nothing is said of what the words come to; where the sink does not tell what was written,
-- nothing of the text. A name that a told shelf lacks is an empty file.
use Rattle.std.specs.Prelude.{◌≡◌, ◌≢◌, ℕ, List, ◌++◌, Option, Some, None}
use Rattle.std.specs.FinMap.{get}
use Rattle.r4_ports.specs.Told.{Files, Call, file_of, Appended, AppendedPrefix, PutInto, Rose}
use Rattle.r4k_top.specs.declared.statuses.Status.{Status}
use Rattle.r4k_top.specs.Command.{Command}
use Rattle.r4k_top.specs.Outcome.{File, Made, End, Makes, Refuses, Outcome, outcome_of}
use Rattle.r4k_top.specs.Answers.{status_of}

-- WHAT THE WORDS COME TO

-- a fact of the bytes of a file, where the files are told
abbrev pub OfFile : Option Files → List ℕ → (List ℕ → Type 0) → Type 0
OfFile None name P = Unit {0}
OfFile (Some files) name P = P (file_of files name)

-- a fact of what the words come to over the files that are held, where they are told
abbrev pub ComesTo : Option Command → Option Files → (Outcome → Type 0) → Type 0
ComesTo said None P = Unit {0}
ComesTo said (Some files) P = P (outcome_of said (file_of files))

-- this is the status of what the words come to
abbrev pub EndsWith : Option Command → Option Files → Status → Type 0
EndsWith said held status = ComesTo said held (λ outcome. status ≡ status_of outcome.end)

-- what is made, where something is, has the fact
abbrev pub IfMade : (Made → Type 0) → End → Type 0
IfMade P (Makes made) = P made
IfMade P (Refuses refusal) = ⊥

-- WHAT WAS WRITTEN AND PUT

-- the whole text was appended
abbrev pub Written : Option (List ℕ) → Option (List ℕ) → Outcome → Type 0
Written before now outcome = IfMade (λ made. Appended before now made.text) outcome.end

-- a prefix of the text was appended
abbrev pub WrittenPrefix : Option (List ℕ) → Option (List ℕ) → Outcome → Type 0
WrittenPrefix before now outcome = IfMade (λ made. AppendedPrefix before now made.text) outcome.end

-- the file was put, and nothing where there is none
abbrev pub HasPut : Option Files → Option Files → Option File → Type 0
HasPut before now None = now ≡ before
HasPut before now (Some file) = PutInto before now file.name file.bytes

-- the file that is made was put
abbrev pub FilePut : Option Files → Option Files → Outcome → Type 0
FilePut before now outcome = IfMade (λ made. HasPut before now made.file) outcome.end

-- a file is put under the name, if there is one, and the count of failed puts rose
abbrev pub PutRose : Option (List ℕ) → ℕ → ℕ → Type 0
PutRose None before now = ⊥
PutRose (Some name) before now = Rose before now

-- where the files are told now, they were told before, and each file but the one of this name is as it was
abbrev pub OthersStay : Option (List ℕ) → Option Files → Option Files → Type 0
OthersStay put before None = Unit {0}
OthersStay put (Some before) (Some now) = (name : List ℕ) → put ≢ Some name → get now name ≡ get before name
OthersStay put None (Some now) = ⊥

-- THE CALLS OF THE SHELF

-- a prefix of these calls was made of a shelf
pub record AskedPrefix (before now : Option (List Call)) (calls : List Call) : Type 0 where
  pub made : List Call
  pub rest : List Call
  pub split : made ++ rest ≡ calls
  pub told : Appended before now made

-- the calls are the fetches of what the words come to: up to the file that is refused, and no more
abbrev pub AskedUpTo : Option Command → Option Files → Option (List Call) → Option (List Call) → Type 0
AskedUpTo said held before now = ComesTo said held (λ outcome. Appended before now outcome.fetches)
