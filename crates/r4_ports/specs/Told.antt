-- What a shelf of files and a sink of bytes tell of themselves, and how one call changes it.
--
-- A port may tell its content or keep silent on it, so each content is an option: `Some` is told, `None` is
-- not. What is not told now is told never again. Source: this project's own rules for its outside.
use Rattle.std.specs.Prelude.{◌≡◌, ◌≤◌, ◌+◌, ◌-◌, ◌^◌, ℕ, min, List, [], ◌++◌, take, Option, Some, None, Result, OnErr, unwrap_or}
use Rattle.std.specs.Ordering.{nat_cmp}
use Rattle.std.specs.Cmp.Lexicographic.{slice_cmp}
use Rattle.std.specs.FinMap.{FinMap, get, insert}
use Rattle.r4_ports.specs.declared.CallKind.{CallKind}
use Rattle.r4_ports.specs.declared.CallKind.TheVariants.{Fetch, Put}

-- files: a finite map from their names to their bytes
abbrev pub Files : Type 0
Files = FinMap (slice_cmp nat_cmp) (List ℕ)

-- the bytes of the file with this name; a file that is missing has none
abbrev pub file_of : Files → List ℕ → List ℕ
file_of files name = unwrap_or (get files name) []

-- one call of a shelf: what it asked for, and of which name
pub record Call : Type 0 where
  pub kind : CallKind
  pub name : List ℕ

-- a fetch of this name
abbrev pub fetch_of : List ℕ → Call
fetch_of name = record { kind = Fetch; name = name }

-- a put to this name
abbrev pub put_of : List ℕ → Call
put_of name = record { kind = Put; name = name }

-- a count of faults rose; one that stands at the end of its type counts as risen
abbrev pub Rose : ℕ → ℕ → Type 0
Rose before now = min (before + 1) (2 ^ 64 - 1) ≤ now

-- a count of faults never falls, and the call failed only where it rose
pub record HasCause {T E : Type 0} (before now : ℕ) (result : Result T E) : Type 0 where
  pub never_falls : before ≤ now
  pub on_err : OnErr result (Rose before now)

-- where the list is told now, it was told before, and these items were appended to it
abbrev pub Appended : {A : Type 0} → Option (List A) → Option (List A) → List A → Type 0
Appended before None items = Unit {0}
Appended (Some before) (Some now) items = now ≡ before ++ items
Appended None (Some now) items = ⊥

-- a prefix of the text was appended: its front, while the rest was not
pub record AppendedPrefix (before now : Option (List ℕ)) (text : List ℕ) : Type 0 where
  pub front : List ℕ
  pub rest : List ℕ
  pub is_text : front ++ rest ≡ text
  pub appended : Appended before now front

-- the bytes are the file's first bytes, at most so many, where the files are told
abbrev pub Fetched : Option Files → List ℕ → ℕ → List ℕ → Type 0
Fetched None name cap bytes = Unit {0}
Fetched (Some files) name cap bytes = bytes ≡ take cap (file_of files name)

-- where the files are told now, they were told before, and this name alone was set, to these bytes
abbrev pub PutInto : Option Files → Option Files → List ℕ → List ℕ → Type 0
PutInto before None name bytes = Unit {0}
PutInto (Some before) (Some now) name bytes = now ≡ insert before name bytes
PutInto None (Some now) name bytes = ⊥
