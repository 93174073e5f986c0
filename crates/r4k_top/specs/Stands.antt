-- What stands outside after each answer of the top call, as one table: the answer alone says which row holds. A call that is answered
-- with a failure of a write may have been of either of two kinds, and of nothing else.
-- Source: this project's own.
use Rattle.std.specs.Prelude.{◌≡◌, ℕ, Bool, true, ◌⊎◌, List, Option, IsNone}
use Rattle.r4_ports.specs.Told.{Files, Call, Appended, Rose}
use Rattle.r4k_top.specs.declared.statuses.Status.{Status}
use Rattle.r4k_top.specs.declared.statuses.Status.TheVariants as status
use Rattle.r4k_top.specs.Command.{Command, out_name}
use Rattle.r4k_top.specs.Wanted.{fetches_of, calls_of}
use Rattle.r4k_top.specs.Clauses.{ComesTo, Written, WrittenPrefix, FilePut, PutRose, OthersStay, AskedPrefix, AskedUpTo}

-- What a shelf and a sink tell of themselves: the files that the shelf holds, the calls that were made of it, and its count of puts that
-- failed; what was written to the sink, whether all of it has gone out, and its count of writes that failed.
pub record Ports (S K : Type 0) : Type 0 where
  pub held : S → Option Files
  pub asked : S → Option (List Call)
  pub put_faults : S → ℕ
  pub written : K → Option (List ℕ)
  pub is_flushed : K → Bool
  pub faults : K → ℕ

-- a shelf beside a sink
pub record Outside (S K : Type 0) : Type 0 where
  pub shelf : S
  pub sink : K

-- The words are no command: nothing is touched.
pub record Untouched {S K : Type 0} (before after : Outside S K) : Type 0 where
  pub shelf : after.shelf ≡ before.shelf
  pub sink : after.sink ≡ before.sink

-- No file is put: the files are as they were, and no put has failed.
pub record NothingPut {S K : Type 0} (ports : Ports S K) (before after : Outside S K) : Type 0 where
  pub files : ports.held after.shelf ≡ ports.held before.shelf
  pub no_put : ports.put_faults after.shelf ≡ ports.put_faults before.shelf

-- Nothing is made: nothing is written and nothing put, and the calls of the shelf are the first of the fetches that the command wants.
pub record NothingMade {S K : Type 0} (ports : Ports S K) (said : Option Command) (before after : Outside S K) : Type 0 where
  pub sink : after.sink ≡ before.sink
  pub put : NothingPut ports before after
  pub fetches : AskedPrefix (ports.asked before.shelf) (ports.asked after.shelf) (fetches_of said)

-- A file is refused: nothing is made, and the calls are the fetches up to that file.
pub record FileRefused {S K : Type 0} (ports : Ports S K) (said : Option Command) (before after : Outside S K) : Type 0 where
  pub nothing : NothingMade ports said before after
  pub up_to : AskedUpTo said (ports.held before.shelf) (ports.asked before.shelf) (ports.asked after.shelf)

-- All is made: the whole text was written and has gone out, the file was put, where there is one, and every other file is as it was;
-- the calls are all fetches and then the put.
pub record AllMade {S K : Type 0} (ports : Ports S K) (said : Option Command) (before after : Outside S K) : Type 0 where
  pub text : ComesTo said (ports.held before.shelf) (Written (ports.written before.sink) (ports.written after.sink))
  pub flushed : ports.is_flushed after.sink ≡ true
  pub file : ComesTo said (ports.held before.shelf) (FilePut (ports.held before.shelf) (ports.held after.shelf))
  pub no_file : IsNone (out_name said) → NothingPut ports before after
  pub others : OthersStay (out_name said) (ports.held before.shelf) (ports.held after.shelf)
  pub calls : Appended (ports.asked before.shelf) (ports.asked after.shelf) (calls_of said)

-- A write or the flush failed: a prefix of the text was written, no put was tried, and the calls are the fetches.
pub record WriteFailed {S K : Type 0} (ports : Ports S K) (said : Option Command) (before after : Outside S K) : Type 0 where
  pub rose : Rose (ports.faults before.sink) (ports.faults after.sink)
  pub text : ComesTo said (ports.held before.shelf) (WrittenPrefix (ports.written before.sink) (ports.written after.sink))
  pub put : NothingPut ports before after
  pub calls : Appended (ports.asked before.shelf) (ports.asked after.shelf) (fetches_of said)

-- The put failed, the last of all calls, after the whole text had been written and had gone out; every other file is as it was.
pub record PutFailed {S K : Type 0} (ports : Ports S K) (said : Option Command) (before after : Outside S K) : Type 0 where
  pub rose : PutRose (out_name said) (ports.put_faults before.shelf) (ports.put_faults after.shelf)
  pub text : ComesTo said (ports.held before.shelf) (Written (ports.written before.sink) (ports.written after.sink))
  pub flushed : ports.is_flushed after.sink ≡ true
  pub others : OthersStay (out_name said) (ports.held before.shelf) (ports.held after.shelf)
  pub calls : Appended (ports.asked before.shelf) (ports.asked after.shelf) (calls_of said)

-- what stands after an answer
abbrev pub Stands : {S K : Type 0} → Ports S K → Option Command → Outside S K → Outside S K → Status → Type 0
Stands ports said before after status.Usage = Untouched before after
Stands ports said before after status.ReadFault = NothingMade ports said before after
Stands ports said before after status.Memory = NothingMade ports said before after
Stands ports said before after (status.BadImage rule offset) = FileRefused ports said before after
Stands ports said before after (status.BadScript line reason) = FileRefused ports said before after
Stands ports said before after (status.BadSource line reason) = FileRefused ports said before after
Stands ports said before after (status.BadTrace line) = FileRefused ports said before after
Stands ports said before after status.TooLong = FileRefused ports said before after
Stands ports said before after status.Done = AllMade ports said before after
Stands ports said before after (status.Breach event breach) = AllMade ports said before after
Stands ports said before after status.WriteFault = WriteFailed ports said before after ⊎ PutFailed ports said before after

-- the ports of a shelf and a sink
abbrev pub ports_of : {S K : Type 0} → (S → Option Files) → (S → Option (List Call)) → (S → ℕ) → (K → Option (List ℕ)) → (K → Bool) → (K → ℕ) → Ports S K
ports_of held asked put_faults written is_flushed faults =
    record { held = held; asked = asked; put_faults = put_faults; written = written; is_flushed = is_flushed; faults = faults }

abbrev pub outside : {S K : Type 0} → S → K → Outside S K
outside shelf sink = record { shelf = shelf; sink = sink }
