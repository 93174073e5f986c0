-- Puts, one after another, and the files after them.
use Rattle.std.specs.Prelude.{ℕ, ◌+◌, ◌-◌, List, [], ◌∷◌, ◌++◌, map, length, bytes_eq, Option, Some, if◌then◌else◌}
use Rattle.std.specs.FinMap.{insert}
use Rattle.r4_ports.specs.Told.{Files}
use Rattle.r4_ports.specs.Spans.{text_at, Within}
use Rattle.r4_ports.specs.declared.put_log.PutRecord.{PutRecord}

-- the puts so far, each a name and its bytes, and the room that is left for more
pub record PutLogState : Type 0 where
  pub puts : List (List ℕ × List ℕ)
  pub left : ℕ

-- the room that a put takes: its name and its bytes, and 16 bytes more
abbrev pub put_size : List ℕ → List ℕ → ℕ
put_size name bytes = length name + length bytes + 16

-- the puts with one more
abbrev pub after_put_of : PutLogState → List ℕ → List ℕ → PutLogState
after_put_of log name bytes = record { puts = log.puts ++ (name, bytes) ∷ []; left = log.left - put_size name bytes }

-- the files after these puts, in their order
abbrev pub files_after : Files → List (List ℕ × List ℕ) → Files
files_after files [] = files
files_after files (put ∷ puts) = files_after (insert files put.0 put.1) puts

-- the bytes that the last put to this name gave it, or those that it had before
abbrev pub latest : Option (List ℕ) → List (List ℕ × List ℕ) → List ℕ → Option (List ℕ)
latest before [] name = before
latest before (put ∷ puts) name = latest (if bytes_eq name put.0 then Some put.1 else before) puts name

-- a put that is recorded in a buffer
abbrev pub put_at : List ℕ → PutRecord → List ℕ × List ℕ
put_at buffer put = (text_at buffer put.name, text_at buffer put.bytes)

-- the puts that are recorded in a buffer, with the room that is left
abbrev pub put_log : List ℕ → List PutRecord → ℕ → PutLogState
put_log buffer records left = record { puts = map (put_at buffer) records; left = left }

-- all recorded puts lie within so many bytes
abbrev pub AllPutsWithin : ℕ → List PutRecord → Type 0
AllPutsWithin size [] = Unit {0}
AllPutsWithin size (put ∷ puts) = Within size put.name × Within size put.bytes × AllPutsWithin size puts
