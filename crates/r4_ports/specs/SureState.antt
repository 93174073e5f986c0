-- What a sink that never fails shows.
use Rattle.std.specs.Prelude.{ℕ, Bool, List, ◌++◌, ◌+◌, length, nat_le, Option, Some, None, if◌then◌else◌}

-- what was written, where it is told, and the most bytes that it tells
pub record SureSinkState : Type 0 where
  pub written : Option (List ℕ)
  pub room : ℕ

-- a sink that has kept these bytes, and whether they are all that was written
abbrev pub sure_sink : List ℕ → ℕ → Bool → SureSinkState
sure_sink bytes room is_whole = record { written = if is_whole then Some bytes else None; room = room }

-- the text with a piece more, told while it fits
abbrev pub told_within : ℕ → Option (List ℕ) → List ℕ → Option (List ℕ)
told_within room None piece = None
told_within room (Some written) piece = if nat_le (length written + length piece) room then Some (written ++ piece) else None

-- the sink after a write
abbrev pub after_sure_write : SureSinkState → List ℕ → SureSinkState
after_sure_write sink piece = record sink { written = told_within sink.room sink.written piece }
