-- How a text is written to a sink in pieces, up to the first write that fails. Bytes that were not handed to the sink yet are
-- pending: they are handed to it with those that follow.
-- Source: this project's own rules for its outside.
use Rattle.std.specs.Prelude.{◌≡◌, ◌≤◌, ℕ, Bool, true, false, List, [], ◌++◌, Option}
use Rattle.r4_ports.specs.Told.{Appended, AppendedPrefix, Rose}
use Rattle.r4_ports.specs.declared.pieces.Pending.{Pending}

-- how the writing stands: what the sink tells, its count of faults, the bytes that are pending, and whether a write has
-- failed
pub record Stand : Type 0 where
  pub written : Option (List ℕ)
  pub faults : ℕ
  pub pending : List ℕ
  pub failed : Bool

-- how the writing to a sink stands, by the sink's own meanings
abbrev pub stand : {K : Type 0} → (K → Option (List ℕ)) → (K → ℕ) → K → Pending → Stand
stand written faults sink pending = record {
  written = written sink;
  faults = faults sink;
  pending = pending.piece.items;
  failed = pending.failed;
}

-- The text was handed to the sink but for what is pending now: what the sink got, and what is pending now, are together
-- what was pending before, and the text.
pub record Handed (old new : Stand) (text : List ℕ) : Type 0 where
  pub sent : List ℕ
  pub is_all : sent ++ new.pending ≡ old.pending ++ text
  pub appended : Appended old.written new.written sent

-- From one stand to the next the text was written: all of it unless a write failed. At the first failure the sink got a
-- prefix of what was pending and the text, and its count of faults rose; after a failure it gets nothing more.
pub record Writes (old new : Stand) (text : List ℕ) : Type 0 where
  pub whole : old.failed ≡ false → new.failed ≡ false → Handed old new text
  pub prefix : old.failed ≡ false → new.failed ≡ true → AppendedPrefix old.written new.written (old.pending ++ text)
  pub cause : old.failed ≡ false → new.failed ≡ true → Rose old.faults new.faults
  pub stays_failed : old.failed ≡ true → new.failed ≡ true
  pub nothing_more : old.failed ≡ true → new.written ≡ old.written
  pub never_falls : old.faults ≤ new.faults

-- nothing is pending, and no write has failed
pub record IsFresh (at : Stand) : Type 0 where
  pub pending : at.pending ≡ []
  pub failed : at.failed ≡ false
