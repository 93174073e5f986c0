-- What the ledger says of the copies of a primary cache. The line at a place has as its colour the page of the cache in which the place
-- lies; so the ledger is asked for the cell of the line's number and that colour.
-- Source: this project's own, for the caches of the MIPS R4000 (MIPS R4000 Microprocessor User's Manual, Heinrich, 2nd edition,
-- chapter 11: write-back primary caches, of which the instruction cache is not kept coherent).
use Rattle.std.specs.Prelude.{◌≡◌, ℕ, ◌/◌, ◌%◌, true, false, List, Option, Some, slice_index}
use Rattle.line_moves.specs.Lines.{Line}
use Rattle.rule_ledger.specs.Facts.{Cells, Facts}
use Rattle.cache_levels.specs.Copies.{copy_at}

-- ---- one copy

-- The copy is in the ledger.
abbrev pub IsHeld : ℕ → Cells → ℕ → Line → Type 0
IsHeld page held index line = held line.number (index / page) ≡ true

-- Where it is dirty, it is dirty in the ledger.
abbrev pub IsKnownDirty : ℕ → Cells → ℕ → Line → Type 0
IsKnownDirty page dirty index line = line.dirty ≡ true → dirty line.number (index / page) ≡ true

-- It has the flat bytes, unless the ledger says that it is old.
abbrev pub IsFlatUnlessOld : ℕ → ℕ → Cells → (ℕ → ℕ) → ℕ → Line → Type 0
IsFlatUnlessOld size page old flat index line =
    (address : ℕ) → line.number ≡ address / size → old line.number (index / page) ≡ false
    → slice_index line.bytes (address % size) ≡ flat address

-- ---- the copies of a cache

abbrev pub AllHeld : ℕ → Cells → List (Option Line) → Type 0
AllHeld page held side = (index : ℕ) (line : Line) → copy_at side index ≡ Some line → IsHeld page held index line

abbrev pub AllKnownDirty : ℕ → Cells → List (Option Line) → Type 0
AllKnownDirty page dirty side = (index : ℕ) (line : Line) → copy_at side index ≡ Some line → IsKnownDirty page dirty index line

abbrev pub AllFlatUnlessOld : ℕ → ℕ → Cells → (ℕ → ℕ) → List (Option Line) → Type 0
AllFlatUnlessOld size page old flat side =
    (index : ℕ) (line : Line) → copy_at side index ≡ Some line → IsFlatUnlessOld size page old flat index line

-- What the ledger says of the copies in D, and of those in I.
pub record DataTold (size page : ℕ) (facts : Facts) (flat : ℕ → ℕ) (side : List (Option Line)) : Type 0 where
  pub held : AllHeld page facts.held side
  pub dirty : AllKnownDirty page facts.dirty side
  pub fresh : AllFlatUnlessOld size page facts.old flat side

pub record InstructionsTold (size page : ℕ) (facts : Facts) (flat : ℕ → ℕ) (side : List (Option Line)) : Type 0 where
  pub held : AllHeld page facts.iheld side
  pub fresh : AllFlatUnlessOld size page facts.iold flat side
