-- What a copy of a line is, at its place in a primary cache: it is whole, it lies in RAM, and it stands where its address says.
-- Over numbers: the bytes of a line, the lines of a page of 4096 bytes, the bytes of RAM; a cache is the list of its places.
-- Source: this project's own, for the caches of the MIPS R4000 (MIPS R4000 Microprocessor User's Manual, Heinrich, 2nd edition,
-- chapter 11: virtually indexed primary caches).
use Rattle.std.specs.Prelude.{◌≡◌, ℕ, ◌+◌, ◌*◌, ◌%◌, ◌≤◌, false, List, length, Option, Some, None, slice_index_or}
use Rattle.line_moves.specs.Lines.{Line}

-- what stands at a place
abbrev pub copy_at : List (Option Line) → ℕ → Option Line
copy_at side index = slice_index_or side index None

-- The copy is whole: it has the bytes of a line.
abbrev pub IsWhole : ℕ → Line → Type 0
IsWhole size line = length line.bytes ≡ size

-- The line lies in RAM.
abbrev pub LiesInRam : ℕ → ℕ → Line → Type 0
LiesInRam size top line = line.number * size + size ≤ top

-- The copy stands at a place of its address: both are as far into a page.
abbrev pub StandsInPlace : ℕ → ℕ → Line → Type 0
StandsInPlace page index line = line.number % page ≡ index % page

-- What a copy is at a place.
pub record Stands (size page top : ℕ) (index : ℕ) (line : Line) : Type 0 where
  pub whole : IsWhole size line
  pub inside : LiesInRam size top line
  pub place : StandsInPlace page index line

-- Each copy of a cache is one.
abbrev pub AllStand : ℕ → ℕ → ℕ → List (Option Line) → Type 0
AllStand size page top side =
    (index : ℕ) (line : Line) → copy_at side index ≡ Some line → Stands size page top index line

-- No copy of a line is dirty.
abbrev pub NoneDirty : List (Option Line) → ℕ → Type 0
NoneDirty side number = (index : ℕ) (line : Line) → copy_at side index ≡ Some line → line.number ≡ number → line.dirty ≡ false
