-- The tags of both primary caches of a machine, as lists.
-- Source: MIPS R4000 Microprocessor User's Manual, 2nd edition (Heinrich), chapter 11, "Cache Organization": both caches have one
-- size here, and lines of one length.
use Rattle.std.specs.Prelude.{◌≡◌, ℕ, ◌*◌, ◌/◌, ◌%◌, ◌≤◌, ◌⊎◌, List, length}
use Rattle.primary_caches.specs.declared.tag_array.Tag.{Tag}
use Rattle.primary_caches.specs.Tag.{index_of, no_lines}

-- The bytes of a line and of each cache, the number of places of each cache, and the tags of both by index.
pub record TagLists : Type 0 where
  pub line : ℕ
  pub size : ℕ
  pub places : ℕ
  pub i : List Tag
  pub d : List Tag

-- What the caches of every machine keep. A line has 16 or 32 bytes; a cache has two pages or more, whole ones, and its lines fill it;
-- and each cache has as many tags as places.
pub record IsFull (t : TagLists) : Type 0 where
  pub line : (t.line ≡ 16) ⊎ (t.line ≡ 32)
  pub pages : t.size % 4096 ≡ 0
  pub least : 8192 ≤ t.size
  pub most : t.size ≤ 16384
  pub whole : t.places * t.line ≡ t.size
  pub i : length t.i ≡ t.places
  pub d : length t.d ≡ t.places

-- the place at which a line of this virtual address stands
abbrev pub place_of : TagLists → ℕ → ℕ
place_of t va = index_of t.line t.size va

-- The geometries that there are.
pub record IsBuilt (line size : ℕ) : Type 0 where
  pub lines : (line ≡ 16) ⊎ (line ≡ 32)
  pub sizes : size ≡ 8192

-- caches without a line
abbrev pub empty_lists : ℕ → ℕ → TagLists
empty_lists line size = record { line = line; size = size; places = size / line; i = no_lines (size / line); d = no_lines (size / line) }
