-- The numbers of a shape: of the primary caches of a processor, and of its secondary cache where it has one.
-- Source: MIPS R4000 Microprocessor User's Manual, 2nd edition (Heinrich), chapter 11, "Cache Organization", for lines of 16 or 32
-- bytes in the primary caches and of 16 to 128 bytes in the secondary cache. Which sizes there are is this project's own.
use Rattle.std.specs.Prelude.{◌≡◌, ℕ, ◌/◌, ◌%◌, ◌≤◌, ◌⊎◌, Bool, true, false}

-- Whether there is a secondary cache; the bytes of each primary cache and of a line in it; and the bytes of a line of the secondary
-- cache, its group, and of that cache, both 0 where there is none.
pub record Numbers : Type 0 where
  pub sc : Bool
  pub prim : ℕ
  pub line : ℕ
  pub group : ℕ
  pub size : ℕ

-- primary caches of `prim` bytes alone, in lines of `line` bytes
abbrev pub primary_alone : ℕ → ℕ → Numbers
primary_alone prim line = record { sc = false; prim = prim; line = line; group = 0; size = 0 }

-- the same before a secondary cache of `size` bytes in lines of `group` bytes
abbrev pub with_secondary : ℕ → ℕ → ℕ → ℕ → Numbers
with_secondary prim line group size = record { sc = true; prim = prim; line = line; group = group; size = size }

-- the places of each primary cache, and those of the secondary cache
abbrev pub places : Numbers → ℕ
places shape = shape.prim / shape.line

abbrev pub secondary_places : Numbers → ℕ
secondary_places shape = shape.size / shape.group

-- the colours: how many pages a primary cache has
abbrev pub colours : Numbers → ℕ
colours shape = shape.prim / 4096

-- the primary lines of a page
abbrev pub page_lines : Numbers → ℕ
page_lines shape = 4096 / shape.line

-- the lengths of lines, in a primary cache and in the secondary cache
abbrev pub IsLine : ℕ → Type 0
IsLine line = (line ≡ 16) ⊎ (line ≡ 32)

abbrev pub IsGroup : ℕ → Type 0
IsGroup group = (group ≡ 16) ⊎ ((group ≡ 32) ⊎ ((group ≡ 64) ⊎ (group ≡ 128)))

-- the sizes of a primary cache, and of the secondary cache
abbrev pub IsPrim : ℕ → Type 0
IsPrim prim = prim ≡ 8192

abbrev pub IsSize : ℕ → Type 0
IsSize size = (size ≡ 131072) ⊎ ((size ≡ 262144) ⊎ ((size ≡ 524288) ⊎ (size ≡ 1048576)))

-- What each shape keeps, and it tells which shapes there are: a line of the secondary cache is no shorter than one of the primary caches.
pub record IsShape (shape : Numbers) : Type 0 where
  pub prim : IsPrim shape.prim
  pub line : IsLine shape.line
  pub no_group : shape.sc ≡ false → shape.group ≡ 0
  pub no_size : shape.sc ≡ false → shape.size ≡ 0
  pub group : shape.sc ≡ true → IsGroup shape.group
  pub holds : shape.sc ≡ true → shape.line ≤ shape.group
  pub size : shape.sc ≡ true → IsSize shape.size

-- What follows for each primary cache, whatever its size: it has two pages or more, whole ones.
pub record HasPages (shape : Numbers) : Type 0 where
  pub whole : shape.prim % 4096 ≡ 0
  pub least : 8192 ≤ shape.prim
  pub most : shape.prim ≤ 16384
