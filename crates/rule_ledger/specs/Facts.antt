-- What a ledger says of the copies that the primary caches may hold.
-- A line of a primary cache stands at an index that is made of virtual address bits, of which those above a page of 4096 bytes
-- are its colour. A granule is the bytes of one such line in RAM, and has its number there. So the copies of a granule are told
-- apart by their colours, and a cell is a granule at a colour.
-- Source: MIPS R4000 Microprocessor User's Manual (Heinrich, 2nd edition), chapter 11, for virtually indexed caches and
-- aliases; the facts are this project's own.
use Rattle.std.specs.Prelude.{ℕ, ◌+◌, ◌*◌, ◌%◌, ◌==◌, ◌&&◌, ◌||◌, not, Bool, false, nat_le, nat_lt, if◌then◌else◌}

-- A set of cells: whether a granule at a colour is one of them. A fact is the set of the cells where it may be so.
abbrev pub Cells : Type 0
Cells = ℕ → ℕ → Bool

-- What may be so of the copies in the data cache, and of those in the instruction cache.
pub record Facts : Type 0 where
  -- there is a copy; it has bytes that memory does not have yet; the newest bytes are elsewhere
  pub held : Cells
  pub dirty : Cells
  pub old : Cells
  -- there is a copy in the instruction cache; the newest bytes are elsewhere
  pub iheld : Cells
  pub iold : Cells

-- ---- sets of cells

abbrev pub nowhere : Cells
nowhere g c = false

-- one cell
abbrev pub cell : ℕ → ℕ → Cells
cell granule colour g c = (g == granule) && (c == colour)

-- a granule at every colour but one
abbrev pub other_colours : ℕ → ℕ → Cells
other_colours granule colour g c = (g == granule) && not (c == colour)

-- so many granules from one on, at every colour
abbrev pub granules : ℕ → ℕ → Cells
granules first count g c = nat_le first g && nat_lt g (first + count)

-- Every cell at a primary index, which is the colour's place and, in it, the granule's place in its page; page is the number of
-- the granules of a page.
abbrev pub at_index : ℕ → ℕ → Cells
at_index page index g c = (c * page + g % page) == index

-- the cells of both, of either, and those of the second that the first has not
abbrev pub both : Cells → Cells → Cells
both a b g c = a g c && b g c

abbrev pub either : Cells → Cells → Cells
either a b g c = a g c || b g c

abbrev pub without : Cells → Cells → Cells
without a b g c = not (a g c) && b g c

-- a fact that has this answer on a set of cells, and elsewhere stays as it was
abbrev pub put : Cells → Bool → Cells → Cells
put set answer fact g c = if set g c then answer else fact g c

-- no fact
abbrev pub no_facts : Facts
no_facts = record { held = nowhere; dirty = nowhere; old = nowhere; iheld = nowhere; iold = nowhere }
