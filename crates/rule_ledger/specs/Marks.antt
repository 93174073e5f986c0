-- The marks in which a ledger keeps its facts: a cell of a table has what may be so of a granule at a colour.
-- Source: this project's own.
use Rattle.std.specs.Prelude.{ℕ, ◌+◌, ◌-◌, ◌*◌, ◌/◌, ◌%◌, ◌^◌, ◌==◌, ◌&&◌, Bool, min, nat_lt}
use Rattle.ledger_table.specs.Table.{Table, mark_of}
use Rattle.r4_shape.specs.Numbers.{Numbers}
use Rattle.rule_ledger.specs.Facts.{Facts, Cells}
use Rattle.rule_ledger.specs.Cells.{Grid, grid_of}

-- The ledger of a machine of a shape: the tables of the marks of D and of I, and the number of the steps without a breach so far.
pub record Ledger : Type 0 where
  pub shape : Numbers
  pub data_table : Table
  pub instruction_table : Table
  pub steps : ℕ

-- The place of a cell in its table. The granules of a page have as many places together as a primary cache has lines, and the
-- place's rest by that number is the primary index.
abbrev pub place_of : Grid → ℕ → ℕ → ℕ
place_of grid granule colour =
    granule / grid.page * (grid.page * grid.colours) + (colour * grid.page + granule % grid.page)

abbrev pub is_inside : Grid → Cells
is_inside grid granule colour = nat_lt granule grid.whole && nat_lt colour grid.colours

-- The flags of a mark: of D, held has the value 1, dirty 2, old 4; of I, held has 8 and old 16.
abbrev pub has_held : ℕ → Bool
has_held mark = (mark % 2) == 1

abbrev pub has_dirty : ℕ → Bool
has_dirty mark = (mark / 2 % 2) == 1

abbrev pub has_old : ℕ → Bool
has_old mark = (mark / 4 % 2) == 1

abbrev pub has_iheld : ℕ → Bool
has_iheld mark = (mark / 8 % 2) == 1

abbrev pub has_iold : ℕ → Bool
has_iold mark = (mark / 16 % 2) == 1

-- the cells of a grid whose marks, which are those of their places, have a flag
abbrev pub flagged : (ℕ → Bool) → Grid → (ℕ → ℕ) → Cells
flagged flag grid mark granule colour = is_inside grid granule colour && flag (mark (place_of grid granule colour))

-- what the marks of D and of I say
abbrev pub said_by : Grid → (ℕ → ℕ) → (ℕ → ℕ) → Facts
said_by grid d i = record {
  held = flagged has_held grid d;
  dirty = flagged has_dirty grid d;
  old = flagged has_old grid d;
  iheld = flagged has_iheld grid i;
  iold = flagged has_iold grid i;
}

unfoldable pub facts_of : Ledger → Facts
facts_of ledger = said_by (grid_of ledger.shape) (mark_of ledger.data_table) (mark_of ledger.instruction_table)

-- how often a number of the tables was read or written
abbrev pub touches_of : Ledger → ℕ
touches_of ledger = min (ledger.data_table.counted.touches + ledger.instruction_table.counted.touches) (2 ^ 64 - 1)
