-- Numbers of which each reading and writing is counted, and a table of marks that lies in them: cells in rows, where cell c lies in
-- row c mod rows.
-- Source: this project's own.
use Rattle.std.specs.Prelude.{◌≡◌, ℕ, ◌+◌, ◌-◌, ◌*◌, ◌%◌, ◌^◌, ◌<◌, ◌≤◌, ◌==◌, List, length, replicate, slice_index, min, if◌then◌else◌}

-- The numbers, and how often one of them was read or written.
pub record Counted : Type 0 where
  pub numbers : List ℕ
  pub touches : ℕ

-- the count after one reading or writing more: it stands still at its type's end
abbrev pub touched : ℕ → ℕ
touched count = min (count + 1) (2 ^ 64 - 1)

-- so many numbers 0, of which none was touched
unfoldable pub untouched : ℕ → Counted
untouched count = record { numbers = replicate count 0; touches = 0 }

-- The number of cells and of rows, and the numbers. For each cell there are two: its stamp and a mark. Behind them there is one for each
-- row: its stamp, which is the number of the row's clearings.
pub record Table : Type 0 where
  pub cells : ℕ
  pub rows : ℕ
  pub counted : Counted

unfoldable pub cell_stamp : Table → ℕ → ℕ
cell_stamp table cell = slice_index table.counted.numbers (2 * cell)

unfoldable pub row_stamp : Table → ℕ → ℕ
row_stamp table row = slice_index table.counted.numbers (2 * table.cells + row)

-- The mark of a cell. A cell whose stamp is not its row's has none: the row was cleared since the mark was set.
unfoldable pub mark_of : Table → ℕ → ℕ
mark_of table cell =
    if cell_stamp table cell == row_stamp table (cell % table.rows) then slice_index table.counted.numbers (2 * cell + 1) else 0

-- What each table keeps. No cell's stamp is above its row's: else a mark that was cleared would come back once the row's stamp gets
-- there. A mark has 8 bits.
pub record IsTable (table : Table) : Type 0 where
  pub some : 0 < table.rows
  pub numbers : length table.counted.numbers ≡ 2 * table.cells + table.rows
  pub fits : 2 * table.cells + table.rows < 2 ^ 64
  pub stamps : (cell : ℕ) → cell < table.cells → cell_stamp table cell ≤ row_stamp table (cell % table.rows)
  pub marks : (cell : ℕ) → cell < table.cells → slice_index table.counted.numbers (2 * cell + 1) < 2 ^ 8

-- a table without a mark, of which no row was cleared
abbrev pub no_marks : ℕ → ℕ → Table
no_marks cells rows = record { cells = cells; rows = rows; counted = untouched (2 * cells + rows) }
