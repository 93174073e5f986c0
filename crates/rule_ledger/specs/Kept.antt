-- What a ledger keeps: a mark for each cell of its shape.
-- Source: this project's own.
use Rattle.std.specs.Prelude.{◌≡◌, ℕ, ◌*◌, ◌≤◌}
use Rattle.ledger_table.specs.Table.{Table, row_stamp}
use Rattle.r4_shape.specs.Numbers.{Numbers}
use Rattle.rule_ledger.specs.Cells.{grid_of}

-- A table with a mark for each cell of a shape, in as many rows as a primary cache has lines.
pub record IsTableOf (shape : Numbers) (table : Table) : Type 0 where
  pub rows : table.rows ≡ (grid_of shape).page * (grid_of shape).colours
  pub cells : table.cells ≡ (grid_of shape).whole * (grid_of shape).colours

-- No row of a table was cleared more often than there were steps.
pub record IsCounted (steps : ℕ) (table : Table) : Type 0 where
  pub stamps : (row : ℕ) → row_stamp table row ≤ steps
