-- No row that was passed has the name.
use Rattle.std.proofs.Common.{◌≡◌, ◌<◌, ℕ, false, bytes_eq}
use Rattle.mips3_table.specs.Rows.{row_at}
use Rattle.mips3_table.proofs.table.first_named.Given as goal

abbrev pub invariant-loop-row : goal.invariant-loop-row
invariant-loop-row l = (k : ℕ) → k < l.row → bytes_eq l.name (row_at k).name ≡ false
