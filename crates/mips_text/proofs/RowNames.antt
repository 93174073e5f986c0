-- The names of the rows are short.
use Rattle.std.proofs.Common.{◌≡◌, ◌<◌, ◌≤◌, ℕ, Bool, true, length, nat_le, refl, leb-true}
use Rattle.std.specs.List.{list_all}
use Rattle.mips3_table.specs.Rows.{Row, rows, row_at}
use Rattle.mips3_table.proofs.Apart.{each_at, rows_count}

abbrev is_short : Row → Bool
is_short row = nat_le (length row.name) 8

all_short : list_all is_short rows ≡ true
unfolding rows
all_short = refl

pub length_name : (row : ℕ) → row < 129 → length (row_at row).name ≤ 8
unfolding row_at
length_name row lt =
    let within : row < length rows = rw rows_count lt in
    leb-true _ _ (each_at is_short rows row all_short within)
