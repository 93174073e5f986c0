-- A text in pieces. Source: Rust's `split` of a slice, as std defines it.
use Rattle.std.specs.Prelude.{ℕ, ◌==◌, List}
use Rattle.std.specs.List.{slice_split}

-- what stands between the places of a byte: one piece more than there are such bytes
abbrev pub pieces : ℕ → List ℕ → List (List ℕ)
pieces byte text = slice_split (λ code. code == byte) text
