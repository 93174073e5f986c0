-- The labels that a map has.
use Rattle.std.specs.Prelude.{ℕ, ◌==◌, Bool, not, List, [], ◌∷◌}
use Rattle.r4_words.specs.Ascii.{newline}
use Rattle.std.specs.declared.vec.Vec.{Vec}
use Rattle.std.specs.declared.alloc.Global.{Global}

-- the labels of a map's entries
abbrev pub labels_shown : List (Vec ℕ Global × ℕ) → List (List ℕ × ℕ)
labels_shown [] = []
labels_shown (entry ∷ entries) = (entry.0.items, entry.1) ∷ labels_shown entries

-- a byte is no newline
abbrev pub in_line : ℕ → Bool
in_line code = not (code == newline)
