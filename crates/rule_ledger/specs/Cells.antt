-- The cells that a shape has, and whether two sets of them meet.
-- Source: this project's own.
use Rattle.std.specs.Prelude.{ℕ, zero, suc, ◌/◌, Bool, false, ◌||◌}
use Rattle.access_trace.specs.Grammar.{ram_size}
use Rattle.r4_shape.specs.Numbers.{Numbers, colours}
use Rattle.rule_ledger.specs.Facts.{Cells, both}

-- The granules of a page of 4096 bytes, the colours of the primary caches, and the granules of RAM.
pub record Grid : Type 0 where
  pub page : ℕ
  pub colours : ℕ
  pub whole : ℕ

abbrev pub grid_of : Numbers → Grid
grid_of shape = record { page = 4096 / shape.line; colours = colours shape; whole = ram_size / shape.line }

-- Some number below a bound passes a test. It does not unfold by itself, so that no proof goes through the granules of RAM.
unfoldable pub some_below : ℕ → (ℕ → Bool) → Bool
some_below zero test = false
some_below (suc n) test = test n || some_below n test

-- some cell of the grid is one of the set
abbrev pub has_some : Grid → Cells → Bool
has_some grid set = some_below grid.whole (λ g. some_below grid.colours (λ c. set g c))

-- two sets have a cell of the grid in common
abbrev pub meets : Grid → Cells → Cells → Bool
meets grid a b = has_some grid (both a b)
