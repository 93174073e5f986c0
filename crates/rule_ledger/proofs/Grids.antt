-- A shape's numbers, as facts of its grid.
use Rattle.std.proofs.Common.{◌≡◌, inl, inr, ℕ, ◌+◌, ◌*◌, ◌/◌, ◌%◌, ◌<◌, ◌≤◌, refl, arith}
use Rattle.std.proofs.lemmas.Nat.{div_below}
use Rattle.r4_shape.specs.Numbers.{Numbers, IsShape, colours, places}
use Rattle.rule_ledger.specs.Cells.{grid_of}
use Rattle.rule_ledger.proofs.Placing.{IsGrid}

module _ (shape : Numbers) (is : IsShape shape) where
  pub grid_is : IsGrid (grid_of shape)
  grid_is = record { page = page; colours = colours_pos; even = even }
    where
      page : 0 < (grid_of shape).page
      page = elim is.line [ inl e ↦ rw e (omega arith) | inr e ↦ rw e (omega arith) ]

      colours_pos : 0 < colours shape
      colours_pos = rw is.prim (omega arith)

      even : (grid_of shape).whole % (grid_of shape).page ≡ 0
      even = elim is.line [ inl e ↦ rw e refl | inr e ↦ rw e refl ]

  -- a page's granules at all colours are the lines of a primary cache
  pub places_are : places shape ≡ (grid_of shape).page * (grid_of shape).colours
  places_are = elim is.line [ inl e ↦ rw (e, is.prim) refl | inr e ↦ rw (e, is.prim) refl ]

  -- RAM has 2048 pages
  pub whole_is : (grid_of shape).whole ≡ 2048 * (grid_of shape).page
  whole_is = elim is.line [ inl e ↦ rw e refl | inr e ↦ rw e refl ]

  pub index_inside : (index : ℕ) → index < places shape → index / (grid_of shape).page < (grid_of shape).colours
  index_inside index lt = div_below index (grid_of shape).page (grid_of shape).colours grid_is.page (let e = places_are in omega arith)

  -- the granules of a beat lie in RAM
  pub beat_inside : (pa : ℕ) → pa < 8388608 → pa % 32 ≡ 0 → pa / shape.line + 32 / shape.line ≤ 8388608 / shape.line
  beat_inside pa low whole = elim is.line [
    | inl e ↦ rw e (omega arith)
    | inr e ↦ rw e (omega arith)
  ]
