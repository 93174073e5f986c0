-- A ledger as it is made: there is no fact.
use Rattle.std.proofs.Common.{◌&&◌, ◌≡◌, ℕ, ◌*◌, Bool, false, refl, ap, ◌∙◌, arith}
use Rattle.std.proofs.Math.Path.{fun_ext}
use Rattle.std.proofs.lemmas.Bool.{and_right}
use Rattle.ledger_table.specs.Table.{no_marks, mark_of}
use Rattle.ledger_table.proofs.Stamps.{no_mark, no_stamp}
use Rattle.r4_shape.specs.Numbers.{Numbers}
use Rattle.rule_ledger.specs.Facts.{nowhere, no_facts}
use Rattle.rule_ledger.specs.Cells.{Grid, grid_of}
use Rattle.rule_ledger.specs.Kept.{IsTableOf, IsCounted}
use Rattle.rule_ledger.specs.Marks.{place_of, is_inside, flagged, said_by, has_held, has_dirty, has_old, has_iheld, has_iold}

flagged_nowhere : (flag : ℕ → Bool) (grid : Grid) (cells rows : ℕ) → flag 0 ≡ false → flagged flag grid (mark_of (no_marks cells rows)) ≡ nowhere
flagged_nowhere flag grid cells rows none =
    fun_ext (λ g. fun_ext (λ c. ap (λ m. is_inside grid g c && flag m) (no_mark cells rows (place_of grid g c)) ∙ and_right (is_inside grid g c) (flag 0) none))

pub no_facts_is : (grid : Grid) (n m rows : ℕ) → said_by grid (mark_of (no_marks n rows)) (mark_of (no_marks m rows)) ≡ no_facts
no_facts_is grid n m rows =
    let held = flagged_nowhere has_held grid n rows refl in
    let dirty = flagged_nowhere has_dirty grid n rows refl in
    let old = flagged_nowhere has_old grid n rows refl in
    let iheld = flagged_nowhere has_iheld grid m rows refl in
    let iold = flagged_nowhere has_iold grid m rows refl in
    λ i. record { held = held i; dirty = dirty i; old = old i; iheld = iheld i; iold = iold i }

pub table_is : (shape : Numbers) (rows : ℕ) → rows ≡ (grid_of shape).page * (grid_of shape).colours → IsTableOf shape (no_marks ((grid_of shape).whole * (grid_of shape).colours) rows)
table_is shape rows e = record { rows = e; cells = refl }

pub counted_is : (cells rows : ℕ) → IsCounted 0 (no_marks cells rows)
counted_is cells rows = record { stamps = λ row. rw (no_stamp cells rows row) (omega arith) }
