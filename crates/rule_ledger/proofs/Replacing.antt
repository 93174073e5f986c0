-- The facts of a ledger after a mark was replaced, and after a row of marks was cleared.
use Rattle.std.proofs.Common.{◌≡◌, ℕ, ◌*◌, ◌%◌, ◌<◌, cond, eqb, ap, refl, sym, ◌∙◌}
use Rattle.rule_ledger.specs.declared.marks.DataMark.{DataMark}
use Rattle.rule_ledger.specs.declared.marks.InstructionMark.{InstructionMark}
use Rattle.rule_ledger.specs.Facts.{at_index, put, cell}
use Rattle.rule_ledger.specs.Cells.{Grid}
use Rattle.rule_ledger.specs.Marks.{place_of, said_by, flagged, has_held, has_dirty, has_old, has_iheld, has_iold}
use Rattle.rule_ledger.specs.MarkFlags.{data_mark, instruction_mark, data_at, instruction_at, with_data, with_instruction, data_cleared, instructions_cleared}
use Rattle.rule_ledger.proofs.Placing.{IsGrid, flagged_at, flagged-set, flagged-cleared}

module _ (grid : Grid) (is : IsGrid grid) (d i : ℕ → ℕ) where
  pub data_at_is : (g c : ℕ) → g < grid.whole → c < grid.colours → data_mark (d (place_of grid g c)) ≡ data_at (said_by grid d i) g c
  data_at_is g c gl cl =
      let held = flagged_at grid is has_held d g c gl cl in
      let dirty = flagged_at grid is has_dirty d g c gl cl in
      let old = flagged_at grid is has_old d g c gl cl in
      sym (λ j. record { held = held j; dirty = dirty j; old = old j })

  pub instruction_at_is : (g c : ℕ) → g < grid.whole → c < grid.colours → instruction_mark (i (place_of grid g c)) ≡ instruction_at (said_by grid d i) g c
  instruction_at_is g c gl cl =
      let held = flagged_at grid is has_iheld i g c gl cl in
      let old = flagged_at grid is has_iold i g c gl cl in
      sym (λ j. record { held = held j; old = old j })

  pub with_data_is : (g c x : ℕ) (mark : DataMark) (d' : ℕ → ℕ) → g < grid.whole → c < grid.colours
      → ((k : ℕ) → k < grid.whole * grid.colours → d' k ≡ cond (eqb k (place_of grid g c)) x (d k)) → data_mark x ≡ mark
      → said_by grid d' i ≡ with_data g c mark (said_by grid d i)
  with_data_is g c x mark d' gl cl replaced e =
      let held = flagged-set grid is has_held d d' g c x gl cl replaced ∙ ap (λ (m : DataMark). put (cell g c) m.held (flagged has_held grid d)) e in
      let dirty = flagged-set grid is has_dirty d d' g c x gl cl replaced ∙ ap (λ (m : DataMark). put (cell g c) m.dirty (flagged has_dirty grid d)) e in
      let old = flagged-set grid is has_old d d' g c x gl cl replaced ∙ ap (λ (m : DataMark). put (cell g c) m.old (flagged has_old grid d)) e in
      λ j. record { held = held j; dirty = dirty j; old = old j; iheld = flagged has_iheld grid i; iold = flagged has_iold grid i }

  pub with_instruction_is : (g c x : ℕ) (mark : InstructionMark) (i' : ℕ → ℕ) → g < grid.whole → c < grid.colours
      → ((k : ℕ) → k < grid.whole * grid.colours → i' k ≡ cond (eqb k (place_of grid g c)) x (i k)) → instruction_mark x ≡ mark
      → said_by grid d i' ≡ with_instruction g c mark (said_by grid d i)
  with_instruction_is g c x mark i' gl cl replaced e =
      let held = flagged-set grid is has_iheld i i' g c x gl cl replaced ∙ ap (λ (m : InstructionMark). put (cell g c) m.held (flagged has_iheld grid i)) e in
      let old = flagged-set grid is has_iold i i' g c x gl cl replaced ∙ ap (λ (m : InstructionMark). put (cell g c) m.old (flagged has_iold grid i)) e in
      λ j. record { held = flagged has_held grid d; dirty = flagged has_dirty grid d; old = flagged has_old grid d; iheld = held j; iold = old j }

  pub data_cleared_is : (row : ℕ) (d' : ℕ → ℕ) → ((k : ℕ) → k < grid.whole * grid.colours → d' k ≡ cond (eqb (k % (grid.page * grid.colours)) row) 0 (d k))
      → said_by grid d' i ≡ data_cleared (at_index grid.page row) (said_by grid d i)
  data_cleared_is row d' cleared =
      let held = flagged-cleared grid is has_held d d' row refl cleared in
      let dirty = flagged-cleared grid is has_dirty d d' row refl cleared in
      let old = flagged-cleared grid is has_old d d' row refl cleared in
      λ j. record { held = held j; dirty = dirty j; old = old j; iheld = flagged has_iheld grid i; iold = flagged has_iold grid i }

  pub instructions_cleared_is : (row : ℕ) (i' : ℕ → ℕ) → ((k : ℕ) → k < grid.whole * grid.colours → i' k ≡ cond (eqb (k % (grid.page * grid.colours)) row) 0 (i k))
      → said_by grid d i' ≡ instructions_cleared (at_index grid.page row) (said_by grid d i)
  instructions_cleared_is row i' cleared =
      let held = flagged-cleared grid is has_iheld i i' row refl cleared in
      let old = flagged-cleared grid is has_iold i i' row refl cleared in
      λ j. record { held = flagged has_held grid d; dirty = flagged has_dirty grid d; old = flagged has_old grid d; iheld = held j; iold = old j }
