use Rattle.std.proofs.Common.{◌≡◌, ◌*◌, ◌+◌, set, refl, arith}
use Rattle.ledger_table.specs.Table.{row_stamp}
use Rattle.ledger_table.proofs.Stamps.{clear_is, clear_marks, clear_stamps}
use Rattle.ledger_table.proofs.marks.Marks.clear_row.Goals as goal

pub overflow_add-stamp : goal.overflow_add-stamp
unfolding row_stamp
overflow_add-stamp c = let below = rw (← c.self.view_is) at c.requires.stamp in omega arith

pub invariant_of-self : goal.invariant_of-self
invariant_of-self c =
    let same : c.set.new.self.numbers ≡ set c.self.inside.counted.numbers (2 * c.self.inside.cells + c.args.row) (c.get-stamp.result + 1) =
    rw (c.set.ensures, c.get-stamp.ensures.counted) refl in
    (clear_is _ c.self.invariant.0 _ c.args.row c.get-stamp.result (rw (← c.self.view_is) at c.requires.row) c.get-stamp.ensures.value same, c.self.invariant.1, c.self.invariant.2)

pub returns-clause-marks : goal.returns-clause-marks
returns-clause-marks c =
    let same : c.set.new.self.numbers ≡ set c.self.inside.counted.numbers (2 * c.self.inside.cells + c.args.row) (c.get-stamp.result + 1) =
    rw (c.set.ensures, c.get-stamp.ensures.counted) refl in
    rw (← c.self.view_is) (clear_marks _ c.self.invariant.0 _ c.args.row c.get-stamp.result (rw (← c.self.view_is) at c.requires.row) c.get-stamp.ensures.value same)

pub returns-clause-stamps : goal.returns-clause-stamps
returns-clause-stamps c =
    let same : c.set.new.self.numbers ≡ set c.self.inside.counted.numbers (2 * c.self.inside.cells + c.args.row) (c.get-stamp.result + 1) =
    rw (c.set.ensures, c.get-stamp.ensures.counted) refl in
    rw (← c.self.view_is) (clear_stamps _ c.self.invariant.0 _ c.args.row c.get-stamp.result (rw (← c.self.view_is) at c.requires.row) c.get-stamp.ensures.value same)
