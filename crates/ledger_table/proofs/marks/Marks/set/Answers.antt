use Rattle.std.proofs.Common.{◌≡◌, ◌*◌, ◌+◌, set, refl, arith}
use Rattle.ledger_table.proofs.Stamps.{set_is, set_marks, set_stamps}
use Rattle.ledger_table.proofs.marks.Marks.set.Goals as goal

pub invariant_of-self : goal.invariant_of-self
invariant_of-self c =
    let same : c.set-2.new.self.numbers ≡ set (set c.self.inside.counted.numbers (2 * c.args.cell) c.get-stamp.result) (2 * c.args.cell + 1) c.args.value =
    rw (c.set-2.ensures, c.set.ensures, c.get-stamp.ensures.counted, c.from.ensures) refl in (
      set_is _ c.self.invariant.0 _ c.args.cell c.row-row.result c.get-stamp.result c.args.value (rw (← c.self.view_is) at c.requires) (rw (← c.self.view_is) at c.row-row.ensures.row) c.get-stamp.ensures.value same (omega arith),
      c.self.invariant.1,
      c.self.invariant.2,
    )

pub returns-clause-marks : goal.returns-clause-marks
returns-clause-marks c =
    let same : c.set-2.new.self.numbers ≡ set (set c.self.inside.counted.numbers (2 * c.args.cell) c.get-stamp.result) (2 * c.args.cell + 1) c.args.value =
    rw (c.set-2.ensures, c.set.ensures, c.get-stamp.ensures.counted, c.from.ensures) refl in
    rw (← c.self.view_is) (set_marks _ c.self.invariant.0 _ c.args.cell c.row-row.result c.get-stamp.result c.args.value (rw (← c.self.view_is) at c.requires) (rw (← c.self.view_is) at c.row-row.ensures.row) c.get-stamp.ensures.value same)

pub returns-clause-stamps : goal.returns-clause-stamps
returns-clause-stamps c =
    let same : c.set-2.new.self.numbers ≡ set (set c.self.inside.counted.numbers (2 * c.args.cell) c.get-stamp.result) (2 * c.args.cell + 1) c.args.value =
    rw (c.set-2.ensures, c.set.ensures, c.get-stamp.ensures.counted, c.from.ensures) refl in
    rw (← c.self.view_is) (set_stamps _ c.self.invariant.0 _ c.args.cell c.row-row.result c.get-stamp.result c.args.value (rw (← c.self.view_is) at c.requires) (rw (← c.self.view_is) at c.row-row.ensures.row) c.get-stamp.ensures.value same)
