use Rattle.std.proofs.Common.{refl, ◌∙◌}
use Rattle.ledger_table.proofs.Stamps.{read_is, mark_read, none_read, zero_read}
use Rattle.ledger_table.proofs.marks.Marks.get.Goals as goal
use Rattle.ledger_table.proofs.marks.Marks.get.Goals.{then-get-stamp, else-get-stamp}

pub invariant_of-self : goal.invariant_of-self
invariant_of-self c = (read_is _ c.self.invariant.0 _ (rw c.get-mark.ensures.counted refl), c.self.invariant.1, c.self.invariant.2)

pub invariant_of-self-2 : goal.invariant_of-self-2
invariant_of-self-2 c = (read_is _ c.self.invariant.0 _ (rw c.get-mark.ensures.counted refl), c.self.invariant.1, c.self.invariant.2)

pub invariant_of-self-3 : goal.invariant_of-self-3
invariant_of-self-3 c = (read_is _ c.self.invariant.0 _ (rw (c.get.ensures.counted, c.get-stamp.ensures.counted, c.get-mark.ensures.counted) refl), c.self.invariant.1, c.self.invariant.2)

pub returns-then-mark-eq0-clause-mark : goal.returns-then-mark-eq0-clause-mark
returns-then-mark-eq0-clause-mark c = rw (← c.self.view_is) (zero_read _ c.self.invariant.0 c.args.cell c.get-mark.result c.get-mark.ensures.value c.if-mark-eq0.true)

pub returns-clause-mark : goal.returns-clause-mark
returns-clause-mark c =
    let stamp = rw c.get-mark.ensures.counted at c.get-stamp.ensures.value in
    let own = rw (c.get-stamp.ensures.counted, c.get-mark.ensures.counted) at c.get.ensures.value in
    let row = c.row-row.ensures.row in
    elim c.if-get-stamp.branch [
      | then-get-stamp w ↦ w.result-is ∙ rw (← c.self.view_is) (mark_read _ c.self.invariant.0 c.args.cell c.row-row.result c.get-stamp.result c.get.result c.get-mark.result row stamp own w.if-get-stamp.true c.get-mark.ensures.value)
      | else-get-stamp w ↦ w.result-is ∙ rw (← c.self.view_is) (none_read _ c.self.invariant.0 c.args.cell c.row-row.result c.get-stamp.result c.get.result row stamp own w.if-get-stamp.false)
    ]
