use Rattle.std.proofs.Common.{◌∙◌, sym, ap, arith}
use Rattle.std.proofs.lemmas.Nat.{shl_whole}
use Rattle.rule_ledger.specs.declared.marks.DataMark.{DataMark}
use Rattle.rule_ledger.specs.Cells.{grid_of}
use Rattle.rule_ledger.proofs.Grids.{grid_is, index_inside, whole_is}
use Rattle.rule_ledger.proofs.Indexes.{some_at, none_at}
use Rattle.rule_ledger.proofs.tables.Tables.is_dirty_at.Goals as goal

pub data_mark-requires-clause-colour : goal.data_mark-requires-clause-colour
data_mark-requires-clause-colour c =
    let is = c.self.invariant.0 in
    rw (c.loop-page.invariant.reads.shape, c.page_bits-page_bits.ensures.is, ← c.self.view_is) (index_inside _ is c.args.index (rw (← c.self.view_is) at c.requires))

pub returns-then-data_mark-clause-is : goal.returns-then-data_mark-clause-is
returns-then-data_mark-clause-is c =
    let is = c.self.invariant.0 in
    let before = c.loop-page.invariant in
    let dirty = sym (ap (λ (m : DataMark). m.dirty) c.data_mark.ensures.mark) ∙ c.if-data_mark.true in
    rw (← c.self.view_is) (sym (some_at (grid_of c.self.inside.shape) (grid_is _ is) 2048 (whole_is _ is) _ c.loop-page.page c.args.index c.loop-page-test.true
    (index_inside _ is c.args.index (rw (← c.self.view_is) at c.requires)) (rw (before.reads.facts, before.within, shl_whole c.loop-page.page 11 c.page_bits-page_bits.result 32 (omega arith) (omega arith), c.page_bits-page_bits.ensures.is, ← c.self.view_is) at dirty)))

pub returns-clause-is : goal.returns-clause-is
returns-clause-is c =
    let is = c.self.invariant.0 in
    rw (← c.self.view_is) (sym (none_at (grid_of c.self.inside.shape) (grid_is _ is) 2048 (whole_is _ is) _ c.args.index
    (λ p lt. rw (c.loop-page.invariant.within, c.page_bits-page_bits.ensures.is, ← c.self.view_is) at (c.loop-page.invariant.clean p (omega arith)))))
