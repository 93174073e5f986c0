use Rattle.std.proofs.Common.{◌%◌, cond, eqb, ap, ◌∙◌}
use Rattle.ledger_table.specs.Table.{mark_of}
use Rattle.rule_ledger.proofs.Grids.{grid_is}
use Rattle.rule_ledger.proofs.Reading.{table_kept, counted_cleared, data_flushed}
use Rattle.rule_ledger.proofs.tables.Tables.clear_data.Goals as goal

pub invariant_of-self : goal.invariant_of-self
invariant_of-self c =
    let i = c.self.invariant in
    let room = rw (← c.self.view_is) at c.requires.room in
    (i.0, table_kept _ _ _ c.clear_row.ensures.rows c.clear_row.ensures.cells i.1, i.2, counted_cleared _ _ _ c.args.index room c.clear_row.ensures.stamps i.3, i.4)

pub returns-clause-facts : goal.returns-clause-facts
returns-clause-facts c =
    let i = c.self.invariant in
    rw (← c.self.view_is) (data_flushed _ (grid_is _ i.0) c.args.index _ (λ k lt. c.clear_row.ensures.marks k (rw i.1.cells lt) ∙ ap (λ rows. cond (eqb (k % rows) c.args.index) 0 (mark_of c.self.inside.data_marks k)) i.1.rows))
