use Rattle.std.proofs.Common.{◌%◌, cond, eqb, ap, ◌∙◌}
use Rattle.ledger_table.specs.Table.{mark_of}
use Rattle.rule_ledger.proofs.Grids.{grid_is}
use Rattle.rule_ledger.proofs.Reading.{table_kept, counted_cleared, instructions_flushed}
use Rattle.rule_ledger.proofs.tables.Tables.clear_instructions.Goals as goal

pub invariant_of-self : goal.invariant_of-self
invariant_of-self c =
    let i = c.self.invariant in
    let room = rw (← c.self.view_is) at c.requires.room in
    (i.0, i.1, table_kept _ _ _ c.clear_row.ensures.rows c.clear_row.ensures.cells i.2, i.3, counted_cleared _ _ _ c.args.index room c.clear_row.ensures.stamps i.4)

pub returns-clause-facts : goal.returns-clause-facts
returns-clause-facts c =
    let i = c.self.invariant in
    rw (← c.self.view_is) (instructions_flushed _ (grid_is _ i.0) c.args.index _ (λ k lt. c.clear_row.ensures.marks k (rw i.2.cells lt) ∙ ap (λ rows. cond (eqb (k % rows) c.args.index) 0 (mark_of c.self.inside.instruction_marks k)) i.2.rows))
