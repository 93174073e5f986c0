use Rattle.std.proofs.Common.{◌≡◌, ap, subst, ◌∙◌}
use Rattle.r4_shape.specs.Numbers.{Numbers}
use Rattle.rule_ledger.specs.Cells.{Grid, grid_of}
use Rattle.rule_ledger.specs.Facts.{Facts, at_index}
use Rattle.rule_ledger.specs.Marks.{facts_of}
use Rattle.rule_ledger.specs.MarkFlags.{data_cleared}
use Rattle.rule_ledger.proofs.Rows.{writeback_invalidate_d_breach}
use Rattle.rule_ledger.proofs.Answering.{counted_rules}
use Rattle.rule_ledger.proofs.tables.Tables.writeback_invalidate_index_d.Goals as goal

pub returns-clause-follows : goal.returns-clause-follows
returns-clause-follows c =
    let grid : Grid = grid_of c.args.self.now.shape in
    let facts : Facts = facts_of c.args.self.now in
    let counts = c.count_step.ensures in
    let cleared : facts_of c.clear_data.new.self ≡ data_cleared (at_index grid.page c.args.index) facts =
    subst (λ (s : Numbers). facts_of c.clear_data.new.self ≡ data_cleared (at_index (grid_of s).page c.args.index) facts) counts.shape
    (c.clear_data.ensures.facts ∙ ap (data_cleared (at_index (grid_of c.count_step.new.self.shape).page c.args.index)) counts.facts) in
    counted_rules _ _ _ _ counts c.clear_data.ensures.kept cleared (writeback_invalidate_d_breach grid facts (at_index grid.page c.args.index))
