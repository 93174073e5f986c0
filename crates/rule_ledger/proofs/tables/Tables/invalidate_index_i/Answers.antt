use Rattle.std.proofs.Common.{◌≡◌, ap, subst, ◌∙◌}
use Rattle.r4_shape.specs.Numbers.{Numbers}
use Rattle.rule_ledger.specs.Cells.{Grid, grid_of}
use Rattle.rule_ledger.specs.Facts.{Facts, at_index}
use Rattle.rule_ledger.specs.Marks.{facts_of}
use Rattle.rule_ledger.specs.MarkFlags.{instructions_cleared}
use Rattle.rule_ledger.proofs.Rows.{invalidate_i_breach}
use Rattle.rule_ledger.proofs.Answering.{counted_rules}
use Rattle.rule_ledger.proofs.tables.Tables.invalidate_index_i.Goals as goal

pub returns-clause-follows : goal.returns-clause-follows
returns-clause-follows c =
    let grid : Grid = grid_of c.args.self.now.shape in
    let facts : Facts = facts_of c.args.self.now in
    let counts = c.count_step.ensures in
    let cleared : facts_of c.clear_instructions.new.self ≡ instructions_cleared (at_index grid.page c.args.index) facts =
    subst (λ (s : Numbers). facts_of c.clear_instructions.new.self ≡ instructions_cleared (at_index (grid_of s).page c.args.index) facts) counts.shape
    (c.clear_instructions.ensures.facts ∙ ap (instructions_cleared (at_index (grid_of c.count_step.new.self.shape).page c.args.index)) counts.facts) in
    counted_rules _ _ _ _ counts c.clear_instructions.ensures.kept cleared (invalidate_i_breach grid facts (at_index grid.page c.args.index))
