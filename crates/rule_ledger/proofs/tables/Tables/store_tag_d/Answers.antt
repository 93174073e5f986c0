use Rattle.r4_shape.specs.Numbers.{Numbers}
use Rattle.rule_ledger.specs.MarkFlags.{data_cleared}
use Rattle.std.proofs.Common.{◌≡◌, ◌∙◌, sym, ap, true, false, subst, ◌+◌}
use Rattle.rule_ledger.specs.Cells.{Grid, grid_of, meets}
use Rattle.rule_ledger.specs.Facts.{Facts, at_index}
use Rattle.rule_ledger.specs.Marks.{facts_of}
use Rattle.rule_ledger.proofs.Rows.{store_tag_d_breach}
use Rattle.rule_ledger.proofs.Answering.{breached}
use Rattle.rule_ledger.proofs.tables.Tables.store_tag_d.Goals as goal

pub returns-then-is_dirty_at : goal.returns-then-is_dirty_at
returns-then-is_dirty_at c =
    let grid : Grid = grid_of c.args.self.now.shape in
    let facts : Facts = facts_of c.args.self.now in
    let lost : meets grid (at_index grid.page c.args.index) facts.dirty ≡ true =
    sym c.is_dirty_at.ensures.is ∙ c.if-is_dirty_at.true in
    breached _ _ _ _ c.is_dirty_at.ensures.reads (store_tag_d_breach grid facts (at_index grid.page c.args.index) true lost)

pub returns : goal.returns
returns c =
    let grid : Grid = grid_of c.args.self.now.shape in
    let facts : Facts = facts_of c.args.self.now in
    let clean : meets grid (at_index grid.page c.args.index) facts.dirty ≡ false =
    sym c.is_dirty_at.ensures.is ∙ c.if-is_dirty_at.false in
    let counts = c.count_step.ensures in
    let cleared : facts_of c.clear_data.new.self ≡ data_cleared (at_index grid.page c.args.index) facts =
    subst (λ (s : Numbers). facts_of c.clear_data.new.self ≡ data_cleared (at_index (grid_of s).page c.args.index) facts) (counts.shape ∙ c.is_dirty_at.ensures.reads.shape)
    (c.clear_data.ensures.facts ∙ ap (data_cleared (at_index (grid_of c.count_step.new.self.shape).page c.args.index)) (counts.facts ∙ c.is_dirty_at.ensures.reads.facts)) in
    record {
      breach = store_tag_d_breach grid facts (at_index grid.page c.args.index) false clean;
      facts = cleared;
      shape = c.clear_data.ensures.kept.shape ∙ (counts.shape ∙ c.is_dirty_at.ensures.reads.shape);
      steps = c.clear_data.ensures.kept.steps ∙ (counts.steps ∙ ap (λ x. x + 1) c.is_dirty_at.ensures.reads.steps);
    }
