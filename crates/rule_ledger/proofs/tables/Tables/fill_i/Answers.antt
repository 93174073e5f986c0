use Rattle.rule_ledger.specs.MarkFlags.{with_instruction}
use Rattle.std.proofs.Common.{◌≡◌, ◌∙◌, sym, ap, true, false}
use Rattle.rule_ledger.specs.Cells.{Grid, grid_of, meets}
use Rattle.rule_ledger.specs.Facts.{Facts, granules}
use Rattle.rule_ledger.specs.Marks.{facts_of}
use Rattle.rule_ledger.proofs.Rows.{fill_i_breach, filled}
use Rattle.rule_ledger.proofs.Answering.{breached, kept_rules, reads_keeps, keeps_then}
use Rattle.rule_ledger.proofs.tables.Tables.fill_i.Goals as goal

pub returns-then-is_dirty : goal.returns-then-is_dirty
returns-then-is_dirty c =
    let grid : Grid = grid_of c.args.self.now.shape in
    let facts : Facts = facts_of c.args.self.now in
    let owed : meets grid (granules c.args.granule 1) facts.dirty ≡ true =
    sym c.is_dirty.ensures.is ∙ c.if-is_dirty.true in
    breached _ _ _ _ c.is_dirty.ensures.reads (fill_i_breach grid facts c.args.granule c.args.colour true owed)

pub returns : goal.returns
returns c =
    let grid : Grid = grid_of c.args.self.now.shape in
    let facts : Facts = facts_of c.args.self.now in
    let clean : meets grid (granules c.args.granule 1) facts.dirty ≡ false =
    sym c.is_dirty.ensures.is ∙ c.if-is_dirty.false in
    kept_rules _ _ _ _ c.count_step.ensures (keeps_then _ _ _ (reads_keeps _ _ c.is_dirty.ensures.reads) c.put_instruction_mark.ensures.kept)
    (c.put_instruction_mark.ensures.facts ∙ (ap (with_instruction c.args.granule c.args.colour _) c.is_dirty.ensures.reads.facts ∙ filled facts c.args.granule c.args.colour)) (fill_i_breach grid facts c.args.granule c.args.colour false clean)
