use Rattle.rule_ledger.specs.MarkFlags.{all_aged}
use Rattle.std.proofs.Common.{◌≡◌, ◌∙◌, sym, ap, true, false}
use Rattle.rule_ledger.specs.Cells.{Grid, grid_of, meets}
use Rattle.rule_ledger.specs.Facts.{Facts, granules}
use Rattle.rule_ledger.specs.Marks.{facts_of}
use Rattle.rule_ledger.proofs.Rows.{write_breach}
use Rattle.rule_ledger.proofs.Answering.{breached, kept_rules, reads_keeps, keeps_then}
use Rattle.rule_ledger.proofs.tables.Tables.write_past.Goals as goal

pub returns-then-is_any_dirty : goal.returns-then-is_any_dirty
returns-then-is_any_dirty c =
    let grid : Grid = grid_of c.args.self.now.shape in
    let facts : Facts = facts_of c.args.self.now in
    let owed : meets grid (granules c.args.first c.args.count) facts.dirty ≡ true =
    sym c.is_any_dirty.ensures.is ∙ c.if-is_any_dirty.true in
    breached _ _ _ _ c.is_any_dirty.ensures.reads (write_breach grid facts (granules c.args.first c.args.count) true owed)

pub returns : goal.returns
returns c =
    let grid : Grid = grid_of c.args.self.now.shape in
    let facts : Facts = facts_of c.args.self.now in
    let clean : meets grid (granules c.args.first c.args.count) facts.dirty ≡ false =
    sym c.is_any_dirty.ensures.is ∙ c.if-is_any_dirty.false in
    kept_rules _ _ _ _ c.count_step.ensures (keeps_then _ _ _ (reads_keeps _ _ c.is_any_dirty.ensures.reads) c.age_all.ensures.kept)
    (c.age_all.ensures.facts ∙ ap (all_aged (granules c.args.first c.args.count)) c.is_any_dirty.ensures.reads.facts) (write_breach grid facts (granules c.args.first c.args.count) false clean)
