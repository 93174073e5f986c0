use Rattle.std.proofs.Common.{◌∙◌}
use Rattle.rule_ledger.specs.Cells.{Grid, grid_of}
use Rattle.rule_ledger.specs.Facts.{Facts, cell}
use Rattle.rule_ledger.specs.Marks.{facts_of}
use Rattle.rule_ledger.proofs.Rows.{writeback_invalidate_d_breach, hit_written_invalidated_d}
use Rattle.rule_ledger.proofs.Answering.{kept_rules}
use Rattle.rule_ledger.proofs.tables.Tables.hit_writeback_invalidate_d.Goals as goal

pub returns : goal.returns
returns c =
    let grid : Grid = grid_of c.args.self.now.shape in
    let facts : Facts = facts_of c.args.self.now in
    kept_rules _ _ _ _ c.count_step.ensures c.put_data_mark.ensures.kept
    (c.put_data_mark.ensures.facts ∙ hit_written_invalidated_d facts c.args.granule c.args.colour)
    (writeback_invalidate_d_breach grid facts (cell c.args.granule c.args.colour))
