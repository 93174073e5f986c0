use Rattle.rule_ledger.specs.MarkFlags.{with_data}
use Rattle.std.proofs.Common.{◌∙◌, ap}
use Rattle.rule_ledger.specs.Cells.{Grid, grid_of}
use Rattle.rule_ledger.specs.Facts.{Facts, cell}
use Rattle.rule_ledger.specs.Marks.{facts_of}
use Rattle.rule_ledger.proofs.Rows.{hit_writeback_d_breach, hit_written_d}
use Rattle.rule_ledger.proofs.Answering.{kept_rules, reads_keeps, keeps_then}
use Rattle.rule_ledger.proofs.tables.Tables.hit_writeback_d.Goals as goal

pub returns : goal.returns
returns c =
    let grid : Grid = grid_of c.args.self.now.shape in
    let facts : Facts = facts_of c.args.self.now in
    kept_rules _ _ _ _ c.count_step.ensures (keeps_then _ _ _ (reads_keeps _ _ c.data_mark-mark.ensures.reads) c.put_data_mark.ensures.kept)
    (c.put_data_mark.ensures.facts ∙ (ap (with_data c.args.granule c.args.colour _) c.data_mark-mark.ensures.reads.facts ∙ hit_written_d facts c.args.granule c.args.colour c.data_mark-mark.result c.data_mark-mark.ensures.mark))
    (hit_writeback_d_breach grid facts (cell c.args.granule c.args.colour))
