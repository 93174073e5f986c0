use Rattle.rule_ledger.specs.MarkFlags.{with_data}
use Rattle.std.proofs.Common.{◌≡◌, ◌∙◌, sym, ap, true, false}
use Rattle.rule_ledger.specs.declared.marks.DataMark.{DataMark}
use Rattle.rule_ledger.specs.Cells.{Grid, grid_of, meets}
use Rattle.rule_ledger.specs.Facts.{Facts, cell}
use Rattle.rule_ledger.specs.Marks.{facts_of}
use Rattle.rule_ledger.proofs.Meeting.{meets_cell}
use Rattle.rule_ledger.proofs.Rows.{hit_invalidate_d_breach, hit_invalidated_d}
use Rattle.rule_ledger.proofs.Answering.{breached, kept_rules, reads_keeps, keeps_then}
use Rattle.rule_ledger.proofs.tables.Tables.hit_invalidate_d.Goals as goal

pub returns-then-mark : goal.returns-then-mark
returns-then-mark c =
    let grid : Grid = grid_of c.args.self.now.shape in
    let facts : Facts = facts_of c.args.self.now in
    let lost : meets grid (cell c.args.granule c.args.colour) facts.dirty ≡ true =
    meets_cell grid facts.dirty _ _ c.requires.granule c.requires.colour ∙ (sym (ap (λ (m : DataMark). m.dirty) c.data_mark-mark.ensures.mark) ∙ c.if-mark.true) in
    breached _ _ _ _ c.data_mark-mark.ensures.reads (hit_invalidate_d_breach grid facts (cell c.args.granule c.args.colour) true lost)

pub returns : goal.returns
returns c =
    let grid : Grid = grid_of c.args.self.now.shape in
    let facts : Facts = facts_of c.args.self.now in
    let clean : meets grid (cell c.args.granule c.args.colour) facts.dirty ≡ false =
    meets_cell grid facts.dirty _ _ c.requires.granule c.requires.colour ∙ (sym (ap (λ (m : DataMark). m.dirty) c.data_mark-mark.ensures.mark) ∙ c.if-mark.false) in
    kept_rules _ _ _ _ c.count_step.ensures (keeps_then _ _ _ (reads_keeps _ _ c.data_mark-mark.ensures.reads) c.put_data_mark.ensures.kept)
    (c.put_data_mark.ensures.facts ∙ (ap (with_data c.args.granule c.args.colour _) c.data_mark-mark.ensures.reads.facts ∙ hit_invalidated_d facts c.args.granule c.args.colour c.data_mark-mark.result c.data_mark-mark.ensures.mark))
    (hit_invalidate_d_breach grid facts (cell c.args.granule c.args.colour) false clean)
