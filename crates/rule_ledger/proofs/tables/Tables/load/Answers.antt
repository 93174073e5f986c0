use Rattle.std.proofs.Common.{◌≡◌, ◌∙◌, sym, ap, refl, true, false}
use Rattle.rule_ledger.specs.declared.marks.DataMark.{DataMark}
use Rattle.rule_ledger.specs.Cells.{Grid, grid_of, meets}
use Rattle.rule_ledger.specs.Facts.{Facts, cell, other_colours}
use Rattle.rule_ledger.specs.Marks.{facts_of}
use Rattle.rule_ledger.specs.MarkFlags.{with_data}
use Rattle.rule_ledger.proofs.Meeting.{meets_cell}
use Rattle.rule_ledger.proofs.Rows.{load_breach, loaded}
use Rattle.rule_ledger.proofs.Reading.{reads_then, meets_read}
use Rattle.rule_ledger.proofs.Answering.{breached, kept_rules, reads_keeps, keeps_then}
use Rattle.rule_ledger.proofs.tables.Tables.load.Goals as goal

pub returns-then-mark : goal.returns-then-mark
returns-then-mark c =
    let grid : Grid = grid_of c.args.self.now.shape in
    let facts : Facts = facts_of c.args.self.now in
    let old : meets grid (cell c.args.granule c.args.colour) facts.old ≡ true =
    meets_cell grid facts.old _ _ c.requires.granule c.requires.colour ∙ (sym (ap (λ (m : DataMark). m.old) c.data_mark-mark.ensures.mark) ∙ c.if-mark.true) in
    breached _ _ _ _ c.data_mark-mark.ensures.reads (load_breach grid facts c.args.granule c.args.colour true _ old refl)

pub returns-then-is_dirty_elsewhere : goal.returns-then-is_dirty_elsewhere
returns-then-is_dirty_elsewhere c =
    let grid : Grid = grid_of c.args.self.now.shape in
    let facts : Facts = facts_of c.args.self.now in
    let fresh : meets grid (cell c.args.granule c.args.colour) facts.old ≡ false =
    meets_cell grid facts.old _ _ c.requires.granule c.requires.colour ∙ (sym (ap (λ (m : DataMark). m.old) c.data_mark-mark.ensures.mark) ∙ c.if-mark.false) in
    let owed : meets grid (other_colours c.args.granule c.args.colour) facts.dirty ≡ true =
    sym (meets_read _ _ c.data_mark-mark.ensures.reads (other_colours c.args.granule c.args.colour)) ∙ (sym c.is_dirty_elsewhere.ensures.is ∙ c.if-is_dirty_elsewhere.true) in
    breached _ _ _ _ (reads_then _ _ _ c.data_mark-mark.ensures.reads c.is_dirty_elsewhere.ensures.reads) (load_breach grid facts c.args.granule c.args.colour false true fresh owed)

pub returns : goal.returns
returns c =
    let grid : Grid = grid_of c.args.self.now.shape in
    let facts : Facts = facts_of c.args.self.now in
    let fresh : meets grid (cell c.args.granule c.args.colour) facts.old ≡ false =
    meets_cell grid facts.old _ _ c.requires.granule c.requires.colour ∙ (sym (ap (λ (m : DataMark). m.old) c.data_mark-mark.ensures.mark) ∙ c.if-mark.false) in
    let clean : meets grid (other_colours c.args.granule c.args.colour) facts.dirty ≡ false =
    sym (meets_read _ _ c.data_mark-mark.ensures.reads (other_colours c.args.granule c.args.colour)) ∙ (sym c.is_dirty_elsewhere.ensures.is ∙ c.if-is_dirty_elsewhere.false) in
    let reads = reads_then _ _ _ c.data_mark-mark.ensures.reads c.is_dirty_elsewhere.ensures.reads in
    kept_rules _ _ _ _ c.count_step.ensures (keeps_then _ _ _ (reads_keeps _ _ reads) c.put_data_mark.ensures.kept)
    (c.put_data_mark.ensures.facts ∙ (ap (with_data c.args.granule c.args.colour _) reads.facts ∙ loaded facts c.args.granule c.args.colour c.data_mark-mark.result c.data_mark-mark.ensures.mark))
    (load_breach grid facts c.args.granule c.args.colour false false fresh clean)
