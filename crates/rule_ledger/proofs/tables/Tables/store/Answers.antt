use Rattle.std.proofs.Common.{◌≡◌, ◌∙◌, sym, ap, refl, true, false}
use Rattle.rule_ledger.specs.declared.marks.DataMark.{DataMark}
use Rattle.rule_ledger.specs.Cells.{Grid, grid_of, meets}
use Rattle.rule_ledger.specs.Facts.{Facts, cell, granules, other_colours}
use Rattle.rule_ledger.specs.MarkFlags.{aged, instructions_aged, with_data}
use Rattle.rule_ledger.specs.Marks.{facts_of}
use Rattle.rule_ledger.proofs.Meeting.{meets_cell}
use Rattle.rule_ledger.proofs.Rows.{store_breach, stored}
use Rattle.rule_ledger.proofs.Reading.{reads_then, meets_read}
use Rattle.rule_ledger.proofs.Answering.{breached, kept_rules, reads_keeps, keeps_then}
use Rattle.rule_ledger.proofs.tables.Tables.store.Goals as goal

pub returns-then-data_mark : goal.returns-then-data_mark
returns-then-data_mark c =
    let grid : Grid = grid_of c.args.self.now.shape in
    let facts : Facts = facts_of c.args.self.now in
    let old : meets grid (cell c.args.granule c.args.colour) facts.old ≡ true =
    meets_cell grid facts.old _ _ c.requires.granule c.requires.colour ∙ (sym (ap (λ (m : DataMark). m.old) c.data_mark.ensures.mark) ∙ c.if-data_mark.true) in
    breached _ _ _ _ c.data_mark.ensures.reads (store_breach grid facts c.args.granule c.args.colour true _ old refl)

pub returns-then-is_dirty_elsewhere : goal.returns-then-is_dirty_elsewhere
returns-then-is_dirty_elsewhere c =
    let grid : Grid = grid_of c.args.self.now.shape in
    let facts : Facts = facts_of c.args.self.now in
    let fresh : meets grid (cell c.args.granule c.args.colour) facts.old ≡ false =
    meets_cell grid facts.old _ _ c.requires.granule c.requires.colour ∙ (sym (ap (λ (m : DataMark). m.old) c.data_mark.ensures.mark) ∙ c.if-data_mark.false) in
    let owed : meets grid (other_colours c.args.granule c.args.colour) facts.dirty ≡ true =
    sym (meets_read _ _ c.data_mark.ensures.reads (other_colours c.args.granule c.args.colour)) ∙ (sym c.is_dirty_elsewhere.ensures.is ∙ c.if-is_dirty_elsewhere.true) in
    breached _ _ _ _ (reads_then _ _ _ c.data_mark.ensures.reads c.is_dirty_elsewhere.ensures.reads) (store_breach grid facts c.args.granule c.args.colour false true fresh owed)

pub returns : goal.returns
returns c =
    let grid : Grid = grid_of c.args.self.now.shape in
    let facts : Facts = facts_of c.args.self.now in
    let fresh : meets grid (cell c.args.granule c.args.colour) facts.old ≡ false =
    meets_cell grid facts.old _ _ c.requires.granule c.requires.colour ∙ (sym (ap (λ (m : DataMark). m.old) c.data_mark.ensures.mark) ∙ c.if-data_mark.false) in
    let clean : meets grid (other_colours c.args.granule c.args.colour) facts.dirty ≡ false =
    sym (meets_read _ _ c.data_mark.ensures.reads (other_colours c.args.granule c.args.colour)) ∙ (sym c.is_dirty_elsewhere.ensures.is ∙ c.if-is_dirty_elsewhere.false) in
    let stored_mark : DataMark =
    record { held = true; dirty = true; old = false } in
    let own : facts.old c.args.granule c.args.colour ≡ false =
    sym (ap (λ (m : DataMark). m.old) c.data_mark.ensures.mark) ∙ c.if-data_mark.false in
    let reads = reads_then _ _ _ c.data_mark.ensures.reads c.is_dirty_elsewhere.ensures.reads in
    let every_aged : facts_of c.age_instructions.new.self ≡ instructions_aged (granules c.args.granule 1) (aged (granules c.args.granule 1) facts) =
    c.age_instructions.ensures.facts ∙ ap (instructions_aged (granules c.args.granule 1)) (c.age.ensures.facts ∙ ap (aged (granules c.args.granule 1)) reads.facts) in
    kept_rules _ _ _ _ c.count_step.ensures
    (keeps_then _ _ _ (reads_keeps _ _ reads) (keeps_then _ _ _ c.age.ensures.kept (keeps_then _ _ _ c.age_instructions.ensures.kept c.put_data_mark.ensures.kept)))
    (c.put_data_mark.ensures.facts ∙ (ap (with_data c.args.granule c.args.colour stored_mark) every_aged ∙ stored facts c.args.granule c.args.colour own))
    (store_breach grid facts c.args.granule c.args.colour false false fresh clean)
