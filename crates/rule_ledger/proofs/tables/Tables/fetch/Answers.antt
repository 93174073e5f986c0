use Rattle.std.proofs.Common.{◌≡◌, ◌∙◌, sym, ap, refl, true, false}
use Rattle.rule_ledger.specs.declared.marks.InstructionMark.{InstructionMark}
use Rattle.rule_ledger.specs.Cells.{Grid, grid_of, meets}
use Rattle.rule_ledger.specs.Facts.{Facts, cell, granules}
use Rattle.rule_ledger.specs.Marks.{facts_of}
use Rattle.rule_ledger.specs.MarkFlags.{with_instruction}
use Rattle.rule_ledger.proofs.Meeting.{meets_cell}
use Rattle.rule_ledger.proofs.Rows.{fetch_breach, fetched}
use Rattle.rule_ledger.proofs.Reading.{reads_then, meets_read}
use Rattle.rule_ledger.proofs.Answering.{breached, kept_rules, reads_keeps, keeps_then}
use Rattle.rule_ledger.proofs.tables.Tables.fetch.Goals as goal

pub returns-then-mark : goal.returns-then-mark
returns-then-mark c =
    let grid : Grid = grid_of c.args.self.now.shape in
    let facts : Facts = facts_of c.args.self.now in
    let old : meets grid (cell c.args.granule c.args.colour) facts.iold ≡ true =
    meets_cell grid facts.iold _ _ c.requires.granule c.requires.colour ∙ (sym (ap (λ (m : InstructionMark). m.old) c.instruction_mark-mark.ensures.mark) ∙ c.if-mark.true) in
    breached _ _ _ _ c.instruction_mark-mark.ensures.reads (fetch_breach grid facts c.args.granule c.args.colour true _ old refl)

pub returns-then-is_dirty : goal.returns-then-is_dirty
returns-then-is_dirty c =
    let grid : Grid = grid_of c.args.self.now.shape in
    let facts : Facts = facts_of c.args.self.now in
    let fresh : meets grid (cell c.args.granule c.args.colour) facts.iold ≡ false =
    meets_cell grid facts.iold _ _ c.requires.granule c.requires.colour ∙ (sym (ap (λ (m : InstructionMark). m.old) c.instruction_mark-mark.ensures.mark) ∙ c.if-mark.false) in
    let owed : meets grid (granules c.args.granule 1) facts.dirty ≡ true =
    sym (meets_read _ _ c.instruction_mark-mark.ensures.reads (granules c.args.granule 1)) ∙ (sym c.is_dirty.ensures.is ∙ c.if-is_dirty.true) in
    breached _ _ _ _ (reads_then _ _ _ c.instruction_mark-mark.ensures.reads c.is_dirty.ensures.reads) (fetch_breach grid facts c.args.granule c.args.colour false true fresh owed)

pub returns : goal.returns
returns c =
    let grid : Grid = grid_of c.args.self.now.shape in
    let facts : Facts = facts_of c.args.self.now in
    let fresh : meets grid (cell c.args.granule c.args.colour) facts.iold ≡ false =
    meets_cell grid facts.iold _ _ c.requires.granule c.requires.colour ∙ (sym (ap (λ (m : InstructionMark). m.old) c.instruction_mark-mark.ensures.mark) ∙ c.if-mark.false) in
    let clean : meets grid (granules c.args.granule 1) facts.dirty ≡ false =
    sym (meets_read _ _ c.instruction_mark-mark.ensures.reads (granules c.args.granule 1)) ∙ (sym c.is_dirty.ensures.is ∙ c.if-is_dirty.false) in
    let reads = reads_then _ _ _ c.instruction_mark-mark.ensures.reads c.is_dirty.ensures.reads in
    kept_rules _ _ _ _ c.count_step.ensures (keeps_then _ _ _ (reads_keeps _ _ reads) c.put_instruction_mark.ensures.kept)
    (c.put_instruction_mark.ensures.facts ∙ (ap (with_instruction c.args.granule c.args.colour _) reads.facts ∙ fetched facts c.args.granule c.args.colour c.instruction_mark-mark.result c.instruction_mark-mark.ensures.mark))
    (fetch_breach grid facts c.args.granule c.args.colour false false fresh clean)
