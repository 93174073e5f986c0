use Rattle.std.proofs.Common.{◌≡◌, ◌<◌, ◌≤◌, ◌∙◌, sym, ap, true, arith}
use Rattle.rule_ledger.specs.declared.marks.DataMark.{DataMark}
use Rattle.rule_ledger.specs.Cells.{grid_of}
use Rattle.rule_ledger.specs.Facts.{Facts}
use Rattle.rule_ledger.specs.Marks.{facts_of}
use Rattle.rule_ledger.proofs.Meeting.{some_elsewhere, none_elsewhere}
use Rattle.rule_ledger.proofs.Reading.{reads_nothing, reads_then}
use Rattle.rule_ledger.proofs.tables.Tables.is_dirty_elsewhere.Goals as goal

pub loop-other-init : goal.loop-other-init
loop-other-init c = record { reads = reads_nothing _; clean = λ d lt. absurd (omega arith) }

pub returns-then-data_mark : goal.returns-then-data_mark
returns-then-data_mark c =
    let before = c.loop-other.invariant in
    let inside : c.loop-other.other < (grid_of c.args.self.now.shape).colours = rw (← c.self.view_is, ← c.colours-other-end.ensures.is) c.loop-other-test.true in
    let dirty : (facts_of c.args.self.now).dirty c.args.granule c.loop-other.other ≡ true =
    sym (ap (λ (k : Facts). k.dirty c.args.granule c.loop-other.other) before.reads.facts) ∙ (sym (ap (λ (m : DataMark). m.dirty) c.data_mark.ensures.mark) ∙ c.if-data_mark.true) in
    record {
      is = sym (some_elsewhere (grid_of c.args.self.now.shape) (facts_of c.args.self.now).dirty c.args.granule c.args.colour c.loop-other.other c.requires inside c.if-other-colour.true dirty);
      reads = reads_then _ _ _ before.reads c.data_mark.ensures.reads;
    }

pub returns : goal.returns
returns c =
    let end : (grid_of c.args.self.now.shape).colours ≤ c.loop-other.other = rw (← c.self.view_is, ← c.colours-other-end.ensures.is) c.loop-other-test.false in
    record {
      is = sym (none_elsewhere (grid_of c.args.self.now.shape) (facts_of c.args.self.now).dirty c.args.granule c.args.colour (λ d dl ne. c.loop-other.invariant.clean d (omega arith) ne));
      reads = c.loop-other.invariant.reads;
    }
