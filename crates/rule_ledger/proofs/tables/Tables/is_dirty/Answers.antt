use Rattle.std.proofs.Common.{◌≡◌, ◌<◌, ◌≤◌, ◌∙◌, sym, ap, true, false, arith, below_more}
use Rattle.rule_ledger.specs.declared.marks.DataMark.{DataMark}
use Rattle.rule_ledger.specs.Cells.{grid_of}
use Rattle.rule_ledger.specs.Facts.{Facts}
use Rattle.rule_ledger.specs.Marks.{facts_of}
use Rattle.rule_ledger.proofs.Meeting.{some_on, none_on, same_granule}
use Rattle.rule_ledger.proofs.Reading.{reads_nothing, reads_then}
use Rattle.rule_ledger.proofs.tables.Tables.is_dirty.Goals as goal

pub loop-colour-init : goal.loop-colour-init
loop-colour-init c = record { reads = reads_nothing _; clean = λ d lt. absurd (omega arith) }

pub loop-colour-preserved : goal.loop-colour-preserved
loop-colour-preserved c =
    let before = c.loop-colour.invariant in
    let clean : (facts_of c.args.self.now).dirty c.args.granule c.loop-colour.colour ≡ false =
    sym (ap (λ (k : Facts). k.dirty c.args.granule c.loop-colour.colour) before.reads.facts) ∙ (sym (ap (λ (m : DataMark). m.dirty) c.data_mark.ensures.mark) ∙ c.if-data_mark.false) in
    record { reads = reads_then _ _ _ before.reads c.data_mark.ensures.reads; clean = below_more _ _ before.clean clean }

pub returns-then-data_mark : goal.returns-then-data_mark
returns-then-data_mark c =
    let before = c.loop-colour.invariant in
    let inside : c.loop-colour.colour < (grid_of c.args.self.now.shape).colours = rw (← c.self.view_is, ← c.colours-colour-end.ensures.is) c.loop-colour-test.true in
    let dirty : (facts_of c.args.self.now).dirty c.args.granule c.loop-colour.colour ≡ true =
    sym (ap (λ (k : Facts). k.dirty c.args.granule c.loop-colour.colour) before.reads.facts) ∙ (sym (ap (λ (m : DataMark). m.dirty) c.data_mark.ensures.mark) ∙ c.if-data_mark.true) in
    record {
      is = sym (some_on (grid_of c.args.self.now.shape) (facts_of c.args.self.now).dirty c.args.granule 1 c.args.granule c.loop-colour.colour c.requires inside (omega arith) (omega arith) dirty);
      reads = reads_then _ _ _ before.reads c.data_mark.ensures.reads;
    }

pub returns : goal.returns
returns c =
    let end : (grid_of c.args.self.now.shape).colours ≤ c.loop-colour.colour = rw (← c.self.view_is, ← c.colours-colour-end.ensures.is) c.loop-colour-test.false in
    record {
      is = sym (none_on (grid_of c.args.self.now.shape) (facts_of c.args.self.now).dirty c.args.granule 1 (λ g d gl dl low high. rw (same_granule g c.args.granule low high) (c.loop-colour.invariant.clean d (omega arith))));
      reads = c.loop-colour.invariant.reads;
    }
