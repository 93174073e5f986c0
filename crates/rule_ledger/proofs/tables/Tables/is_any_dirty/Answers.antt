use Rattle.std.proofs.Common.{◌≡◌, ◌∙◌, sym, false, inl, inr, arith}
use Rattle.std.proofs.lemmas.Bool.{cases_eq}
use Rattle.rule_ledger.specs.Cells.{grid_of, meets}
use Rattle.rule_ledger.specs.Facts.{granules}
use Rattle.rule_ledger.specs.Marks.{facts_of}
use Rattle.rule_ledger.proofs.Meeting.{none_on, clean_on, meets_one_of}
use Rattle.rule_ledger.proofs.Reading.{reads_nothing, reads_then, meets_read}
use Rattle.rule_ledger.proofs.tables.Tables.is_any_dirty.Goals as goal

pub loop-granule-init : goal.loop-granule-init
loop-granule-init c = record { reads = reads_nothing _; clean = λ h low lt. absurd (omega arith) }

pub loop-granule-preserved : goal.loop-granule-preserved
loop-granule-preserved c =
    let before = c.loop-granule.invariant in
    let here : meets (grid_of c.args.self.now.shape) (granules c.loop-granule.granule 1) (facts_of c.args.self.now).dirty ≡ false =
    sym (meets_read _ _ before.reads (granules c.loop-granule.granule 1)) ∙ (sym c.is_dirty.ensures.is ∙ c.if-is_dirty.false) in
    record {
      reads = reads_then _ _ _ before.reads c.is_dirty.ensures.reads;
      clean = λ h low lt. elim (cases_eq h c.loop-granule.granule) [ inl e ↦ rw e here | inr n ↦ before.clean h low (omega arith) ];
    }

pub returns-then-is_dirty : goal.returns-then-is_dirty
returns-then-is_dirty c =
    let before = c.loop-granule.invariant in
    record {
      is = sym (meets_one_of (grid_of c.args.self.now.shape) (facts_of c.args.self.now).dirty c.args.first c.args.count c.loop-granule.granule (omega arith) (omega arith)
          (sym (meets_read _ _ before.reads (granules c.loop-granule.granule 1)) ∙ (sym c.is_dirty.ensures.is ∙ c.if-is_dirty.true)));
      reads = reads_then _ _ _ before.reads c.is_dirty.ensures.reads;
    }

pub returns : goal.returns
returns c = record {
  is = sym (none_on (grid_of c.args.self.now.shape) (facts_of c.args.self.now).dirty c.args.first c.args.count
      (λ g d gl dl low high. clean_on (grid_of c.args.self.now.shape) (facts_of c.args.self.now).dirty g 1 g d (c.loop-granule.invariant.clean g low (omega arith)) gl dl (omega arith) (omega arith)));
  reads = c.loop-granule.invariant.reads;
}
