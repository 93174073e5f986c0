-- What a ledger keeps over a step, and over a reading.
use Rattle.std.proofs.Common.{◌≡◌, Bool, Option, sym, ap, subst, ◌∙◌}
use Rattle.access_trace.specs.declared.event.Breach.{Breach}
use Rattle.access_trace.specs.declared.event.Event.{Event}
use Rattle.r4_shape.specs.Numbers.{Numbers, IsShape}
use Rattle.rule_ledger.specs.Facts.{Facts}
use Rattle.rule_ledger.specs.Cells.{grid_of}
use Rattle.rule_ledger.specs.Consistent.{IsConsistent, IsLedger}
use Rattle.rule_ledger.specs.Events.{row_of}
use Rattle.rule_ledger.specs.Marks.{Ledger, facts_of}
use Rattle.rule_ledger.specs.Rules.{after}
use Rattle.rule_ledger.specs.Steps.{Follows}
use Rattle.rule_ledger.proofs.AnyEvent.{consistent_after}

pub kept_facts : (b : Bool) (v w : Ledger) → w.shape ≡ v.shape → facts_of w ≡ facts_of v → IsLedger b v → IsLedger b w
kept_facts b v w shape facts is = record {
  shape = subst (λ (s : Numbers). IsShape s) (sym shape) is.shape;
  facts = λ e. subst (λ (s : Numbers). IsConsistent (grid_of s) (facts_of w)) (sym shape) (subst (λ (k : Facts). IsConsistent (grid_of v.shape) k) (sym facts) (is.facts e));
}

pub kept_after : (b : Bool) (v w : Ledger) (event : Event) (answer : Option Breach) → IsLedger b v → Follows (row_of v.shape event) v w answer → IsLedger b w
kept_after b v w event answer is follows = record {
  shape = subst (λ (s : Numbers). IsShape s) (sym follows.shape) is.shape;
  facts = λ e. subst (λ (s : Numbers). IsConsistent (grid_of s) (facts_of w)) (sym follows.shape)
      (subst (λ (k : Facts). IsConsistent (grid_of v.shape) k)
      (sym (follows.facts ∙ ap (λ (a : Option Breach). after a (facts_of v) (row_of v.shape event)) follows.breach)) (consistent_after v.shape is.shape (facts_of v) (is.facts e) event));
}
