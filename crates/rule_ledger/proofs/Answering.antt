-- A step of a ledger from its parts: what was read, what was changed, and that the step was counted.
use Rattle.std.proofs.Common.{◌≡◌, ◌+◌, ap, ◌∙◌, Some, None}
use Rattle.access_trace.specs.declared.event.Breach.{Breach}
use Rattle.rule_ledger.specs.Cells.{grid_of}
use Rattle.rule_ledger.specs.Marks.{Ledger, facts_of}
use Rattle.rule_ledger.specs.Rules.{Row, first_breach, next}
use Rattle.rule_ledger.specs.Steps.{Reads, Keeps, Counts, Follows, Settles}

-- a rule is broken, after some readings
pub breached : (row : Row) (u v : Ledger) (breach : Breach) → Reads u v → Some breach ≡ first_breach (grid_of u.shape) (facts_of u) row → Follows row u v (Some breach)
breached row u v breach r e = record { breach = e; facts = r.facts; shape = r.shape; steps = r.steps }

-- the facts were changed, and the step counted
pub kept_rules : (row : Row) (u v w : Ledger) → Counts v w → Keeps u v → facts_of v ≡ next (facts_of u) row → None ≡ first_breach (grid_of u.shape) (facts_of u) row → Follows row u w None
kept_rules row u v w n k f e = record { breach = e; facts = n.facts ∙ f; shape = n.shape ∙ k.shape; steps = n.steps ∙ ap (λ x. x + 1) k.steps }

-- the step was counted, and the facts changed
pub counted_rules : (row : Row) (u v w : Ledger) → Counts u v → Keeps v w → facts_of w ≡ next (facts_of u) row → None ≡ first_breach (grid_of u.shape) (facts_of u) row → Follows row u w None
counted_rules row u v w n k f e = record { breach = e; facts = f; shape = k.shape ∙ n.shape; steps = k.steps ∙ n.steps }

-- a settled step was counted, after a reading
pub settled_rules : (row : Row) (u v w : Ledger) → Reads u v → Counts v w → Settles row u → Follows row u w None
settled_rules row u v w r n s = record { breach = s.breach; facts = n.facts ∙ (r.facts ∙ s.facts); shape = n.shape ∙ r.shape; steps = n.steps ∙ ap (λ x. x + 1) r.steps }

pub reads_keeps : (u v : Ledger) → Reads u v → Keeps u v
reads_keeps u v r = record { shape = r.shape; steps = r.steps }

pub keeps_then : (u v w : Ledger) → Keeps u v → Keeps v w → Keeps u w
keeps_then u v w a b = record { shape = b.shape ∙ a.shape; steps = b.steps ∙ a.steps }

pub reads_then_counts : (u v w : Ledger) → Reads u v → Counts v w → (facts_of w ≡ facts_of u) × (w.shape ≡ u.shape) × (w.steps ≡ u.steps + 1)
reads_then_counts u v w r n = (n.facts ∙ r.facts, n.shape ∙ r.shape, n.steps ∙ ap (λ x. x + 1) r.steps)
