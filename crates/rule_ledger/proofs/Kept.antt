-- What is known where an event breaks no rule: no cell that its row names has what would break one.
use Rattle.std.proofs.Common.{◌≡◌, ℕ, ◌<◌, Bool, true, false, refl, ◌||◌, cond, Some, None}
use Rattle.access_trace.specs.declared.event.Breach.TheVariants.{Forge, Peek, Old, Owed, Lost}
use Rattle.rule_ledger.specs.Facts.{Facts}
use Rattle.rule_ledger.specs.Cells.{Grid, meets}
use Rattle.rule_ledger.specs.Rules.{Row, first_breach}
use Rattle.rule_ledger.proofs.Meeting.{apart_at}

-- The row neither forges nor shows a tag, and its sets meet no fact that would break a rule.
pub record KeepsRules (grid : Grid) (facts : Facts) (row : Row) : Type 0 where
  pub forge : row.forge ≡ false
  pub peek : row.peek ≡ false
  pub old : meets grid row.old facts.old ≡ false
  pub iold : meets grid row.iold facts.iold ≡ false
  pub owed : meets grid row.owed facts.dirty ≡ false
  pub lost : meets grid row.lost facts.dirty ≡ false

tests_fail : (forge peek old iold owed lost : Bool)
    → cond forge (Some Forge) (cond peek (Some Peek) (cond (old || iold) (Some Old) (cond owed (Some Owed) (cond lost (Some Lost) None)))) ≡ None
    → (forge ≡ false) × (peek ≡ false) × (old ≡ false) × (iold ≡ false) × (owed ≡ false) × (lost ≡ false)
tests_fail true peek old iold owed lost e = absurd (cc)
tests_fail false true old iold owed lost e = absurd (cc)
tests_fail false false true iold owed lost e = absurd (cc)
tests_fail false false false true owed lost e = absurd (cc)
tests_fail false false false false true lost e = absurd (cc)
tests_fail false false false false false true e = absurd (cc)
tests_fail false false false false false false e = (refl, refl, refl, refl, refl, refl)

pub keeps_rules : (grid : Grid) (facts : Facts) (row : Row) → first_breach grid facts row ≡ None → KeepsRules grid facts row
keeps_rules grid facts row e =
    let all = tests_fail row.forge row.peek (meets grid row.old facts.old) (meets grid row.iold facts.iold) (meets grid row.owed facts.dirty) (meets grid row.lost facts.dirty) e in
    record { forge = all.0; peek = all.1; old = all.2; iold = all.3; owed = all.4; lost = all.5 }

module _ (grid : Grid) (facts : Facts) (row : Row) (kept : KeepsRules grid facts row) (g c : ℕ) (gl : g < grid.whole) (cl : c < grid.colours) where
  -- a cell at which an old copy would be used, in D and in I, is not old
  pub is_fresh : row.old g c ≡ true → facts.old g c ≡ false
  is_fresh = apart_at grid row.old facts.old g c kept.old gl cl

  pub is_fresh_i : row.iold g c ≡ true → facts.iold g c ≡ false
  is_fresh_i = apart_at grid row.iold facts.iold g c kept.iold gl cl

  -- a cell whose bytes would be owed, or lost, is not dirty
  pub is_paid : row.owed g c ≡ true → facts.dirty g c ≡ false
  is_paid = apart_at grid row.owed facts.dirty g c kept.owed gl cl

  pub is_saved : row.lost g c ≡ true → facts.dirty g c ≡ false
  is_saved = apart_at grid row.lost facts.dirty g c kept.lost gl cl
