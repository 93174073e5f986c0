-- Where the mark of one copy tells that an access breaks no rule and changes no fact.
use Rattle.std.proofs.Common.{◌≡◌, ℕ, ◌<◌, ◌≤◌, true, false, refl, sym, ◌∙◌, inl, inr, ◌&&◌, ◌||◌, not, eqb}
use Rattle.std.proofs.Math.Path.{fun_ext}
use Rattle.std.proofs.lemmas.Bool.{cases_Bool, cases_lt, and_parts, eqb-true, eqb-false, not-true, le-ltb, lt-ltb, both_ways, false_from_ne_true}
use Rattle.access_trace.specs.Grammar.{ram_size}
use Rattle.rule_ledger.specs.Facts.{Cells, Facts, cell, other_colours, granules, both, either}
use Rattle.rule_ledger.specs.Cells.{Grid, grid_of, meets}
use Rattle.rule_ledger.specs.Consistent.{IsConsistent}
use Rattle.rule_ledger.specs.Marks.{Ledger, facts_of}
use Rattle.rule_ledger.specs.Rules.{Row, harmless, cached_load, cached_store, cached_fetch, read_past, write_past}
use Rattle.rule_ledger.specs.Events.{where_in_ram}
use Rattle.rule_ledger.specs.Steps.{IsLeft, Settles}
use Rattle.rule_ledger.proofs.Meeting.{meets_cell, meets_nowhere, none_elsewhere, none_on, same_granule, granule_of}
use Rattle.rule_ledger.proofs.Rows.{load_breach, store_breach, fetch_breach, read_breach, write_breach}
use Rattle.rule_ledger.proofs.Reading.{held_past, iheld_past}

-- a fact that is so of a cell is raised there, and one that is so of each held copy of a set is raised there
raised_same : (fact : Cells) (g c : ℕ) → fact g c ≡ true → fact ≡ either (cell g c) fact
raised_same fact g c e = fun_ext (λ h. fun_ext (λ d. at h d))
  where
    at : (h d : ℕ) → fact h d ≡ (cell g c h d || fact h d)
    at h d = elim (cases_Bool (cell g c h d)) [
      | inl own ↦ (let p = and_parts (eqb h g) (eqb d c) own in rw (own, eqb-true h g p.0, eqb-true d c p.1) e)
      | inr other ↦ rw other refl
    ]

aged_same : (set held old : Cells) → ((h d : ℕ) → set h d ≡ true → held h d ≡ true → old h d ≡ true) → old ≡ either (both set held) old
aged_same set held old aged = fun_ext (λ h. fun_ext (λ d. at h d))
  where
    at : (h d : ℕ) → old h d ≡ ((set h d && held h d) || old h d)
    at h d = elim (cases_Bool (set h d && held h d)) [
      | inl here ↦ (let p = and_parts (set h d) (held h d) here in rw here (aged h d p.0 p.1))
      | inr other ↦ rw other refl
    ]

module _ (v : Ledger) (is : IsConsistent (grid_of v.shape) (facts_of v)) (g c : ℕ) (gl : g < (grid_of v.shape).whole) (cl : c < (grid_of v.shape).colours) where
  -- A load of a fresh copy that is held: were the granule dirty at another colour, the copy would be old.
  pub settled_load : (facts_of v).held g c ≡ true → (facts_of v).old g c ≡ false → Settles (cached_load g c) v
  settled_load held fresh =
      let grid : Grid = grid_of v.shape in
      let k : Facts = facts_of v in
      let none : meets grid (other_colours g c) k.dirty ≡ false =
      none_elsewhere grid k.dirty g c (λ d dl n. false_from_ne_true (k.dirty g d) (λ e. both_ways (k.old g c) fresh (is.others_old g d c e n held))) in
      let same = raised_same k.held g c held in
      record {
        breach = load_breach grid k g c false false (meets_cell grid k.old g c gl cl ∙ fresh) none;
        facts = λ i. record { held = same i; dirty = k.dirty; old = k.old; iheld = k.iheld; iold = k.iold };
      }

  -- A store to a copy that is dirty: it is held and fresh, the granule is dirty at no other colour, and every other copy is old.
  pub settled_store : (facts_of v).dirty g c ≡ true → Settles (cached_store g c) v
  settled_store dirty =
      let grid : Grid = grid_of v.shape in
      let k : Facts = facts_of v in
      let none : meets grid (other_colours g c) k.dirty ≡ false =
      none_elsewhere grid k.dirty g c (λ d dl n. false_from_ne_true (k.dirty g d) (λ e. n (is.one_dirty g d c e dirty))) in
      let held = raised_same k.held g c (is.dirty_held g c dirty) in
      let same = raised_same k.dirty g c dirty in
      let old = aged_same (other_colours g c) k.held k.old (λ h d here. (let p = and_parts (eqb h g) (not (eqb d c)) here in
      rw (eqb-true h g p.0) (is.others_old g c d dirty (λ q. eqb-false d c (not-true (eqb d c) p.1) (sym q))))) in
      let iold = aged_same (granules g 1) k.iheld k.iold (λ h d here. rw (granule_of g h d here) (is.instructions_old g c d dirty)) in
      record {
        breach = store_breach grid k g c false false (meets_cell grid k.old g c gl cl ∙ is.not_old g c dirty) none;
        facts = λ i. record { held = held i; dirty = same i; old = old i; iheld = k.iheld; iold = iold i };
      }

  -- A fetch of a fresh copy that is held: were the granule dirty at a colour, the copy would be old.
  pub settled_fetch : (facts_of v).iheld g c ≡ true → (facts_of v).iold g c ≡ false → Settles (cached_fetch g c) v
  settled_fetch held fresh =
      let grid : Grid = grid_of v.shape in
      let k : Facts = facts_of v in
      let none : meets grid (granules g 1) k.dirty ≡ false =
      none_on grid k.dirty g 1 (λ h d hl dl low high. rw (same_granule h g low high)
      (false_from_ne_true (k.dirty g d) (λ e. both_ways (k.iold g c) fresh (is.instructions_old g d c e held)))) in
      let same = raised_same k.iheld g c held in
      record {
        breach = fetch_breach grid k g c false false (meets_cell grid k.iold g c gl cl ∙ fresh) none;
        facts = λ i. record { held = k.held; dirty = k.dirty; old = k.old; iheld = same i; iold = k.iold };
      }

-- ---- past the caches, whatever the facts are

module _ (v : Ledger) where
  -- a copy is held at a colour of the shape alone
  colour_held : (g c : ℕ) → (facts_of v).held g c ≡ true → c < (grid_of v.shape).colours
  colour_held g c held = elim (cases_lt c (grid_of v.shape).colours) [
    | inl low ↦ low
    | inr far ↦ absurd (both_ways ((facts_of v).held g c) (held_past v g c far) held)
  ]

  colour_iheld : (g c : ℕ) → (facts_of v).iheld g c ≡ true → c < (grid_of v.shape).colours
  colour_iheld g c held = elim (cases_lt c (grid_of v.shape).colours) [
    | inl low ↦ low
    | inr far ↦ absurd (both_ways ((facts_of v).iheld g c) (iheld_past v g c far) held)
  ]

  pub settled_nothing : Settles harmless v
  settled_nothing = let k : Facts = facts_of v in record { breach = rw (meets_nowhere (grid_of v.shape) k.old) refl; facts = refl }

  pub settled_read : (set : Cells) → meets (grid_of v.shape) set (facts_of v).dirty ≡ false → Settles (read_past set) v
  settled_read set clean = record { breach = read_breach (grid_of v.shape) (facts_of v) set false clean; facts = refl }

  -- A write to a granule of which no copy is dirty and each is old.
  pub settled_write : (g : ℕ) → IsLeft (facts_of v) g (grid_of v.shape).colours → Settles (write_past (granules g 1)) v
  settled_write g left =
      let grid : Grid = grid_of v.shape in
      let k : Facts = facts_of v in
      let none : meets grid (granules g 1) k.dirty ≡ false =
      none_on grid k.dirty g 1 (λ h d hl dl low high. rw (same_granule h g low high) (left.clean d dl)) in
      let old = aged_same (granules g 1) k.held k.old (λ h d here held. rw (granule_of g h d here) (left.old d (colour_held g d (rw (← granule_of g h d here) held)) (rw (← granule_of g h d here) held))) in
      let iold = aged_same (granules g 1) k.iheld k.iold (λ h d here held. rw (granule_of g h d here) (left.iold d (colour_iheld g d (rw (← granule_of g h d here) held)) (rw (← granule_of g h d here) held))) in
      record {
        breach = write_breach grid k (granules g 1) false none;
        facts = λ i. record { held = k.held; dirty = k.dirty; old = old i; iheld = k.iheld; iold = iold i };
      }

  -- outside RAM a row says nothing
  pub settled_outside : (pa : ℕ) (row : Row) → ram_size ≤ pa → Settles (where_in_ram pa row) v
  settled_outside pa row high = rw (le-ltb pa ram_size high) settled_nothing

  pub settled_inside : (pa : ℕ) (row : Row) → pa < ram_size → Settles row v → Settles (where_in_ram pa row) v
  settled_inside pa row low settles = rw (lt-ltb pa ram_size low) settles
