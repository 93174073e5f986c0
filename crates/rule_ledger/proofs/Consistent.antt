-- The facts stay consistent at each row of the table of rules.
use Rattle.std.proofs.Common.{◌≡◌, ◌≢◌, ℕ, ◌<◌, true, false, refl, sym, ap, ◌∙◌, inl, inr, not, eqb}
use Rattle.std.proofs.lemmas.Bool.{cases_eq, and_parts, and_from, or_cases, or_left, or_right, or_from, not-true, eq-eqb, eqb-true, ne_eqb, both_ways, false_from_ne_true, false≢true, and_left}
use Rattle.rule_ledger.specs.Facts.{Cells, Facts, no_facts, cell, other_colours, granules, both, either, without}
use Rattle.rule_ledger.specs.Cells.{Grid}
use Rattle.rule_ledger.specs.Consistent.{IsConsistent}
use Rattle.rule_ledger.specs.Rules.{next, cached_load, cached_store, cached_fetch, write_past, invalidate_i, writeback_invalidate_d, hit_invalidate_d, fill_i, hit_writeback_d}
use Rattle.rule_ledger.proofs.Kept.{KeepsRules, is_fresh, is_paid, is_saved}
use Rattle.rule_ledger.proofs.Meeting.{own_granule}

-- no fact is consistent
pub no_facts_consistent : (grid : Grid) → IsConsistent grid no_facts
no_facts_consistent grid = record {
  inside = λ g c e. absurd (false≢true e);
  dirty_held = λ g c e. e;
  old_held = λ g c e. e;
  iold_held = λ g c e. e;
  not_old = λ g c e. refl;
  one_dirty = λ g c d e f. absurd (false≢true e);
  others_old = λ g c d e n f. f;
  instructions_old = λ g c d e f. f;
}

-- a cell that is left after a set was taken away
left_over : (a b : Cells) (g c : ℕ) → without a b g c ≡ true → (a g c ≡ false) × (b g c ≡ true)
left_over a b g c e = let p = and_parts (not (a g c)) (b g c) e in (not-true (a g c) p.0, p.1)

kept_by : (a b : Cells) (g c : ℕ) → a g c ≡ false → b g c ≡ true → without a b g c ≡ true
kept_by a b g c e f = rw e f

module _ (grid : Grid) (k : Facts) (is : IsConsistent grid k) where
  pub after_load : (g c : ℕ) → KeepsRules grid k (cached_load g c) → IsConsistent grid (next k (cached_load g c))
  after_load g c kept = record {
    inside = is.inside;
    dirty_held = λ h d e. or_right (cell g c h d) (k.held h d) (is.dirty_held h d e);
    old_held = λ h d e. or_right (cell g c h d) (k.held h d) (is.old_held h d e);
    iold_held = is.iold_held;
    not_old = is.not_old;
    one_dirty = is.one_dirty;
    others_old = λ h d f e n held. elim (or_cases (cell g c h f) (k.held h f) held) [
      | inl own ↦ (let p = and_parts (eqb h g) (eqb f c) own in
          absurd (both_ways (k.dirty g d) (clean d (λ q. n (q ∙ sym (eqb-true f c p.1))) (rw (eqb-true h g p.0) at e)) (rw (eqb-true h g p.0) at e)))
      | inr was ↦ is.others_old h d f e n was
    ];
    instructions_old = is.instructions_old;
  }
    where
      clean : (d : ℕ) → d ≢ c → k.dirty g d ≡ true → k.dirty g d ≡ false
      clean d n e = let b = is.inside g d e in is_paid grid k (cached_load g c) kept g d b.0 b.1 (and_from (eqb g g) (not (eqb d c)) (eq-eqb g g refl) (ap not (ne_eqb d c n)))

  pub after_fetch : (g c : ℕ) → KeepsRules grid k (cached_fetch g c) → IsConsistent grid (next k (cached_fetch g c))
  after_fetch g c kept = record {
    inside = is.inside;
    dirty_held = is.dirty_held;
    old_held = is.old_held;
    iold_held = λ h d e. or_right (cell g c h d) (k.iheld h d) (is.iold_held h d e);
    not_old = is.not_old;
    one_dirty = is.one_dirty;
    others_old = is.others_old;
    instructions_old = λ h d f e held. elim (or_cases (cell g c h f) (k.iheld h f) held) [
      | inl own ↦ (let p = and_parts (eqb h g) (eqb f c) own in absurd (both_ways (k.dirty g d) (clean d (rw (eqb-true h g p.0) at e)) (rw (eqb-true h g p.0) at e)))
      | inr was ↦ is.instructions_old h d f e was
    ];
  }
    where
      clean : (d : ℕ) → k.dirty g d ≡ true → k.dirty g d ≡ false
      clean d e = let b = is.inside g d e in is_paid grid k (cached_fetch g c) kept g d b.0 b.1 (own_granule g d)

  pub after_store : (g c : ℕ) → g < grid.whole → c < grid.colours → KeepsRules grid k (cached_store g c) → IsConsistent grid (next k (cached_store g c))
  after_store g c gl cl kept = record {
    inside = λ h d e. elim (or_cases (cell g c h d) (k.dirty h d) e) [
      | inl own ↦ (let p = and_parts (eqb h g) (eqb d c) own in rw (eqb-true h g p.0, eqb-true d c p.1) (gl, cl))
      | inr was ↦ is.inside h d was
    ];
    dirty_held = λ h d e. elim (or_cases (cell g c h d) (k.dirty h d) e) [
      | inl own ↦ or_left (cell g c h d) (k.held h d) own
      | inr was ↦ or_right (cell g c h d) (k.held h d) (is.dirty_held h d was)
    ];
    old_held = λ h d e. or_right (cell g c h d) (k.held h d) (elim (or_cases (both (other_colours g c) k.held h d) (k.old h d) e) [
      | inl aged ↦ (and_parts (other_colours g c h d) (k.held h d) aged).1
      | inr was ↦ is.old_held h d was
    ]);
    iold_held = λ h d e. elim (or_cases (both (granules g 1) k.iheld h d) (k.iold h d) e) [
      | inl aged ↦ (and_parts (granules g 1 h d) (k.iheld h d) aged).1
      | inr was ↦ is.iold_held h d was
    ];
    not_old = λ h d e. or_from (both (other_colours g c) k.held h d) (k.old h d) (and_left (other_colours g c h d) (k.held h d) (is_own h d e)) (fresh h d e);
    one_dirty = λ h d f e e'. elim (cases_eq h g) [
      | inl p ↦ own_colour d (rw p at e) ∙ sym (own_colour f (rw p at e'))
      | inr n ↦ is.one_dirty h d f (was_dirty h d n e) (was_dirty h f n e')
    ];
    others_old = λ h d f e n held. elim (cases_eq h g) [
      | inl p ↦ (let q : f ≢ c = λ t. n (own_colour d (rw p at e) ∙ sym t) in
          or_left (both (other_colours g c) k.held h f) (k.old h f)
          (and_from (other_colours g c h f) (k.held h f) (and_from (eqb h g) (not (eqb f c)) (eq-eqb h g p) (ap not (ne_eqb f c q))) (was_held h f (λ own. q (eqb-true f c (and_parts (eqb h g) (eqb f c) own).1)) held)))
      | inr m ↦ or_right (both (other_colours g c) k.held h f) (k.old h f)
          (is.others_old h d f (was_dirty h d m e) n (was_held h f (λ own. m (eqb-true h g (and_parts (eqb h g) (eqb f c) own).0)) held))
    ];
    instructions_old = λ h d f e held. elim (cases_eq h g) [
      | inl p ↦ or_left (both (granules g 1) k.iheld h f) (k.iold h f) (and_from (granules g 1 h f) (k.iheld h f) (rw p (own_granule g f)) held)
      | inr m ↦ or_right (both (granules g 1) k.iheld h f) (k.iold h f) (is.instructions_old h d f (was_dirty h d m e) held)
    ];
  }
    where
      was_held : (h d : ℕ) → (cell g c h d ≡ true → ⊥) → either (cell g c) k.held h d ≡ true → k.held h d ≡ true
      was_held h d n e = elim (or_cases (cell g c h d) (k.held h d) e) [
        | inl own ↦ absurd (n own)
        | inr was ↦ was
      ]

      -- a dirty copy of the granule has the colour of the store
      own_colour : (d : ℕ) → either (cell g c) k.dirty g d ≡ true → d ≡ c
      own_colour d e = elim (or_cases (cell g c g d) (k.dirty g d) e) [
        | inl own ↦ eqb-true d c (and_parts (eqb g g) (eqb d c) own).1
        | inr was ↦ elim (cases_eq d c) [
          | inl p ↦ p
          | inr n ↦ (let b = is.inside g d was in
              absurd (both_ways (k.dirty g d) (is_paid grid k (cached_store g c) kept g d b.0 b.1 (and_from (eqb g g) (not (eqb d c)) (eq-eqb g g refl) (ap not (ne_eqb d c n)))) was))
        ]
      ]

      was_dirty : (h d : ℕ) → (h ≡ g → ⊥) → either (cell g c) k.dirty h d ≡ true → k.dirty h d ≡ true
      was_dirty h d n e = elim (or_cases (cell g c h d) (k.dirty h d) e) [
        | inl own ↦ absurd (n (eqb-true h g (and_parts (eqb h g) (eqb d c) own).0))
        | inr was ↦ was
      ]

      is_own : (h d : ℕ) → either (cell g c) k.dirty h d ≡ true → other_colours g c h d ≡ false
      is_own h d e = elim (cases_eq h g) [
        | inl p ↦ rw (p, own_colour d (rw p at e), eq-eqb c c refl, eq-eqb g g refl) refl
        | inr n ↦ and_left (eqb h g) (not (eqb d c)) (ne_eqb h g n)
      ]

      fresh : (h d : ℕ) → either (cell g c) k.dirty h d ≡ true → k.old h d ≡ false
      fresh h d e = elim (or_cases (cell g c h d) (k.dirty h d) e) [
        | inl own ↦ (let p = and_parts (eqb h g) (eqb d c) own in
            rw (eqb-true h g p.0, eqb-true d c p.1) (is_fresh grid k (cached_store g c) kept g c gl cl (and_from (eqb g g) (eqb c c) (eq-eqb g g refl) (eq-eqb c c refl))))
        | inr was ↦ is.not_old h d was
      ]

  pub after_write_past : (set : Cells) → KeepsRules grid k (write_past set) → IsConsistent grid (next k (write_past set))
  after_write_past set kept = record {
    inside = is.inside;
    dirty_held = is.dirty_held;
    old_held = λ h d e. elim (or_cases (both set k.held h d) (k.old h d) e) [
      | inl aged ↦ (and_parts (set h d) (k.held h d) aged).1
      | inr was ↦ is.old_held h d was
    ];
    iold_held = λ h d e. elim (or_cases (both set k.iheld h d) (k.iold h d) e) [
      | inl aged ↦ (and_parts (set h d) (k.iheld h d) aged).1
      | inr was ↦ is.iold_held h d was
    ];
    not_old = λ h d e. or_from (both set k.held h d) (k.old h d)
        (and_left (set h d) (k.held h d) (false_from_ne_true (set h d) (λ here. (let b = is.inside h d e in both_ways (k.dirty h d) (is_paid grid k (write_past set) kept h d b.0 b.1 here) e))))
        (is.not_old h d e);
    one_dirty = is.one_dirty;
    others_old = λ h d f e n held. or_right (both set k.held h f) (k.old h f) (is.others_old h d f e n held);
    instructions_old = λ h d f e held. or_right (both set k.iheld h f) (k.iold h f) (is.instructions_old h d f e held);
  }

  pub after_invalidate_i : (set : Cells) → IsConsistent grid (next k (invalidate_i set))
  after_invalidate_i set = record {
    inside = is.inside;
    dirty_held = is.dirty_held;
    old_held = is.old_held;
    iold_held = λ h d e. let p = left_over set k.iold h d e in kept_by set k.iheld h d p.0 (is.iold_held h d p.1);
    not_old = is.not_old;
    one_dirty = is.one_dirty;
    others_old = is.others_old;
    instructions_old = λ h d f e held. let p = left_over set k.iheld h f held in kept_by set k.iold h f p.0 (is.instructions_old h d f e p.1);
  }

  pub after_fill_i : (g c : ℕ) → KeepsRules grid k (fill_i g c) → IsConsistent grid (next k (fill_i g c))
  after_fill_i g c kept = record {
    inside = is.inside;
    dirty_held = is.dirty_held;
    old_held = is.old_held;
    iold_held = λ h d e. or_right (cell g c h d) (k.iheld h d) (is.iold_held h d (left_over (cell g c) k.iold h d e).1);
    not_old = is.not_old;
    one_dirty = is.one_dirty;
    others_old = is.others_old;
    instructions_old = λ h d f e held. let other = elsewhere h d f e in elim (or_cases (cell g c h f) (k.iheld h f) held) [
      | inl own ↦ absurd (both_ways (cell g c h f) other own)
      | inr was ↦ kept_by (cell g c) k.iold h f other (is.instructions_old h d f e was)
    ];
  }
    where
      clean : (d : ℕ) → k.dirty g d ≡ true → k.dirty g d ≡ false
      clean d e = let b = is.inside g d e in is_paid grid k (fill_i g c) kept g d b.0 b.1 (own_granule g d)

      -- a dirty granule is not the one that is filled
      elsewhere : (h d f : ℕ) → k.dirty h d ≡ true → cell g c h f ≡ false
      elsewhere h d f e = and_left (eqb h g) (eqb f c) (ne_eqb h g (λ p. both_ways (k.dirty g d) (clean d (rw p at e)) (rw p at e)))

  -- Index and Hit Writeback Invalidate D; Index Store Tag D changes the same facts
  pub after_writeback_invalidate_d : (set : Cells) → IsConsistent grid (next k (writeback_invalidate_d set))
  after_writeback_invalidate_d set = record {
    inside = λ h d e. is.inside h d (left_over set k.dirty h d e).1;
    dirty_held = λ h d e. let p = left_over set k.dirty h d e in kept_by set k.held h d p.0 (is.dirty_held h d p.1);
    old_held = λ h d e. let p = left_over set k.old h d e in kept_by set k.held h d p.0 (is.old_held h d p.1);
    iold_held = is.iold_held;
    not_old = λ h d e. let p = left_over set k.dirty h d e in rw (p.0, is.not_old h d p.1) refl;
    one_dirty = λ h d f e e'. is.one_dirty h d f (left_over set k.dirty h d e).1 (left_over set k.dirty h f e').1;
    others_old = λ h d f e n held. let p = left_over set k.held h f held in kept_by set k.old h f p.0 (is.others_old h d f (left_over set k.dirty h d e).1 n p.1);
    instructions_old = λ h d f e held. is.instructions_old h d f (left_over set k.dirty h d e).1 held;
  }

  pub after_hit_invalidate_d : (set : Cells) → KeepsRules grid k (hit_invalidate_d set) → IsConsistent grid (next k (hit_invalidate_d set))
  after_hit_invalidate_d set kept = record {
    inside = is.inside;
    dirty_held = λ h d e. kept_by set k.held h d (spared h d e) (is.dirty_held h d e);
    old_held = λ h d e. let p = left_over set k.old h d e in kept_by set k.held h d p.0 (is.old_held h d p.1);
    iold_held = is.iold_held;
    not_old = λ h d e. rw (spared h d e, is.not_old h d e) refl;
    one_dirty = is.one_dirty;
    others_old = λ h d f e n held. let p = left_over set k.held h f held in kept_by set k.old h f p.0 (is.others_old h d f e n p.1);
    instructions_old = is.instructions_old;
  }
    where
      spared : (h d : ℕ) → k.dirty h d ≡ true → set h d ≡ false
      spared h d e = false_from_ne_true (set h d) (λ here. let b = is.inside h d e in both_ways (k.dirty h d) (is_saved grid k (hit_invalidate_d set) kept h d b.0 b.1 here) e)

  pub after_hit_writeback_d : (set : Cells) → IsConsistent grid (next k (hit_writeback_d set))
  after_hit_writeback_d set = record {
    inside = λ h d e. is.inside h d (left_over set k.dirty h d e).1;
    dirty_held = λ h d e. is.dirty_held h d (left_over set k.dirty h d e).1;
    old_held = is.old_held;
    iold_held = is.iold_held;
    not_old = λ h d e. is.not_old h d (left_over set k.dirty h d e).1;
    one_dirty = λ h d f e e'. is.one_dirty h d f (left_over set k.dirty h d e).1 (left_over set k.dirty h f e').1;
    others_old = λ h d f e n held. is.others_old h d f (left_over set k.dirty h d e).1 n held;
    instructions_old = λ h d f e held. is.instructions_old h d f (left_over set k.dirty h d e).1 held;
  }
