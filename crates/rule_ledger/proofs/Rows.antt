-- The rows of the table: which answer each test of the facts gives, and what the changes of the marks make of the facts.
use Rattle.std.proofs.Common.{◌≡◌, ℕ, Bool, true, false, refl, ap, ◌∙◌, arith, inl, inr, ◌&&◌, ◌||◌, not, cond, Option, Some, None}
use Rattle.std.proofs.Math.Path.{fun_ext}
use Rattle.std.proofs.lemmas.Bool.{cases_eq}
use Rattle.std.proofs.lemmas.Bool.Decides.{nat_tests}
use Rattle.access_trace.specs.declared.event.Breach.{Breach}
use Rattle.access_trace.specs.declared.event.EventKind.{EventKind}
use Rattle.access_trace.specs.declared.event.EventKind.TheVariants.{Fetch, Load, Store, BeatIn, BeatOut, Cache}
use Rattle.access_trace.specs.declared.event.Event.{Event}
use Rattle.r4_shape.specs.Numbers.{Numbers}
use Rattle.r4_shape.specs.Address.{granule, colour}
use Rattle.rule_ledger.specs.Events.{where_in_ram, access_row, beat_granules, row_by, flushed_by}
use Rattle.access_trace.specs.declared.event.Breach.TheVariants.{Old, Owed, Lost}
use Rattle.rule_ledger.specs.declared.marks.DataMark.{DataMark}
use Rattle.rule_ledger.specs.declared.marks.InstructionMark.{InstructionMark}
use Rattle.rule_ledger.specs.Facts.{Cells, Facts, cell, granules, other_colours, both, either, without, put}
use Rattle.rule_ledger.specs.Cells.{Grid, meets}
use Rattle.rule_ledger.specs.MarkFlags.{all_aged, with_data, with_instruction, data_at, instruction_at}
use Rattle.rule_ledger.specs.Rules.{first_breach, next, cached_load, cached_store, cached_fetch, read_past, write_past, invalidate_i, writeback_invalidate_d, store_tag_d, hit_invalidate_d, fill_i, hit_writeback_d}
use Rattle.rule_ledger.proofs.Meeting.{meets_nowhere}
use Rattle.rule_ledger.proofs.Ageing.{put_same}

-- ---- breaches

-- the answer of a row that neither forges nor shows a tag, by what its sets meet
abbrev pub by_tests : Bool → Bool → Bool → Bool → Option Breach
by_tests old iold owed lost = cond (old || iold) (Some Old) (cond owed (Some Owed) (cond lost (Some Lost) None))

module _ (grid : Grid) (k : Facts) where
  pub load_breach : (g c : ℕ) (old owed : Bool) → meets grid (cell g c) k.old ≡ old → meets grid (other_colours g c) k.dirty ≡ owed → by_tests old false owed false ≡ first_breach grid k (cached_load g c)
  load_breach g c old owed e f = rw (e, f, meets_nowhere grid k.iold) refl

  pub store_breach : (g c : ℕ) (old owed : Bool) → meets grid (cell g c) k.old ≡ old → meets grid (other_colours g c) k.dirty ≡ owed → by_tests old false owed false ≡ first_breach grid k (cached_store g c)
  store_breach g c old owed e f = rw (e, f, meets_nowhere grid k.iold) refl

  pub fetch_breach : (g c : ℕ) (old owed : Bool) → meets grid (cell g c) k.iold ≡ old → meets grid (granules g 1) k.dirty ≡ owed → by_tests false old owed false ≡ first_breach grid k (cached_fetch g c)
  fetch_breach g c old owed e f = rw (e, f, meets_nowhere grid k.old) refl

  pub read_breach : (set : Cells) (owed : Bool) → meets grid set k.dirty ≡ owed → by_tests false false owed false ≡ first_breach grid k (read_past set)
  read_breach set owed f = rw (f, meets_nowhere grid k.old) refl

  pub write_breach : (set : Cells) (owed : Bool) → meets grid set k.dirty ≡ owed → by_tests false false owed false ≡ first_breach grid k (write_past set)
  write_breach set owed f = rw (f, meets_nowhere grid k.old) refl

  pub invalidate_i_breach : (set : Cells) → None ≡ first_breach grid k (invalidate_i set)
  invalidate_i_breach set = rw (meets_nowhere grid k.old) refl

  pub writeback_invalidate_d_breach : (set : Cells) → None ≡ first_breach grid k (writeback_invalidate_d set)
  writeback_invalidate_d_breach set = rw (meets_nowhere grid k.old) refl

  pub hit_writeback_d_breach : (set : Cells) → None ≡ first_breach grid k (hit_writeback_d set)
  hit_writeback_d_breach set = rw (meets_nowhere grid k.old) refl

  pub store_tag_d_breach : (set : Cells) (lost : Bool) → meets grid set k.dirty ≡ lost → by_tests false false false lost ≡ first_breach grid k (store_tag_d set)
  store_tag_d_breach set lost f = rw (f, meets_nowhere grid k.old) refl

  pub hit_invalidate_d_breach : (set : Cells) (lost : Bool) → meets grid set k.dirty ≡ lost → by_tests false false false lost ≡ first_breach grid k (hit_invalidate_d set)
  hit_invalidate_d_breach set lost f = rw (f, meets_nowhere grid k.old) refl

  pub fill_i_breach : (g c : ℕ) (owed : Bool) → meets grid (granules g 1) k.dirty ≡ owed → by_tests false false owed false ≡ first_breach grid k (fill_i g c)
  fill_i_breach g c owed f = rw (f, meets_nowhere grid k.old) refl

-- ---- facts

put_true : (set fact : Cells) → put set true fact ≡ either set fact
put_true set fact = fun_ext (λ g. fun_ext (λ c. at (set g c) (fact g c)))
  where
    at : (b x : Bool) → cond b true x ≡ (b || x)
    at true x = refl
    at false x = refl

put_false : (set fact : Cells) → put set false fact ≡ without set fact
put_false set fact = fun_ext (λ g. fun_ext (λ c. at (set g c) (fact g c)))
  where
    at : (b x : Bool) → cond b false x ≡ (not b && x)
    at true x = refl
    at false x = refl

-- of a granule at one colour that is not old, and at the others where they are held
stored_old : (held old : Cells) (g c : ℕ) → old g c ≡ false → put (cell g c) false (either (both (granules g 1) held) old) ≡ either (both (other_colours g c) held) old
stored_old held old g c e = fun_ext (λ h. fun_ext (λ d. at h d))
  where
    at : (h d : ℕ) → put (cell g c) false (either (both (granules g 1) held) old) h d ≡ either (both (other_colours g c) held) old h d
    at h d = elim (cases_eq h g) [
      | inl p ↦ elim (cases_eq d c) [
        | inl q ↦ rw (p, q, e) (grind (arith, nat_tests))
        | inr q ↦ grind (arith, nat_tests)
      ]
      | inr p ↦ grind (arith, nat_tests)
    ]

module _ (k : Facts) (g c : ℕ) where
  pub loaded : (m : DataMark) → m ≡ data_at k g c → with_data g c (record m { held = true }) k ≡ next k (cached_load g c)
  loaded m e = ap (λ (n : DataMark). with_data g c (record n { held = true }) k) e ∙ whole
    where
      whole : with_data g c (record (data_at k g c) { held = true }) k ≡ next k (cached_load g c)
      whole =
          let held = put_true (cell g c) k.held in
          let dirty = put_same k.dirty g c in
          let old = put_same k.old g c in
          λ i. record { held = held i; dirty = dirty i; old = old i; iheld = k.iheld; iold = k.iold }

  pub stored : k.old g c ≡ false → with_data g c (record { held = true; dirty = true; old = false }) (all_aged (granules g 1) k) ≡ next k (cached_store g c)
  stored e =
      let held = put_true (cell g c) k.held in
      let dirty = put_true (cell g c) k.dirty in
      let old = stored_old k.held k.old g c e in
      λ i. record { held = held i; dirty = dirty i; old = old i; iheld = k.iheld; iold = either (both (granules g 1) k.iheld) k.iold }

  pub fetched : (m : InstructionMark) → m ≡ instruction_at k g c → with_instruction g c (record m { held = true }) k ≡ next k (cached_fetch g c)
  fetched m e = ap (λ (n : InstructionMark). with_instruction g c (record n { held = true }) k) e ∙ whole
    where
      whole : with_instruction g c (record (instruction_at k g c) { held = true }) k ≡ next k (cached_fetch g c)
      whole =
          let held = put_true (cell g c) k.iheld in
          let old = put_same k.iold g c in
          λ i. record { held = k.held; dirty = k.dirty; old = k.old; iheld = held i; iold = old i }

  pub hit_invalidated_i : with_instruction g c (record { held = false; old = false }) k ≡ next k (invalidate_i (cell g c))
  hit_invalidated_i =
      let held = put_false (cell g c) k.iheld in
      let old = put_false (cell g c) k.iold in
      λ i. record { held = k.held; dirty = k.dirty; old = k.old; iheld = held i; iold = old i }

  pub filled : with_instruction g c (record { held = true; old = false }) k ≡ next k (fill_i g c)
  filled =
      let held = put_true (cell g c) k.iheld in
      let old = put_false (cell g c) k.iold in
      λ i. record { held = k.held; dirty = k.dirty; old = k.old; iheld = held i; iold = old i }

  pub hit_invalidated_d : (m : DataMark) → m ≡ data_at k g c → with_data g c (record m { held = false; old = false }) k ≡ next k (hit_invalidate_d (cell g c))
  hit_invalidated_d m e = ap (λ (n : DataMark). with_data g c (record n { held = false; old = false }) k) e ∙ whole
    where
      whole : with_data g c (record (data_at k g c) { held = false; old = false }) k ≡ next k (hit_invalidate_d (cell g c))
      whole =
          let held = put_false (cell g c) k.held in
          let dirty = put_same k.dirty g c in
          let old = put_false (cell g c) k.old in
          λ i. record { held = held i; dirty = dirty i; old = old i; iheld = k.iheld; iold = k.iold }

  pub hit_written_invalidated_d : with_data g c (record { held = false; dirty = false; old = false }) k ≡ next k (writeback_invalidate_d (cell g c))
  hit_written_invalidated_d =
      let held = put_false (cell g c) k.held in
      let dirty = put_false (cell g c) k.dirty in
      let old = put_false (cell g c) k.old in
      λ i. record { held = held i; dirty = dirty i; old = old i; iheld = k.iheld; iold = k.iold }

  pub hit_written_d : (m : DataMark) → m ≡ data_at k g c → with_data g c (record m { dirty = false }) k ≡ next k (hit_writeback_d (cell g c))
  hit_written_d m e = ap (λ (n : DataMark). with_data g c (record n { dirty = false }) k) e ∙ whole
    where
      whole : with_data g c (record (data_at k g c) { dirty = false }) k ≡ next k (hit_writeback_d (cell g c))
      whole =
          let held = put_same k.held g c in
          let dirty = put_false (cell g c) k.dirty in
          let old = put_same k.old g c in
          λ i. record { held = held i; dirty = dirty i; old = old i; iheld = k.iheld; iold = k.iold }

-- the row of an event that is no operation
pub row_of_access : (kind : EventKind) (shape : Numbers) (event : Event) → (kind ≡ Cache → ⊥)
    → where_in_ram event.pa (access_row kind event.cached (granule shape event.pa) (colour shape event.va) (beat_granules shape)) ≡ row_by kind shape event
row_of_access Fetch shape event other = refl
row_of_access Load shape event other = refl
row_of_access Store shape event other = refl
row_of_access BeatIn shape event other = refl
row_of_access BeatOut shape event other = refl
row_of_access Cache shape event other = absurd (other refl)

-- no event but an operation throws the lines of an index away
pub no_flush : (kind : EventKind) (event : Event) → (kind ≡ Cache → ⊥) → flushed_by kind event ≡ true → ⊥
no_flush Fetch event other e = cc
no_flush Load event other e = cc
no_flush Store event other e = cc
no_flush BeatIn event other e = cc
no_flush BeatOut event other e = cc
no_flush Cache event other e = other refl
