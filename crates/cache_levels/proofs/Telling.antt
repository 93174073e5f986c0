-- What the ledger says of the copies of a cache: after a place was emptied or given a line, after the ledger was told more, and after it
-- forgot what is not so.
use Rattle.std.proofs.Common.{◌≡◌, ◌≢◌, ℕ, ◌/◌, ◌%◌, ◌<◌, true, false, List, Option, Some, None, set, sym, ap, ◌∙◌, inl, inr}
use Rattle.std.proofs.lemmas.Bool.{cases_eq, false≢true, false_from_ne_true}
use Rattle.line_moves.specs.Lines.{Line}
use Rattle.rule_ledger.specs.Facts.{Cells, Facts, either, without}
use Rattle.cache_levels.specs.Copies.{copy_at, StandsInPlace, NoneDirty}
use Rattle.cache_levels.specs.Told.{IsHeld, IsKnownDirty, IsFlatUnlessOld, AllHeld, AllKnownDirty, AllFlatUnlessOld, DataTold, InstructionsTold}
use Rattle.cache_levels.proofs.Places.{kept_after_none, each_set, none_some, same_place, either_kept, without_kept, without_false}

-- ---- a place was emptied, or given a line

module _ (size page : ℕ) (k : Facts) (flat : ℕ → ℕ) (xs : List (Option Line)) (i : ℕ) where
  pub data_emptied : DataTold size page k flat xs → DataTold size page k flat (set xs i None)
  data_emptied h = record {
    held = λ j x e. h.held j x (kept_after_none xs i j x e);
    dirty = λ j x e. h.dirty j x (kept_after_none xs i j x e);
    fresh = λ j x e. h.fresh j x (kept_after_none xs i j x e);
  }

  pub instructions_emptied : InstructionsTold size page k flat xs → InstructionsTold size page k flat (set xs i None)
  instructions_emptied h = record {
    held = λ j x e. h.held j x (kept_after_none xs i j x e);
    fresh = λ j x e. h.fresh j x (kept_after_none xs i j x e);
  }

  pub data_set : (l : Line) → DataTold size page k flat xs → IsHeld page k.held i l → IsKnownDirty page k.dirty i l → IsFlatUnlessOld size page k.old flat i l
      → DataTold size page k flat (set xs i (Some l))
  data_set l h held dirty fresh = record {
    held = each_set xs i l (λ j x. IsHeld page k.held j x) held (λ j x ne e. h.held j x e);
    dirty = each_set xs i l (λ j x. IsKnownDirty page k.dirty j x) dirty (λ j x ne e. h.dirty j x e);
    fresh = each_set xs i l (λ j x. IsFlatUnlessOld size page k.old flat j x) fresh (λ j x ne e. h.fresh j x e);
  }

  pub instructions_set : (l : Line) → InstructionsTold size page k flat xs → IsHeld page k.iheld i l → IsFlatUnlessOld size page k.iold flat i l
      → InstructionsTold size page k flat (set xs i (Some l))
  instructions_set l h held fresh = record {
    held = each_set xs i l (λ j x. IsHeld page k.iheld j x) held (λ j x ne e. h.held j x e);
    fresh = each_set xs i l (λ j x. IsFlatUnlessOld size page k.iold flat j x) fresh (λ j x ne e. h.fresh j x e);
  }

-- ---- the ledger was told more

pub held_more : (page : ℕ) (cells held : Cells) (xs : List (Option Line)) → AllHeld page held xs → AllHeld page (either cells held) xs
held_more page cells held xs h j x e = either_kept cells held x.number (j / page) (h j x e)

-- ---- the ledger forgot

-- no copy stands at these cells, and no dirty one
abbrev pub NoneAt : ℕ → Cells → List (Option Line) → Type 0
NoneAt page cells xs = (j : ℕ) (x : Line) → copy_at xs j ≡ Some x → cells x.number (j / page) ≡ false

abbrev pub NoneDirtyAt : ℕ → Cells → List (Option Line) → Type 0
NoneDirtyAt page cells xs = (j : ℕ) (x : Line) → copy_at xs j ≡ Some x → x.dirty ≡ true → cells x.number (j / page) ≡ false

module _ (page : ℕ) (cells : Cells) (xs : List (Option Line)) where
  pub held_less : (held : Cells) → NoneAt page cells xs → AllHeld page held xs → AllHeld page (without cells held) xs
  held_less held none h j x e = without_kept cells held x.number (j / page) (none j x e) (h j x e)

  pub dirty_less : (dirty : Cells) → NoneDirtyAt page cells xs → AllKnownDirty page dirty xs → AllKnownDirty page (without cells dirty) xs
  dirty_less dirty none h j x e d = without_kept cells dirty x.number (j / page) (none j x e d) (h j x e d)

  pub fresh_less : (size : ℕ) (old : Cells) (flat : ℕ → ℕ) → NoneAt page cells xs → AllFlatUnlessOld size page old flat xs → AllFlatUnlessOld size page (without cells old) flat xs
  fresh_less size old flat none h j x e a q o = h j x e a q (without_false cells old x.number (j / page) (none j x e) o)

-- ---- the ledger says the same

pub held_same : (page : ℕ) (held held' : Cells) (xs : List (Option Line)) → ((g c : ℕ) → held' g c ≡ held g c) → AllHeld page held xs → AllHeld page held' xs
held_same page held held' xs s h j x e = s x.number (j / page) ∙ h j x e

pub dirty_same : (page : ℕ) (dirty dirty' : Cells) (xs : List (Option Line)) → ((g c : ℕ) → dirty' g c ≡ dirty g c) → AllKnownDirty page dirty xs → AllKnownDirty page dirty' xs
dirty_same page dirty dirty' xs s h j x e d = s x.number (j / page) ∙ h j x e d

pub fresh_same : (size page : ℕ) (old old' : Cells) (flat : ℕ → ℕ) (xs : List (Option Line)) → ((g c : ℕ) → old' g c ≡ old g c) → AllFlatUnlessOld size page old flat xs
    → AllFlatUnlessOld size page old' flat xs
fresh_same size page old old' flat xs s h j x e a q o = h j x e a q (sym (s x.number (j / page)) ∙ o)

-- ---- what it says of the dirty copies of a line

module _ (page : ℕ) (dirty : Cells) (xs : List (Option Line)) (told : AllKnownDirty page dirty xs) (n : ℕ) where
  -- none is dirty where the line is clean at every colour
  pub all_clean : ((c : ℕ) → dirty n c ≡ false) → NoneDirty xs n
  all_clean owed j x e q = false_from_ne_true x.dirty (λ d. false≢true (sym (owed (j / page)) ∙ (rw q at (told j x e d))))

  -- nor where it is clean but for one colour, and the line's place at that colour is empty
  pub none_dirty : 0 < page → ((j : ℕ) (x : Line) → copy_at xs j ≡ Some x → StandsInPlace page j x) → (i : ℕ) → copy_at xs i ≡ None → n % page ≡ i % page
      → ((c : ℕ) → c ≢ i / page → dirty n c ≡ false) → NoneDirty xs n
  none_dirty page_pos places i empty place owed j x e q =
      false_from_ne_true x.dirty (λ d. elim (cases_eq (j / page) (i / page)) [
        | inl same ↦ none_some x (sym empty ∙ (ap (copy_at xs) (sym (same_place page j i page_pos same (sym (places j x e) ∙ (ap (λ z. z % page) q ∙ place)))) ∙ e))
        | inr other ↦ false≢true (sym (owed (j / page) other) ∙ (rw q at (told j x e d)))
      ])
