-- Each move of a line keeps the levels, and so does what the ledger may be told and may forget.
use Rattle.std.proofs.Common.{◌≡◌, ℕ, ◌+◌, ◌*◌, ◌/◌, ◌%◌, ◌<◌, ◌≤◌, true, false, List, length, Option, Some, None, get_or, refl, sym, ap, ◌∙◌, inl, inr}
use Rattle.std.proofs.lemmas.Bool.{cases_eq, cond_both, false≢true}
use Rattle.std.proofs.lemmas.List.{get_or-set_same, length-set}
use Rattle.std.proofs.lemmas.List.FromFn.{fill_by_all, length-map-range_with_len}
use Rattle.flat_ram.specs.Bytes.{bytes_at, put_bytes}
use Rattle.flat_ram.proofs.Replaced.{length_put}
use Rattle.line_moves.specs.declared.hierarchy.Hier.{Hier}
use Rattle.line_moves.specs.Lines.{Line, marked, written, with_line}
use Rattle.line_moves.specs.Moves.{put_within, discard, put}
use Rattle.line_moves.proofs.WithoutSecondary.{back, back_line, fill, line_of_ram, to_ram}
use Rattle.line_moves.proofs.Cuts.{length_bytes_at}
use Rattle.rule_ledger.specs.Facts.{Cells, Facts, cell, other_colours, granules, both, either, without}
use Rattle.rule_ledger.specs.Rules.{next, cached_store, write_past}
use Rattle.cache_levels.specs.Copies.{Stands, NoneDirty, copy_at}
use Rattle.cache_levels.specs.Told.{IsHeld, IsKnownDirty, IsFlatUnlessOld}
use Rattle.cache_levels.specs.Levels.{Levels, data_place, instruction_place, flat_over, newest_at, newest}
use Rattle.cache_levels.proofs.Places.{copy_at-set_other, copy_at-set_same, each_set, none_some, in_list, first_dirty_cases, same_place, line_below, line_cut, length_within, line_written, line_written_other, untouched, flat_over-other, written_byte, put_flat, either_here, either_kept, either_false, aged_here, other_colour, own_granule}
use Rattle.cache_levels.proofs.Standing.{stands_emptied, stands_set}
use Rattle.cache_levels.proofs.Telling.{NoneAt, NoneDirtyAt, data_emptied, instructions_emptied, data_set, instructions_set, held_more, held_less, dirty_less, fresh_less, held_same, dirty_same, fresh_same}

-- the number of the line at a place, and 0 where there is none
abbrev number_of : Option Line → ℕ
number_of None = 0
number_of (Some l) = l.number

-- what is dirty in the ledger is not old there
abbrev pub NeverOld : Facts → Type 0
NeverOld k = (g c : ℕ) → k.dirty g c ≡ true → k.old g c ≡ false

-- Two ledgers that say the same.
pub record SameFacts (k k' : Facts) : Type 0 where
  pub held : (g c : ℕ) → k'.held g c ≡ k.held g c
  pub dirty : (g c : ℕ) → k'.dirty g c ≡ k.dirty g c
  pub old : (g c : ℕ) → k'.old g c ≡ k.old g c
  pub iheld : (g c : ℕ) → k'.iheld g c ≡ k.iheld g c
  pub iold : (g c : ℕ) → k'.iold g c ≡ k.iold g c

-- after Back the line at the place is clean
pub clean_after_back : (m : Hier) (i : ℕ) (l : Line) → copy_at (back (data_place i) m).caches.d i ≡ Some l → l.dirty ≡ false
clean_after_back m i l = go (copy_at m.caches.d i) refl
  where
    go : (o : Option Line) → copy_at m.caches.d i ≡ o → copy_at (back_line (data_place i) o m).caches.d i ≡ Some l → l.dirty ≡ false
    go None e = λ q. absurd (none_some l (sym e ∙ q))
    go (Some k) e = cond_both k.dirty (record (to_ram k m) { caches = with_line (data_place i) (Some (marked false k)) m.caches }) m
        (λ x. copy_at x.caches.d i ≡ Some l → l.dirty ≡ false)
        (λ d q. ap (λ (x : Line). x.dirty) (copy_at-set_same m.caches.d i (marked false k) l q))
        (λ d q. let s : k ≡ l = cc in rw (← s) d)

module _ (size page count top : ℕ) (size_pos : 0 < size) where
  -- ---- moves

  -- Discard on D, of a clean line or none
  pub discard_keeps : (m : Hier) (k : Facts) (flat : ℕ → ℕ) (i : ℕ) → Levels size page count top m k flat
      → ((l : Line) → copy_at m.caches.d i ≡ Some l → l.dirty ≡ false) → Levels size page count top (discard (data_place i) m) k flat
  discard_keeps m k flat i h clean = record {
    data_stands = stands_emptied size page top m.caches.d i h.data_stands;
    instructions_stand = h.instructions_stand;
    data_told = data_emptied size page k flat m.caches.d i h.data_told;
    instructions_told = h.instructions_told;
    ram = λ a lt none. h.ram a lt (λ j l e n. elim (cases_eq j i) [ inl q ↦ clean l (rw q at e) | inr q ↦ none j l (rw (copy_at-set_other m.caches.d i j None q) e) n ]);
    sizes = record { line = h.sizes.line; ram = h.sizes.ram; data_places = length-set m.caches.d i None ∙ h.sizes.data_places; instruction_places = h.sizes.instruction_places };
  }

  -- Discard on I
  pub discard_i_keeps : (m : Hier) (k : Facts) (flat : ℕ → ℕ) (i : ℕ) → Levels size page count top m k flat → Levels size page count top (discard (instruction_place i) m) k flat
  discard_i_keeps m k flat i h = record {
    data_stands = h.data_stands;
    instructions_stand = stands_emptied size page top m.caches.i i h.instructions_stand;
    data_told = h.data_told;
    instructions_told = instructions_emptied size page k flat m.caches.i i h.instructions_told;
    ram = h.ram;
    sizes = record { line = h.sizes.line; ram = h.sizes.ram; data_places = h.sizes.data_places; instruction_places = length-set m.caches.i i None ∙ h.sizes.instruction_places };
  }

  -- Back of a dirty line
  back_dirty : (m : Hier) (k : Facts) (flat : ℕ → ℕ) (i : ℕ) (l : Line) → copy_at m.caches.d i ≡ Some l → l.dirty ≡ true → NeverOld k → Levels size page count top m k flat
      → Levels size page count top (record (to_ram l m) { caches = with_line (data_place i) (Some (marked false l)) m.caches }) k flat
  back_dirty m k flat i l at is_dirty never h =
      let s = h.data_stands i l at in
      let known = h.data_told.dirty i l at is_dirty in
      let inside : l.number * size + size ≤ length m.ram = rw h.sizes.ram s.inside in
      let to : put_within m.ram (l.number * m.caches.shape.line) l.bytes ≡ put_within m.ram (l.number * size) l.bytes = ap (λ (s : ℕ). put_within m.ram (l.number * s) l.bytes) h.sizes.line in
      record {
        data_stands = stands_set size page top m.caches.d i h.data_stands (marked false l) (record { whole = s.whole; inside = s.inside; place = s.place });
        instructions_stand = h.instructions_stand;
        data_told = data_set size page k flat m.caches.d i (marked false l) h.data_told (h.data_told.held i l at) (λ x. known) (h.data_told.fresh i l at);
        instructions_told = h.instructions_told;
        ram = λ a lt none. ap (λ (ram : List ℕ). get_or ram a 0) to ∙ elim (cases_eq l.number (a / size)) [
          | inl q ↦ line_written size m.ram l.number l.bytes a size_pos s.whole inside q ∙ h.data_told.fresh i l at a q (never l.number (i / page) known)
          | inr q ↦ line_written_other size m.ram l.number l.bytes a size_pos s.whole inside q
              ∙ h.ram a lt (λ j x e n. elim (cases_eq j i) [
                | inl same ↦ absurd (q (ap number_of (sym at ∙ (ap (copy_at m.caches.d) (sym same) ∙ e)) ∙ n))
                | inr other ↦ none j x (rw (copy_at-set_other m.caches.d i j (Some (marked false l)) other) e) n
              ])
        ];
        sizes = record {
          line = h.sizes.line;
          ram = length_within m.ram (l.number * m.caches.shape.line) l.bytes ∙ h.sizes.ram;
          data_places = length-set m.caches.d i (Some (marked false l)) ∙ h.sizes.data_places;
          instruction_places = h.sizes.instruction_places;
        };
      }

  -- Back on D
  pub back_keeps : (m : Hier) (k : Facts) (flat : ℕ → ℕ) (i : ℕ) → NeverOld k → Levels size page count top m k flat → Levels size page count top (back (data_place i) m) k flat
  back_keeps m k flat i never h = go (copy_at m.caches.d i) refl
    where
      go : (o : Option Line) → copy_at m.caches.d i ≡ o → Levels size page count top (back_line (data_place i) o m) k flat
      go None e = h
      go (Some l) e = cond_both l.dirty (record (to_ram l m) { caches = with_line (data_place i) (Some (marked false l)) m.caches }) m (λ x. Levels size page count top x k flat) (λ d. back_dirty m k flat i l e d never h) (λ _. h)

  -- a line that is read from RAM stands, and has the flat bytes where no copy of it in D is dirty
  read_stands : (m : Hier) (k : Facts) (flat : ℕ → ℕ) (i n : ℕ) → Levels size page count top m k flat → n * size + size ≤ top → n % page ≡ i % page
      → Stands size page top i (line_of_ram m.caches.shape.line n m.ram)
  read_stands m k flat i n h inside place =
      record { whole = rw h.sizes.line (length_bytes_at m.ram (n * size) size (rw h.sizes.ram inside)); inside = inside; place = place }

  read_fresh : (m : Hier) (k : Facts) (flat : ℕ → ℕ) (i n : ℕ) (old : Cells) → Levels size page count top m k flat → NoneDirty m.caches.d n → n * size + size ≤ top
      → IsFlatUnlessOld size page old flat i (line_of_ram m.caches.shape.line n m.ram)
  read_fresh m k flat i n old h none_dirty inside a q o =
      ap (λ (s : ℕ). get_or (bytes_at m.ram (n * s) s) (a % size) 0) h.sizes.line
      ∙ line_cut size m.ram n a size_pos q ∙ h.ram a (line_below size n a top size_pos q inside) (λ j x e q'. none_dirty j x e (q' ∙ sym q))

  -- Fill on D, into an empty place, of a line of which no copy is dirty
  pub fill_d_keeps : (m : Hier) (k : Facts) (flat : ℕ → ℕ) (i n : ℕ) → Levels size page count top m k flat → copy_at m.caches.d i ≡ None → NoneDirty m.caches.d n
      → n * size + size ≤ top → n % page ≡ i % page → k.held n (i / page) ≡ true → Levels size page count top (fill (data_place i) n m) k flat
  fill_d_keeps m k flat i n h empty none_dirty inside place held =
      let new : Line = line_of_ram m.caches.shape.line n m.ram in
      record {
        data_stands = stands_set size page top m.caches.d i h.data_stands new (read_stands m k flat i n h inside place);
        instructions_stand = h.instructions_stand;
        data_told = data_set size page k flat m.caches.d i new h.data_told held (λ x. absurd (false≢true x)) (read_fresh m k flat i n k.old h none_dirty inside);
        instructions_told = h.instructions_told;
        ram = λ a lt none. h.ram a lt (λ j x e q. elim (cases_eq j i) [
          | inl same ↦ absurd (none_some x (sym empty ∙ (ap (copy_at m.caches.d) (sym same) ∙ e)))
          | inr other ↦ none j x (rw (copy_at-set_other m.caches.d i j (Some new) other) e) q
        ]);
        sizes = record { line = h.sizes.line; ram = h.sizes.ram; data_places = length-set m.caches.d i (Some new) ∙ h.sizes.data_places; instruction_places = h.sizes.instruction_places };
      }

  -- Fill on I, of a line of which no copy in D is dirty
  pub fill_i_keeps : (m : Hier) (k : Facts) (flat : ℕ → ℕ) (i n : ℕ) → Levels size page count top m k flat → NoneDirty m.caches.d n
      → n * size + size ≤ top → n % page ≡ i % page → k.iheld n (i / page) ≡ true → Levels size page count top (fill (instruction_place i) n m) k flat
  fill_i_keeps m k flat i n h none_dirty inside place held =
      let new : Line = line_of_ram m.caches.shape.line n m.ram in
      record {
        data_stands = h.data_stands;
        instructions_stand = stands_set size page top m.caches.i i h.instructions_stand new (read_stands m k flat i n h inside place);
        data_told = h.data_told;
        instructions_told = instructions_set size page k flat m.caches.i i new h.instructions_told held (read_fresh m k flat i n k.iold h none_dirty inside);
        ram = h.ram;
        sizes = record { line = h.sizes.line; ram = h.sizes.ram; data_places = h.sizes.data_places; instruction_places = length-set m.caches.i i (Some new) ∙ h.sizes.instruction_places };
      }

  -- ---- writes

  -- a write into a line of D that is not old, where no other colour is dirty, with the facts of a store
  pub write_line_keeps : (m : Hier) (k : Facts) (flat : ℕ → ℕ) (i n pa : ℕ) (bs : List ℕ) (l : Line) → 0 < page → Levels size page count top m k flat
      → copy_at m.caches.d i ≡ Some l → l.number ≡ n → n ≡ pa / size → pa % size + length bs ≤ size → k.old n (i / page) ≡ false
      → Levels size page count top (put (data_place i) (pa % size) bs m) (next k (cached_store n (i / page))) (flat_over flat pa bs)
  write_line_keeps m k flat i n pa bs l page_pos h at number same_line fits fresh =
      let s = h.data_stands i l at in
      let told = h.data_told in
      let k' : Facts = next k (cached_store n (i / page)) in
      let new : Line = written (pa % size) bs l in
      let place : i % page ≡ n % page = sym s.place ∙ ap (λ z. z % page) number in
      let room : pa % size + length bs ≤ length l.bytes = rw s.whole fits in
      rw at (record {
        data_stands = stands_set size page top m.caches.d i h.data_stands new (record { whole = length_put l.bytes bs (pa % size) room ∙ s.whole; inside = s.inside; place = s.place });
        instructions_stand = h.instructions_stand;
        data_told = record {
          held = each_set m.caches.d i new (λ j x. IsHeld page k'.held j x) (rw number (either_here n (i / page) k.held))
              (λ j x ne e. either_kept (cell n (i / page)) k.held x.number (j / page) (told.held j x e));
          dirty = each_set m.caches.d i new (λ j x. IsKnownDirty page k'.dirty j x) (λ _. rw number (either_here n (i / page) k.dirty))
              (λ j x ne e d. either_kept (cell n (i / page)) k.dirty x.number (j / page) (told.dirty j x e d));
          fresh = each_set m.caches.d i new (λ j x. IsFlatUnlessOld size page k'.old (flat_over flat pa bs) j x)
              (λ a q o. written_byte size l.bytes pa bs flat a size_pos s.whole fits (sym same_line ∙ (sym number ∙ q)) (told.fresh i l at a q (rw number fresh)))
              (λ j x ne e a q o. elim (cases_eq x.number n) [
                | inl same ↦ absurd (false≢true (sym o ∙ rw same (aged_here (other_colours n (i / page)) k.held k.old n (j / page)
                    (other_colour n (i / page) (j / page) (λ c. ne (same_place page j i page_pos c (sym (h.data_stands j x e).place ∙ (ap (λ z. z % page) same ∙ sym place))))) (rw same at (told.held j x e)))))
                | inr other ↦ told.fresh j x e a q (either_false (both (other_colours n (i / page)) k.held) k.old x.number (j / page) o)
                    ∙ sym (flat_over-other size pa bs flat a size_pos fits (λ c. other (q ∙ (sym c ∙ sym same_line))))
              ]);
        };
        instructions_told = record {
          held = h.instructions_told.held;
          fresh = λ j x e a q o. elim (cases_eq x.number n) [
            | inl same ↦ absurd (false≢true (sym o ∙ rw same (aged_here (granules n 1) k.iheld k.iold n (j / page) (own_granule n (j / page)) (rw same at (h.instructions_told.held j x e)))))
            | inr other ↦ h.instructions_told.fresh j x e a q (either_false (both (granules n 1) k.iheld) k.iold x.number (j / page) o)
                ∙ sym (flat_over-other size pa bs flat a size_pos fits (λ c. other (q ∙ (sym c ∙ sym same_line))))
          ];
        };
        ram = λ a lt none. elim (cases_eq l.number (a / size)) [
          | inl q ↦ absurd (false≢true (sym (none i new (get_or-set_same m.caches.d i (Some new) None (in_list m.caches.d i l at)) q)))
          | inr q ↦ h.ram a lt (λ j x e u. elim (cases_eq j i) [
            | inl same ↦ absurd (q (ap number_of (sym at ∙ (ap (copy_at m.caches.d) (sym same) ∙ e)) ∙ u))
            | inr other ↦ none j x (rw (copy_at-set_other m.caches.d i j (Some new) other) e) u
          ])
              ∙ sym (flat_over-other size pa bs flat a size_pos fits (λ c. q (number ∙ (same_line ∙ c))))
        ];
        sizes = record { line = h.sizes.line; ram = h.sizes.ram; data_places = length-set m.caches.d i (Some new) ∙ h.sizes.data_places; instruction_places = h.sizes.instruction_places };
      })

  -- a write into RAM, with the facts of a write past the caches
  pub write_ram_keeps : (m : Hier) (k : Facts) (flat : ℕ → ℕ) (pa : ℕ) (bs : List ℕ) (cells : Cells) → Levels size page count top m k flat
      → pa + length bs ≤ top → ((a c : ℕ) → pa ≤ a → a < pa + length bs → cells (a / size) c ≡ true)
      → Levels size page count top (record m { ram = put_bytes m.ram pa bs }) (next k (write_past cells)) (flat_over flat pa bs)
  write_ram_keeps m k flat pa bs cells h fits covers =
      let room : pa + length bs ≤ length m.ram = rw h.sizes.ram fits in
      record {
        data_stands = h.data_stands;
        instructions_stand = h.instructions_stand;
        data_told = record {
          held = h.data_told.held;
          dirty = h.data_told.dirty;
          fresh = λ j x e a q o. h.data_told.fresh j x e a q (either_false (both cells k.held) k.old x.number (j / page) o)
              ∙ sym (untouched flat pa bs a (λ low high. false≢true (sym o ∙ aged_here cells k.held k.old x.number (j / page) (rw q (covers a (j / page) low high)) (h.data_told.held j x e))));
        };
        instructions_told = record {
          held = h.instructions_told.held;
          fresh = λ j x e a q o. h.instructions_told.fresh j x e a q (either_false (both cells k.iheld) k.iold x.number (j / page) o)
              ∙ sym (untouched flat pa bs a (λ low high. false≢true (sym o ∙ aged_here cells k.iheld k.iold x.number (j / page) (rw q (covers a (j / page) low high)) (h.instructions_told.held j x e))));
        };
        ram = λ a lt none. put_flat m.ram pa bs flat a room (h.ram a lt none);
        sizes = record { line = h.sizes.line; ram = length_put m.ram bs pa room ∙ h.sizes.ram; data_places = h.sizes.data_places; instruction_places = h.sizes.instruction_places };
      }

  -- ---- what the ledger may say more

  pub held_keeps : (m : Hier) (k : Facts) (flat : ℕ → ℕ) (cells : Cells) → Levels size page count top m k flat → Levels size page count top m (record k { held = either cells k.held }) flat
  held_keeps m k flat cells h = record {
    data_stands = h.data_stands;
    instructions_stand = h.instructions_stand;
    data_told = record { held = held_more page cells k.held m.caches.d h.data_told.held; dirty = h.data_told.dirty; fresh = h.data_told.fresh };
    instructions_told = record { held = h.instructions_told.held; fresh = h.instructions_told.fresh };
    ram = h.ram;
    sizes = h.sizes;
  }

  pub iheld_keeps : (m : Hier) (k : Facts) (flat : ℕ → ℕ) (cells : Cells) → Levels size page count top m k flat → Levels size page count top m (record k { iheld = either cells k.iheld }) flat
  iheld_keeps m k flat cells h = record {
    data_stands = h.data_stands;
    instructions_stand = h.instructions_stand;
    data_told = record { held = h.data_told.held; dirty = h.data_told.dirty; fresh = h.data_told.fresh };
    instructions_told = record { held = held_more page cells k.iheld m.caches.i h.instructions_told.held; fresh = h.instructions_told.fresh };
    ram = h.ram;
    sizes = h.sizes;
  }

  -- ---- what the ledger may forget

  -- that copies of D are held, and old, at cells where no copy stands
  pub data_forgotten_keeps : (m : Hier) (k : Facts) (flat : ℕ → ℕ) (cells : Cells) → Levels size page count top m k flat → NoneAt page cells m.caches.d
      → Levels size page count top m (record k { held = without cells k.held; old = without cells k.old }) flat
  data_forgotten_keeps m k flat cells h none = record {
    data_stands = h.data_stands;
    instructions_stand = h.instructions_stand;
    data_told = record {
      held = held_less page cells m.caches.d k.held none h.data_told.held;
      dirty = h.data_told.dirty;
      fresh = fresh_less page cells m.caches.d size k.old flat none h.data_told.fresh;
    };
    instructions_told = record { held = h.instructions_told.held; fresh = h.instructions_told.fresh };
    ram = h.ram;
    sizes = h.sizes;
  }

  -- that copies of D are dirty, at cells where no dirty copy stands
  pub dirty_forgotten_keeps : (m : Hier) (k : Facts) (flat : ℕ → ℕ) (cells : Cells) → Levels size page count top m k flat → NoneDirtyAt page cells m.caches.d
      → Levels size page count top m (record k { dirty = without cells k.dirty }) flat
  dirty_forgotten_keeps m k flat cells h none = record {
    data_stands = h.data_stands;
    instructions_stand = h.instructions_stand;
    data_told = record { held = h.data_told.held; dirty = dirty_less page cells m.caches.d k.dirty none h.data_told.dirty; fresh = h.data_told.fresh };
    instructions_told = record { held = h.instructions_told.held; fresh = h.instructions_told.fresh };
    ram = h.ram;
    sizes = h.sizes;
  }

  -- both, at cells where no copy stands
  pub data_cleared_keeps : (m : Hier) (k : Facts) (flat : ℕ → ℕ) (cells : Cells) → Levels size page count top m k flat → NoneAt page cells m.caches.d
      → Levels size page count top m (record k { held = without cells k.held; dirty = without cells k.dirty; old = without cells k.old }) flat
  data_cleared_keeps m k flat cells h none =
      dirty_forgotten_keeps m (record k { held = without cells k.held; old = without cells k.old }) flat cells (data_forgotten_keeps m k flat cells h none) (λ j x e d. none j x e)

  -- that copies of I are held, and old, at cells where no copy stands
  pub instructions_cleared_keeps : (m : Hier) (k : Facts) (flat : ℕ → ℕ) (cells : Cells) → Levels size page count top m k flat → NoneAt page cells m.caches.i
      → Levels size page count top m (record k { iheld = without cells k.iheld; iold = without cells k.iold }) flat
  instructions_cleared_keeps m k flat cells h none = record {
    data_stands = h.data_stands;
    instructions_stand = h.instructions_stand;
    data_told = record { held = h.data_told.held; dirty = h.data_told.dirty; fresh = h.data_told.fresh };
    instructions_told = record {
      held = held_less page cells m.caches.i k.iheld none h.instructions_told.held;
      fresh = fresh_less page cells m.caches.i size k.iold flat none h.instructions_told.fresh;
    };
    ram = h.ram;
    sizes = h.sizes;
  }

  -- the levels know no more of the ledger than what it says
  pub same_facts_keep : (m : Hier) (k k' : Facts) (flat : ℕ → ℕ) → SameFacts k k' → Levels size page count top m k flat → Levels size page count top m k' flat
  same_facts_keep m k k' flat s h = record {
    data_stands = h.data_stands;
    instructions_stand = h.instructions_stand;
    data_told = record {
      held = held_same page k.held k'.held m.caches.d s.held h.data_told.held;
      dirty = dirty_same page k.dirty k'.dirty m.caches.d s.dirty h.data_told.dirty;
      fresh = fresh_same size page k.old k'.old flat m.caches.d s.old h.data_told.fresh;
    };
    instructions_told = record {
      held = held_same page k.iheld k'.iheld m.caches.i s.iheld h.instructions_told.held;
      fresh = fresh_same size page k.iold k'.iold flat m.caches.i s.iold h.instructions_told.fresh;
    };
    ram = h.ram;
    sizes = h.sizes;
  }

  -- ---- the flat memory

  -- the levels know no more of the flat bytes than those of RAM
  pub flat_along : (m : Hier) (k : Facts) (flat flat' : ℕ → ℕ) → ((a : ℕ) → a < top → flat a ≡ flat' a) → Levels size page count top m k flat → Levels size page count top m k flat'
  flat_along m k flat flat' s h = record {
    data_stands = h.data_stands;
    instructions_stand = h.instructions_stand;
    data_told = record {
      held = h.data_told.held;
      dirty = h.data_told.dirty;
      fresh = λ j x e a q o. h.data_told.fresh j x e a q o ∙ s a (line_below size x.number a top size_pos q (h.data_stands j x e).inside);
    };
    instructions_told = record {
      held = h.instructions_told.held;
      fresh = λ j x e a q o. h.instructions_told.fresh j x e a q o ∙ s a (line_below size x.number a top size_pos q (h.instructions_stand j x e).inside);
    };
    ram = λ a lt none. h.ram a lt none ∙ s a lt;
    sizes = h.sizes;
  }

  -- what the levels are for: the newest byte of an address is the flat one
  pub newest_is_flat : (m : Hier) (k : Facts) (flat : ℕ → ℕ) (a : ℕ) → NeverOld k → Levels size page count top m k flat → a < top → newest_at m a ≡ flat a
  newest_is_flat m k flat a never h lt = rw h.sizes.line (elim (first_dirty_cases size a m.caches.d) [
    | inl p ↦ rw p.0 (h.ram a lt p.1)
    | inr p ↦ rw p.2.3 (h.data_told.fresh p.0 p.1 p.2.0 a p.2.2 (never p.1.number (p.0 / page) (h.data_told.dirty p.0 p.1 p.2.0 p.2.1)))
  ])

  -- the flat bytes as a list are the newest ones
  pub list_is_newest : (m : Hier) (k : Facts) (bytes : List ℕ) → NeverOld k → length bytes ≡ top → Levels size page count top m k (λ a. get_or bytes a 0) → bytes ≡ newest top m
  unfolding newest
  list_is_newest m k bytes never len h = fill_by_all (newest_at m) bytes top 0 len (λ a lt. sym (newest_is_flat m k (λ b. get_or bytes b 0) a never h lt))

pub length_newest : (top : ℕ) (m : Hier) → length (newest top m) ≡ top
unfolding newest
length_newest top m = length-map-range_with_len (newest_at m) 0 top
