-- The write-back of a secondary line with its data lines, place by place.
use Rattle.std.proofs.Common.{◌≡◌, ℕ, zero, suc, ◌+◌, ◌-◌, ◌*◌, ◌/◌, ◌%◌, ◌<◌, ◌≤◌, List, map, length, Bool, true, false, cond, ◌==◌, ◌&&◌, eqb, get_or, set, Option, Some, None, inl, inr, refl, sym, ap, ap₂, subst, ◌∙◌, arith}
use Rattle.std.specs.Prelude.{MatchOption}
use Rattle.std.specs.List.{range_with_len}
use Rattle.std.proofs.lemmas.Bool.{cases_Bool, cases_eq, cases_lt, cond_both, eq-eqb, ne_eqb, eqb-true}
use Rattle.std.proofs.lemmas.List.{get_or-set_same, get_or-set_other, set-set, set-get_or, get_or_past}
use Rattle.std.proofs.lemmas.List.FromFn.{fill_by_all}
use Rattle.flat_ram.proofs.Replaced.{put_inside, put_before, put_after, length_put}
use Rattle.r4_shape.specs.Numbers.{Numbers, IsLine, IsGroup}
use Rattle.line_moves.specs.declared.hierarchy.Hier.{Hier}
use Rattle.line_moves.specs.Lines.{AreLines, Line, is_line, marked, written, dirty_of, line_bytes}
use Rattle.line_moves.specs.Moves.{line_of, put_within, each_part, parts, gather, gather_at, gather_line, back, write_back}
use Rattle.line_moves.specs.TakenAlong.{data_place, secondary_at, index_under, cleaned_part, data_place_of, is_dirty_above, gathered_byte, gathered_line, IsDirtyWithParts, IsWrittenBack}
use Rattle.line_moves.proofs.TakenAlong.{among, among_past, among_is, by_lengths, whole_lines, number_of_part, address_of_part, on_line, index_for, so_far, one_more, none_so_far}

-- ---- numbers

-- the byte at a position of a secondary line is of the part in which the position lies
part_index : (line group x c at pidx : ℕ) → IsLine line → IsGroup group → line ≤ group → c * line ≤ at → at < c * line + line
    → (pidx * 4096 + (x * group + at) % 4096) % 8192 / line ≡ (pidx * 4096 + (x * group / line + c) * line % 4096) % 8192 / line
part_index line group x c at pidx l g le = by_lengths (λ line group. c * line ≤ at → at < c * line + line
    → (pidx * 4096 + (x * group + at) % 4096) % 8192 / line ≡ (pidx * 4096 + (x * group / line + c) * line % 4096) % 8192 / line) line group l g le
    (λ a b. omega arith) (λ a b. omega arith) (λ a b. omega arith) (λ a b. omega arith) (λ a b. omega arith) (λ a b. omega arith) (λ a b. omega arith)

part_number : (line group x c at : ℕ) → IsLine line → IsGroup group → line ≤ group → c * line ≤ at → at < c * line + line → (x * group + at) / line ≡ x * group / line + c
part_number line group x c at l g le = by_lengths (λ line group. c * line ≤ at → at < c * line + line → (x * group + at) / line ≡ x * group / line + c) line group l g le
    (λ a b. omega arith) (λ a b. omega arith) (λ a b. omega arith) (λ a b. omega arith) (λ a b. omega arith) (λ a b. omega arith) (λ a b. omega arith)

part_offset : (line group x c : ℕ) → IsLine line → IsGroup group → line ≤ group → c < group / line → (x * group / line + c) * line % group ≡ c * line
part_offset line group x c l g le = by_lengths (λ line group. c < group / line → (x * group / line + c) * line % group ≡ c * line) line group l g le
    (λ a. omega arith) (λ a. omega arith) (λ a. omega arith) (λ a. omega arith) (λ a. omega arith) (λ a. omega arith) (λ a. omega arith)

part_room : (line group c : ℕ) → IsLine line → IsGroup group → line ≤ group → c < group / line → c * line + line ≤ group
part_room line group c l g le = by_lengths (λ line group. c < group / line → c * line + line ≤ group) line group l g le
    (λ a. omega arith) (λ a. omega arith) (λ a. omega arith) (λ a. omega arith) (λ a. omega arith) (λ a. omega arith) (λ a. omega arith)

next_part : (line c : ℕ) → IsLine line → suc c * line ≡ c * line + line
next_part line c l = elim l [ inl e ↦ rw e (omega arith) | inr e ↦ rw e (omega arith) ]

within_part : (line c at : ℕ) → IsLine line → c * line ≤ at → at < c * line + line → at % line ≡ at - c * line
within_part line c at l = elim l [ inl e ↦ rw e (λ a b. omega arith) | inr e ↦ rw e (λ a b. omega arith) ]

all_parts : (line group : ℕ) → IsLine line → IsGroup group → line ≤ group → group / line * line ≡ group
all_parts line group l g le = by_lengths (λ line group. group / line * line ≡ group) line group l g le refl refl refl refl refl refl refl

-- ---- lists and lines

pub inside : (xs : List (Option Line)) (i : ℕ) (l : Line) → get_or xs i None ≡ Some l → i < length xs
inside xs i l e = elim (cases_lt i (length xs)) [
  | inl lt ↦ lt
  | inr past ↦ absurd (let n : None ≡ Some l = sym (get_or_past xs i None past) ∙ e in cc)
]

-- a clean line is marked clean
pub same_marked : (l : Line) → l.dirty ≡ false → marked false l ≡ l
same_marked l e = ap (λ (b : Bool). marked b l) (sym e)

abbrev cleaned : Line → Option Line
cleaned l = Some (marked false l)

abbrev is_dirty_line : ℕ → Option Line → Bool
is_dirty_line n o = is_line n o && dirty_of o

-- a part that was not reached yet is as it was
not_yet : (s : Numbers) (pidx first c k n : ℕ) (o : Option Line) → n ≡ first + c → is_line n o ≡ true → so_far s pidx first cleaned c k o ≡ o
not_yet s pidx first c k n None is e = refl
not_yet s pidx first c k n (Some l) is e = (let past : among first c l.number ≡ false = among_past first c l.number (let q = eqb-true l.number n e in omega arith) in rw past refl)

not_yet_line : (s : Numbers) (pidx first c k n : ℕ) (o : Option Line) → n ≡ first + c → is_line n (so_far s pidx first cleaned c k o) ≡ is_line n o
not_yet_line s pidx first c k n None is = refl
not_yet_line s pidx first c k n (Some l) is =
    cond_both (among first c l.number && (index_for s pidx first l.number == k)) (cleaned l) (Some l) (λ (o : Option Line). is_line n o ≡ eqb l.number n) (λ _. refl) (λ _. refl)

not_yet_dirty : (s : Numbers) (pidx first c k n : ℕ) (o : Option Line) → n ≡ first + c → is_dirty_line n (so_far s pidx first cleaned c k o) ≡ is_dirty_line n o
not_yet_dirty s pidx first c k n o is = elim (cases_Bool (is_line n o)) [
  | inl e ↦ ap (is_dirty_line n) (not_yet s pidx first c k n o is e)
  | inr e ↦ (let e' : is_line n (so_far s pidx first cleaned c k o) ≡ false = not_yet_line s pidx first c k n o is ∙ e in rw (e', e) refl)
]

-- ---- one part

gathered_none : (w : Hier) (index p pa : ℕ) → is_dirty_line (pa / w.caches.shape.line) (get_or w.caches.d p None) ≡ false → gather_at (secondary_at index) (data_place p) pa w ≡ w
gathered_none w index p pa absent = go (get_or w.caches.d p None) refl absent
  where
    go : (o : Option Line) → get_or w.caches.d p None ≡ o → is_dirty_line (pa / w.caches.shape.line) o ≡ false
        → cond (is_line (pa / w.caches.shape.line) o) (gather_line (secondary_at index) (data_place p) o w) w ≡ w
    go None e q = refl
    go (Some l) e q = elim (cases_Bool (eqb l.number (pa / w.caches.shape.line))) [
      | inl t ↦ (let q' : l.dirty ≡ false = rw t at q in rw (t, q') refl)
      | inr f ↦ rw f refl
    ]

-- the memory with other lines in the data and the secondary cache
abbrev with_both : Hier → List (Option Line) → List (Option Line) → Hier
with_both w d s = record w { caches = record w.caches { d = d; s = s } }

gathered_one : (w : Hier) (index p pa : ℕ) (y l : Line) → get_or w.caches.s index None ≡ Some y → get_or w.caches.d p None ≡ Some l → l.number ≡ pa / w.caches.shape.line → l.dirty ≡ true
    → gather_at (secondary_at index) (data_place p) pa w
    ≡ with_both w (set w.caches.d p (Some (marked false l))) (set w.caches.s index (Some (written (l.number * w.caches.shape.line % w.caches.shape.group) l.bytes y)))
gathered_one w index p pa y l at_s at_d number dirty = rw (at_d, eq-eqb l.number (pa / w.caches.shape.line) number, dirty, at_s, at_d) refl

-- a part that is not dirty stays as it is
not_changed : (k q n : ℕ) (u : Option Line) → (k ≡ q → is_dirty_line n u ≡ false) → u ≡ cond (eqb k q) (cond (is_line n u) (on_line cleaned u) u) u
not_changed k q n u clean = elim (cases_eq k q) [
  | inl e ↦ rw (eq-eqb k q e) (here u (clean e))
  | inr ne ↦ rw (ne_eqb k q ne) refl
]
  where
    here : (u : Option Line) → is_dirty_line n u ≡ false → u ≡ cond (is_line n u) (on_line cleaned u) u
    here None e = refl
    here (Some l) e = elim (cases_Bool (eqb l.number n)) [
      | inl t ↦ (let e' : l.dirty ≡ false = rw t at e in rw t (ap (λ (y : Line). Some y) (sym (same_marked l e'))))
      | inr f ↦ rw f refl
    ]

-- a place whose line is marked clean, read at any index
one_marked : (xs : List (Option Line)) (p n k : ℕ) (l : Line) → get_or xs p None ≡ Some l → l.number ≡ n
    → get_or (set xs p (Some (marked false l))) k None
    ≡ cond (eqb k p) (cond (is_line n (get_or xs k None)) (on_line cleaned (get_or xs k None)) (get_or xs k None)) (get_or xs k None)
one_marked xs p n k l at number = elim (cases_eq k p) [
  | inl e ↦ rw (e, eq-eqb p p refl, at, eq-eqb l.number n number) (get_or-set_same xs p (Some (marked false l)) None (inside xs p l at))
  | inr ne ↦ rw (ne_eqb k p ne) (get_or-set_other xs p k (Some (marked false l)) None ne)
]

-- a line that is there and dirty
dirty_line : (n : ℕ) (o : Option Line) → is_dirty_line n o ≡ true → (l : Line) × (o ≡ Some l) × (l.number ≡ n) × (l.dirty ≡ true)
dirty_line n None e = absurd (let f : false ≡ true = e in cc)
dirty_line n (Some l) e = elim (cases_Bool (eqb l.number n)) [
  | inl t ↦ (l, refl, eqb-true l.number n t, rw t at e)
  | inr f ↦ absurd (let c : false ≡ true = rw f at e in cc)
]

-- ---- the parts so far

-- What the data lines of a secondary line did that went into it, so many of them: the line as it is now.
record GatheredSoFar (m : Hier) (index : ℕ) (x : Line) (first c : ℕ) (new : Hier) : Type 0 where
  line : Line
  d : (k : ℕ) → get_or new.caches.d k None ≡ so_far m.caches.shape x.pidx first cleaned c k (get_or m.caches.d k None)
  i : new.caches.i ≡ m.caches.i
  s : new.caches.s ≡ set m.caches.s index (Some line)
  number : line.number ≡ x.number
  pidx : line.pidx ≡ x.pidx
  long : length line.bytes ≡ m.caches.shape.group
  taken : (at : ℕ) → at < c * m.caches.shape.line → get_or line.bytes at 0 ≡ gathered_byte m x at
  left : (at : ℕ) → c * m.caches.shape.line ≤ at → at < m.caches.shape.group → get_or line.bytes at 0 ≡ get_or x.bytes at 0
  was : line.dirty ≡ true → IsDirtyWithParts m x
  own : x.dirty ≡ true → line.dirty ≡ true
  above : (at : ℕ) → at < c * m.caches.shape.line → is_dirty_above m x at ≡ true → line.dirty ≡ true
  ram : new.ram ≡ m.ram
  shape : new.caches.shape ≡ m.caches.shape

module _ (m : Hier) (index : ℕ) (x : Line) (lines : AreLines m.caches) (has : m.caches.shape.sc ≡ true) (stands : get_or m.caches.s index None ≡ Some x) where
  whole_line : length x.bytes ≡ m.caches.shape.group
  whole_line = (lines.lines (secondary_at index) x (rw (← lines.s) (inside m.caches.s index x stands)) stands).bytes

  whole_part : (p : ℕ) (l : Line) → get_or m.caches.d p None ≡ Some l → length l.bytes ≡ m.caches.shape.line
  whole_part p l at = (lines.lines (data_place p) l (rw (← lines.d) (inside m.caches.d p l at)) at).bytes

  abbrev first : ℕ
  first = x.number * m.caches.shape.group / m.caches.shape.line

  -- the index of a part, and what stood there
  abbrev index_of : ℕ → ℕ
  index_of c = index_for m.caches.shape x.pidx first (first + c)

  abbrev stood : ℕ → Option Line
  stood c = get_or m.caches.d (index_of c) None

  -- whether a byte is dirty above, by the part in which it lies
  above_at : (c at : ℕ) → c * m.caches.shape.line ≤ at → at < c * m.caches.shape.line + m.caches.shape.line → (data_place_of m x at).index ≡ index_of c
  above_at c at low high =
      rw lines.shape.prim (part_index m.caches.shape.line m.caches.shape.group x.number c at x.pidx lines.shape.line (lines.shape.group has) (lines.shape.holds has) low high)

  above_is : (c at : ℕ) → c * m.caches.shape.line ≤ at → at < c * m.caches.shape.line + m.caches.shape.line → is_dirty_above m x at ≡ is_dirty_line (first + c) (stood c)
  above_is c at low high =
      ap₂ (λ (i n : ℕ). is_dirty_line n (get_or m.caches.d i None)) (above_at c at low high)
      (part_number m.caches.shape.line m.caches.shape.group x.number c at lines.shape.line (lines.shape.group has) (lines.shape.holds has) low high)

  abbrev byte_by : ℕ → Bool → ℕ
  byte_by at test = cond test (get_or (line_bytes (line_of (data_place_of m x at) m)) (at % m.caches.shape.line) 0) (get_or x.bytes at 0)

  byte_own : (c at : ℕ) → c * m.caches.shape.line ≤ at → at < c * m.caches.shape.line + m.caches.shape.line → is_dirty_line (first + c) (stood c) ≡ false
      → gathered_byte m x at ≡ get_or x.bytes at 0
  byte_own c at low high clean = ap (byte_by at) (above_is c at low high ∙ clean)

  byte_above : (c at : ℕ) (l : Line) → c * m.caches.shape.line ≤ at → at < c * m.caches.shape.line + m.caches.shape.line → is_dirty_line (first + c) (stood c) ≡ true → stood c ≡ Some l
      → gathered_byte m x at ≡ get_or l.bytes (at - c * m.caches.shape.line) 0
  byte_above c at l low high dirty there =
      ap (byte_by at) (above_is c at low high ∙ dirty)
      ∙ ap (λ (o : Option Line). get_or (line_bytes o) (at % m.caches.shape.line) 0) (ap (λ (i : ℕ). get_or m.caches.d i None) (above_at c at low high) ∙ there)
      ∙ ap (λ (i : ℕ). get_or l.bytes i 0) (within_part m.caches.shape.line c at lines.shape.line low high)

  -- a part that has nothing dirty
  next_clean : (w : Hier) (c : ℕ) → GatheredSoFar m index x first c w → c < m.caches.shape.group / m.caches.shape.line → is_dirty_line (first + c) (stood c) ≡ false
      → GatheredSoFar m index x first (suc c) w
  next_clean w c before lt clean =
      let line : ℕ = m.caches.shape.line in
      let next : suc c * line ≡ c * line + line = next_part line c lines.shape.line in
      let room : c * line + line ≤ m.caches.shape.group = part_room line m.caches.shape.group c lines.shape.line (lines.shape.group has) (lines.shape.holds has) lt in
      record {
        line = before.line;
        d = λ k. let u : Option Line = so_far m.caches.shape x.pidx first cleaned c k (get_or m.caches.d k None) in
            before.d k
            ∙ not_changed k (index_of c) (first + c) u (λ e. not_yet_dirty m.caches.shape x.pidx first c k (first + c) (get_or m.caches.d k None) refl ∙ ap (λ (i : ℕ). is_dirty_line (first + c) (get_or m.caches.d i None)) e ∙ clean)
            ∙ sym (one_more m.caches.shape x.pidx first cleaned c k (get_or m.caches.d k None) (λ l n ne. ne_eqb l.number n ne));
        i = before.i;
        s = before.s;
        number = before.number;
        pidx = before.pidx;
        long = before.long;
        taken = λ at h. elim (cases_lt at (c * line)) [
          | inl low ↦ before.taken at low
          | inr high ↦ (let h' : at < c * line + line = rw next at h in before.left at high (omega arith) ∙ sym (byte_own c at high h' clean))
        ];
        left = λ at h inside. before.left at (let h' : c * line + line ≤ at = rw next at h in omega arith) inside;
        was = before.was;
        own = before.own;
        above = λ at h e. elim (cases_lt at (c * line)) [
          | inl low ↦ before.above at low e
          | inr high ↦ absurd (let h' : at < c * line + line = rw next at h in let f : true ≡ false = sym e ∙ above_is c at high h' ∙ clean in cc)
        ];
        ram = before.ram;
        shape = before.shape;
      }

  -- a part that is dirty
  next_dirty : (w : Hier) (c p : ℕ) (l : Line) → (before : GatheredSoFar m index x first c w) → c < m.caches.shape.group / m.caches.shape.line → is_dirty_line (first + c) (stood c) ≡ true
      → stood c ≡ Some l → l.number ≡ first + c → p ≡ index_of c → get_or w.caches.d p None ≡ Some l
      → GatheredSoFar m index x first (suc c) (with_both w (set w.caches.d p (Some (marked false l))) (set w.caches.s index (Some (written (c * m.caches.shape.line) l.bytes before.line))))
  next_dirty w c p l before lt dirty there number p_is at =
      let line : ℕ = m.caches.shape.line in
      let y : Line = before.line in
      let next : suc c * line ≡ c * line + line = next_part line c lines.shape.line in
      let room : c * line + line ≤ m.caches.shape.group = part_room line m.caches.shape.group c lines.shape.line (lines.shape.group has) (lines.shape.holds has) lt in
      let size : length l.bytes ≡ line = whole_part (index_of c) l there in
      let long : length y.bytes ≡ m.caches.shape.group = before.long in
      let some : 0 < line = elim lines.shape.line [ inl e ↦ omega arith | inr e ↦ omega arith ] in
      let fits : c * line + length l.bytes ≤ length y.bytes = omega arith in
      record {
        line = written (c * line) l.bytes y;
        d = λ k. let u : Option Line = so_far m.caches.shape x.pidx first cleaned c k (get_or m.caches.d k None) in
            one_marked w.caches.d p (first + c) k l at number
            ∙ ap₂ (λ (i : ℕ) (v : Option Line). cond (eqb k i) (cond (is_line (first + c) v) (on_line cleaned v) v) v) p_is (before.d k)
            ∙ sym (one_more m.caches.shape x.pidx first cleaned c k (get_or m.caches.d k None) (λ l n ne. ne_eqb l.number n ne));
        i = before.i;
        s = ap (λ (xs : List (Option Line)). set xs index (Some (written (c * line) l.bytes y))) before.s ∙ set-set m.caches.s index (Some y) (Some (written (c * line) l.bytes y));
        number = before.number;
        pidx = before.pidx;
        long = length_put y.bytes l.bytes (c * line) fits ∙ long;
        taken = λ at h. elim (cases_lt at (c * line)) [
          | inl low ↦ put_before y.bytes l.bytes (c * line) at fits low ∙ before.taken at low
          | inr high ↦ (let h' : at < c * line + line = rw next at h in
              put_inside y.bytes l.bytes (c * line) at fits high (omega arith) ∙ sym (byte_above c at l high h' dirty there))
        ];
        left = λ at h inside. let h' : c * line + line ≤ at = rw next at h in
            put_after y.bytes l.bytes (c * line) at fits (omega arith) ∙ before.left at (omega arith) inside;
        was = λ _. inr (c * line, omega arith, above_is c (c * line) (omega arith) (omega arith) ∙ dirty);
        own = λ _. refl;
        above = λ at h e. refl;
        ram = before.ram;
        shape = before.shape;
      }

  -- either
  next_gathered : (w : Hier) (c : ℕ) → GatheredSoFar m index x first c w → c < m.caches.shape.group / m.caches.shape.line
      → GatheredSoFar m index x first (suc c) (gather (secondary_at index) x.pidx (first * m.caches.shape.line + c * m.caches.shape.line) w)
  next_gathered w c before lt =
      let s : Numbers = m.caches.shape in
      let pa : ℕ = first * s.line + c * s.line in
      let p : ℕ = index_under w.caches.shape x.pidx pa in
      let p_is : p ≡ index_of c = ap (λ (t : Numbers). index_under t x.pidx pa) before.shape ∙ ap (index_under s x.pidx) (address_of_part s.line first c lines.shape.line) in
      let n_is : pa / w.caches.shape.line ≡ first + c = ap (λ (t : Numbers). pa / t.line) before.shape ∙ number_of_part s.line first c lines.shape.line in
      let v_is : get_or w.caches.d p None ≡ so_far s x.pidx first cleaned c (index_of c) (stood c) =
      before.d p ∙ ap (λ (i : ℕ). so_far s x.pidx first cleaned c i (get_or m.caches.d i None)) p_is in
      elim (cases_Bool (is_dirty_line (first + c) (stood c))) [
        | inl dirty ↦ (let found = dirty_line (first + c) (stood c) dirty in
            let l : Line = found.0 in
            let there : stood c ≡ Some l = found.1 in
            let held : is_line (first + c) (stood c) ≡ true = ap (is_line (first + c)) there ∙ eq-eqb l.number (first + c) found.2 in
            let at_d : get_or w.caches.d p None ≡ Some l = v_is ∙ not_yet s x.pidx first c (index_of c) (first + c) (stood c) refl held ∙ there in
            let at_s : get_or w.caches.s index None ≡ Some before.line =
            ap (λ (xs : List (Option Line)). get_or xs index None) before.s ∙ get_or-set_same m.caches.s index (Some before.line) None (inside m.caches.s index x stands) in
            let made = gathered_one w index p pa before.line l at_s at_d (found.2 ∙ sym n_is) found.3 in
            let offset : l.number * w.caches.shape.line % w.caches.shape.group ≡ c * s.line =
            ap (λ (t : Numbers). l.number * t.line % t.group) before.shape ∙ ap (λ (n : ℕ). n * s.line % s.group) found.2 ∙ part_offset s.line s.group x.number c lines.shape.line (lines.shape.group has) (lines.shape.holds has) lt in
            let put = ap (λ (at : ℕ). with_both w (set w.caches.d p (Some (marked false l))) (set w.caches.s index (Some (written at l.bytes before.line)))) offset in
            subst (GatheredSoFar m index x first (suc c)) (sym (made ∙ put)) (next_dirty w c p l before lt dirty there found.2 p_is at_d))
        | inr clean ↦ (let same = gathered_none w index p pa (ap (λ (n : ℕ). is_dirty_line n (get_or w.caches.d p None)) n_is ∙ ap (is_dirty_line (first + c)) v_is
            ∙ not_yet_dirty s x.pidx first c (index_of c) (first + c) (stood c) refl ∙ clean) in
            subst (GatheredSoFar m index x first (suc c)) (sym same) (next_clean w c before lt clean))
      ]

  gathered_so_far : (c : ℕ) → c ≤ m.caches.shape.group / m.caches.shape.line
      → GatheredSoFar m index x first c (each_part (gather (secondary_at index) x.pidx) (first * m.caches.shape.line) m.caches.shape.line c m)
  unfolding each_part
  gathered_so_far zero le = record {
    line = x;
    d = λ k. none_so_far m.caches.shape x.pidx first k cleaned (get_or m.caches.d k None);
    i = refl;
    s = sym (ap (set m.caches.s index) (sym stands) ∙ set-get_or m.caches.s index None);
    number = refl;
    pidx = refl;
    long = whole_line;
    taken = λ at h. absurd (omega arith);
    left = λ at h inside. refl;
    was = λ e. inl e;
    own = λ e. e;
    above = λ at h e. absurd (omega arith);
    ram = refl;
    shape = refl;
  }
  gathered_so_far (suc c) le =
      next_gathered (each_part (gather (secondary_at index) x.pidx) (first * m.caches.shape.line) m.caches.shape.line c m) c (gathered_so_far c (omega arith)) (omega arith)

  gathered_whole : GatheredSoFar m index x first (m.caches.shape.group / m.caches.shape.line) (parts (gather (secondary_at index) x.pidx) x m)
  gathered_whole =
      subst (λ (pa : ℕ). GatheredSoFar m index x first (m.caches.shape.group / m.caches.shape.line) (each_part (gather (secondary_at index) x.pidx) pa m.caches.shape.line (m.caches.shape.group / m.caches.shape.line) m))
      (sym (whole_lines m.caches.shape.line m.caches.shape.group x.number lines.shape.line (lines.shape.group has) (lines.shape.holds has)))
      (gathered_so_far (m.caches.shape.group / m.caches.shape.line) (omega arith))

  -- the line that was gathered
  line_is : (w : Hier) → (all : GatheredSoFar m index x first (m.caches.shape.group / m.caches.shape.line) w) → marked false all.line ≡ gathered_line m x
  unfolding gathered_line
  line_is w all =
      let y : Line = all.line in
      let whole : m.caches.shape.group / m.caches.shape.line * m.caches.shape.line ≡ m.caches.shape.group = all_parts m.caches.shape.line m.caches.shape.group lines.shape.line (lines.shape.group has) (lines.shape.holds has) in
      let bytes : y.bytes ≡ map (gathered_byte m x) (range_with_len 0 m.caches.shape.group) =
      fill_by_all (gathered_byte m x) y.bytes m.caches.shape.group 0 all.long (λ k lt. all.taken k (rw whole lt)) in
      ap₂ (λ (n p : ℕ). let l : Line = record { number = n; dirty = false; pidx = p; bytes = y.bytes } in l) all.number all.pidx
      ∙ ap (λ (bs : List ℕ). let l : Line = record { number = x.number; dirty = false; pidx = x.pidx; bytes = bs } in l) bytes

  all_cleaned : (k : ℕ) (o : Option Line) → so_far m.caches.shape x.pidx first cleaned (m.caches.shape.group / m.caches.shape.line) k o ≡ cleaned_part m.caches.shape x k o
  all_cleaned k None = refl
  all_cleaned k (Some y) = rw (among_is m.caches.shape.line m.caches.shape.group x.number y.number lines.shape.line (lines.shape.group has) (lines.shape.holds has)) refl

  back_dirty : (w : Hier) (y : Line) → get_or w.caches.s index None ≡ Some y → y.dirty ≡ true → back (secondary_at index) w
      ≡ record w { ram = put_within w.ram (y.number * w.caches.shape.group) y.bytes; caches = record w.caches { s = set w.caches.s index (Some (marked false y)) } }
  back_dirty w y at dirty = rw (at, dirty, at) refl

  back_clean : (w : Hier) (y : Line) → get_or w.caches.s index None ≡ Some y → y.dirty ≡ false → back (secondary_at index) w ≡ w
  back_clean w y at clean = rw (at, clean) refl

  backed : (w : Hier) → GatheredSoFar m index x first (m.caches.shape.group / m.caches.shape.line) w → IsWrittenBack index x m (back (secondary_at index) w)
  backed w all =
      let y : Line = all.line in
      let at : get_or w.caches.s index None ≡ Some y = ap (λ (xs : List (Option Line)). get_or xs index None) all.s ∙ get_or-set_same m.caches.s index (Some y) None (inside m.caches.s index x stands) in
      let y_is : marked false y ≡ gathered_line m x = line_is w all in
      let whole : m.caches.shape.group / m.caches.shape.line * m.caches.shape.line ≡ m.caches.shape.group = all_parts m.caches.shape.line m.caches.shape.group lines.shape.line (lines.shape.group has) (lines.shape.holds has) in
      let dirty_too : IsDirtyWithParts m x → y.dirty ≡ true = λ (d : IsDirtyWithParts m x). elim d [ inl own ↦ all.own own | inr above ↦ all.above above.0 (rw whole above.1) above.2 ] in
      elim (cases_Bool y.dirty) [
        | inl dirty ↦ subst (IsWrittenBack index x m) (sym (back_dirty w y at dirty)) (record {
          d = λ k. all.d k ∙ all_cleaned k (get_or m.caches.d k None);
          i = all.i;
          s = ap (λ (xs : List (Option Line)). set xs index (Some (marked false y))) all.s ∙ set-set m.caches.s index (Some y) (Some (marked false y)) ∙ ap (λ (l : Line). set m.caches.s index (Some l)) y_is;
          ram = record {
            stored = λ _. ap₂ (λ (r : List ℕ) (t : Numbers). put_within r (y.number * t.group) y.bytes) all.ram all.shape
                ∙ ap₂ (λ (n : ℕ) (l : Line). put_within m.ram (n * m.caches.shape.group) l.bytes) all.number y_is;
            kept = λ none. absurd (none (all.was dirty));
          };
          shape = all.shape;
        })
        | inr clean ↦ subst (IsWrittenBack index x m) (sym (back_clean w y at clean)) (record {
          d = λ k. all.d k ∙ all_cleaned k (get_or m.caches.d k None);
          i = all.i;
          s = all.s ∙ ap (λ (l : Line). set m.caches.s index (Some l)) (sym (same_marked y clean) ∙ y_is);
          ram = record {
            stored = λ d. absurd (let c : true ≡ false = sym (dirty_too d) ∙ clean in cc);
            kept = λ _. all.ram;
          };
          shape = all.shape;
        })
      ]

  pub written_back : IsWrittenBack index x m (write_back index m)
  written_back = rw stands (backed (parts (gather (secondary_at index) x.pidx) x m) gathered_whole)

pub written_back_at : (m new : Hier) (index : ℕ) → AreLines m.caches → m.caches.shape.sc ≡ true → new ≡ write_back index m
    → MatchOption (line_of (secondary_at index) m) (new ≡ m) (λ x. IsWrittenBack index x m new)
written_back_at m new index lines has is = go (line_of (secondary_at index) m) refl
  where
    go : (o : Option Line) → line_of (secondary_at index) m ≡ o → MatchOption o (new ≡ m) (λ x. IsWrittenBack index x m new)
    go None e = is ∙ rw e refl
    go (Some x) e = rw is (written_back m index x lines has e)
