-- Out and its halves, place by place.
use Rattle.std.proofs.Common.{◌≡◌, ◌≢◌, ℕ, zero, suc, ◌+◌, ◌*◌, ◌/◌, ◌<◌, ◌≤◌, List, [], ◌∷◌, Bool, true, false, cond, if◌then◌else◌, ◌==◌, ◌&&◌, eqb, get_or, set, Option, Some, None, inl, inr, refl, sym, ap, ◌∙◌, arith}
use Rattle.std.specs.Prelude.{MatchOption}
use Rattle.std.proofs.lemmas.Bool.{cases_eq, cases_lt, cond_both, eq-eqb, ne_eqb}
use Rattle.std.proofs.lemmas.List.{get_or-set_other}
use Rattle.r4_shape.specs.Numbers.{Numbers, IsShape, IsLine, IsGroup}
use Rattle.line_moves.specs.declared.hierarchy.Hier.{Hier}
use Rattle.line_moves.specs.Lines.{AreLines, Line, is_line}
use Rattle.line_moves.specs.Moves.{line_of, discard, each_part, discard_part, discard_part_at, discard_parts}
use Rattle.line_moves.specs.TakenAlong.{data_place, instruction_place, secondary_at, index_under, without_part, ArePartsDiscarded}

-- ---- lists of places

none_set : (xs : List (Option Line)) (i : ℕ) → get_or (set xs i None) i None ≡ None
none_set [] i = refl
none_set (x ∷ xs) zero = refl
none_set (x ∷ xs) (suc i) = none_set xs i

-- a choice of a field
of_cond : {X : Type 0} → (b : Bool) (x y : Hier) (g : Hier → X) → g (cond b x y) ≡ cond b (g x) (g y)
of_cond true x y g = refl
of_cond false x y g = refl

pub same_cond : {X : Type 0} → (b : Bool) (x : X) → cond b x x ≡ x
same_cond true x = refl
same_cond false x = refl

pub flipped : (a b : ℕ) → eqb a b ≡ eqb b a
flipped a b = elim (cases_eq a b) [
  | inl e ↦ eq-eqb a b e ∙ sym (eq-eqb b a (sym e))
  | inr ne ↦ ne_eqb a b ne ∙ sym (ne_eqb b a (λ e. ne (sym e)))
]

-- a place emptied where it holds a line, read at any index
one_emptied : (xs : List (Option Line)) (p n k : ℕ)
    → get_or (cond (is_line n (get_or xs p None)) (set xs p None) xs) k None ≡ cond (eqb k p) (cond (is_line n (get_or xs k None)) None (get_or xs k None)) (get_or xs k None)
one_emptied xs p n k = elim (cases_eq k p) [
  | inl e ↦ rw (e, eq-eqb p p refl) (here (is_line n (get_or xs p None)))
  | inr ne ↦ rw (ne_eqb k p ne) (there (is_line n (get_or xs p None)) ne)
]
  where
    here : (b : Bool) → get_or (cond b (set xs p None) xs) p None ≡ cond b None (get_or xs p None)
    here true = none_set xs p
    here false = refl

    there : (b : Bool) → k ≢ p → get_or (cond b (set xs p None) xs) k None ≡ get_or xs k None
    there true ne = get_or-set_other xs p k None None ne
    there false ne = refl

-- ---- the numbers of the parts

-- whether a number is one of so many from one on
abbrev pub among : ℕ → ℕ → ℕ → Bool
among first zero n = false
among first (suc count) n = if eqb n (first + count) then true else among first count n

pub among_past : (first c n : ℕ) → first + c ≤ n → among first c n ≡ false
among_past first zero n le = refl
among_past first (suc c) n le = rw (ne_eqb n (first + c) (λ e. omega arith)) (among_past first c n (omega arith))

among_before : (first c n : ℕ) → n < first → among first c n ≡ false
among_before first zero n lt = refl
among_before first (suc c) n lt = rw (ne_eqb n (first + c) (λ e. omega arith)) (among_before first c n lt)

among_within : (first c n : ℕ) → first ≤ n → n < first + c → among first c n ≡ true
among_within first zero n low high = absurd (omega arith)
among_within first (suc c) n low high = elim (cases_eq n (first + c)) [
  | inl e ↦ rw (eq-eqb n (first + c) e) refl
  | inr ne ↦ rw (ne_eqb n (first + c) ne) (among_within first c n low (omega arith))
]

-- a statement of the lengths of a primary and of a secondary line, shown for each pair
pub by_lengths : (P : ℕ → ℕ → Type 0) (line group : ℕ) → IsLine line → IsGroup group → line ≤ group
    → P 16 16 → P 16 32 → P 16 64 → P 16 128 → P 32 32 → P 32 64 → P 32 128 → P line group
by_lengths P line group l g le a b c d e f h = elim l [
  | inl q ↦ rw q (elim g [ inl r ↦ rw r a | inr o ↦ elim o [ inl r ↦ rw r b | inr p ↦ elim p [ inl r ↦ rw r c | inr r ↦ rw r d ] ] ])
  | inr q ↦ rw q (elim g [ inl r ↦ absurd (omega arith) | inr o ↦ elim o [ inl r ↦ rw r e | inr p ↦ elim p [ inl r ↦ rw r f | inr r ↦ rw r h ] ] ])
]

-- the parts of a line are those whose addresses lie in it
within_line : (line group x n : ℕ) → IsLine line → IsGroup group → line ≤ group → n * line / group ≡ x → (x * group / line ≤ n) × (n < x * group / line + group / line)
within_line line group x n l g le = by_lengths (λ line group. n * line / group ≡ x → (x * group / line ≤ n) × (n < x * group / line + group / line)) line group l g le
    (λ e. (omega arith, omega arith)) (λ e. (omega arith, omega arith)) (λ e. (omega arith, omega arith)) (λ e. (omega arith, omega arith))
    (λ e. (omega arith, omega arith)) (λ e. (omega arith, omega arith)) (λ e. (omega arith, omega arith))

in_line : (line group x n : ℕ) → IsLine line → IsGroup group → line ≤ group → x * group / line ≤ n → n < x * group / line + group / line → n * line / group ≡ x
in_line line group x n l g le = by_lengths (λ line group. x * group / line ≤ n → n < x * group / line + group / line → n * line / group ≡ x) line group l g le
    (λ a b. omega arith) (λ a b. omega arith) (λ a b. omega arith) (λ a b. omega arith) (λ a b. omega arith) (λ a b. omega arith) (λ a b. omega arith)

pub whole_lines : (line group x : ℕ) → IsLine line → IsGroup group → line ≤ group → x * group ≡ x * group / line * line
whole_lines line group x l g le = by_lengths (λ line group. x * group ≡ x * group / line * line) line group l g le
    (omega arith) (omega arith) (omega arith) (omega arith) (omega arith) (omega arith) (omega arith)

pub among_is : (line group x n : ℕ) → IsLine line → IsGroup group → line ≤ group → among (x * group / line) (group / line) n ≡ eqb (n * line / group) x
among_is line group x n l g le = elim (cases_eq (n * line / group) x) [
  | inl e ↦ (let w = within_line line group x n l g le e in among_within (x * group / line) (group / line) n w.0 w.1 ∙ sym (eq-eqb _ _ e))
  | inr ne ↦ elim (cases_lt n (x * group / line)) [
    | inl low ↦ among_before (x * group / line) (group / line) n low ∙ sym (ne_eqb _ _ ne)
    | inr at_least ↦ elim (cases_lt n (x * group / line + group / line)) [
      | inl high ↦ absurd (ne (in_line line group x n l g le at_least high))
      | inr past ↦ among_past (x * group / line) (group / line) n past ∙ sym (ne_eqb _ _ ne)
    ]
  ]
]

pub number_of_part : (line first c : ℕ) → IsLine line → (first * line + c * line) / line ≡ first + c
number_of_part line first c l = elim l [ inl e ↦ rw e (omega arith) | inr e ↦ rw e (omega arith) ]

pub address_of_part : (line first c : ℕ) → IsLine line → first * line + c * line ≡ (first + c) * line
address_of_part line first c l = elim l [ inl e ↦ rw e (omega arith) | inr e ↦ rw e (omega arith) ]

-- ---- what a place holds after a move was made for some parts

abbrev pub on_line : (Line → Option Line) → Option Line → Option Line
on_line f None = None
on_line f (Some l) = f l

module _ (s : Numbers) (pidx first : ℕ) where
  -- the index that is chosen for a number
  abbrev pub index_for : ℕ → ℕ
  index_for n = index_under s pidx (n * s.line)

  -- a line is one of the parts so far, and stands at the index
  abbrev pub is_part_so_far : ℕ → ℕ → Line → Bool
  is_part_so_far c k l = among first c l.number && (index_for l.number == k)

  abbrev pub so_far : (Line → Option Line) → ℕ → ℕ → Option Line → Option Line
  so_far f c k None = None
  so_far f c k (Some l) = if is_part_so_far c k l then f l else Some l

  -- one part more
  pub one_more : (f : Line → Option Line) (c k : ℕ) (o : Option Line) → ((l : Line) (n : ℕ) → l.number ≢ n → is_line n (f l) ≡ false)
      → so_far f (suc c) k o
      ≡ cond (eqb k (index_for (first + c))) (cond (is_line (first + c) (so_far f c k o)) (on_line f (so_far f c k o)) (so_far f c k o)) (so_far f c k o)
  one_more f c k None other = sym (same_cond (eqb k (index_for (first + c))) None)
  one_more f c k (Some l) other = elim (cases_eq l.number (first + c)) [
    | inl e ↦ (let past : among first c l.number ≡ false = among_past first c l.number (omega arith) in
        let turned : eqb (index_for l.number) k ≡ eqb k (index_for (first + c)) = ap (λ (n : ℕ). eqb (index_for n) k) e ∙ flipped (index_for (first + c)) k in
        rw (past, eq-eqb l.number (first + c) e, turned) refl)
    | inr ne ↦ (let no : is_line (first + c) (so_far f c k (Some l)) ≡ false =
        cond_both (is_part_so_far c k l) (f l) (Some l) (λ (o : Option Line). is_line (first + c) o ≡ false) (λ _. other l (first + c) ne) (λ _. ne_eqb l.number (first + c) ne) in
        rw (no, ne_eqb l.number (first + c) ne) (sym (same_cond (eqb k (index_for (first + c))) (so_far f c k (Some l)))))
  ]

-- ---- the parts are discarded

abbrev gone : Line → Option Line
gone l = None

-- one part of one side
emptied_d : (w : Hier) (p pa k : ℕ) → get_or (discard_part_at (data_place p) pa w).caches.d k None
    ≡ cond (eqb k p) (cond (is_line (pa / w.caches.shape.line) (get_or w.caches.d k None)) None (get_or w.caches.d k None)) (get_or w.caches.d k None)
emptied_d w p pa k =
    let test : Bool = is_line (pa / w.caches.shape.line) (get_or w.caches.d p None) in
    ap (λ (xs : List (Option Line)). get_or xs k None) (of_cond test (discard (data_place p) w) w (λ (m : Hier). m.caches.d))
    ∙ one_emptied w.caches.d p (pa / w.caches.shape.line) k

emptied_i : (w : Hier) (p pa k : ℕ) → get_or (discard_part_at (instruction_place p) pa w).caches.i k None
    ≡ cond (eqb k p) (cond (is_line (pa / w.caches.shape.line) (get_or w.caches.i k None)) None (get_or w.caches.i k None)) (get_or w.caches.i k None)
emptied_i w p pa k =
    let test : Bool = is_line (pa / w.caches.shape.line) (get_or w.caches.i p None) in
    ap (λ (xs : List (Option Line)). get_or xs k None) (of_cond test (discard (instruction_place p) w) w (λ (m : Hier). m.caches.i))
    ∙ one_emptied w.caches.i p (pa / w.caches.shape.line) k

-- what a part of one side leaves
record Leaves (old new : Hier) : Type 0 where
  s : new.caches.s ≡ old.caches.s
  ram : new.ram ≡ old.ram
  shape : new.caches.shape ≡ old.caches.shape

leaves_d : (w : Hier) (p pa : ℕ) → Leaves w (discard_part_at (data_place p) pa w) × ((discard_part_at (data_place p) pa w).caches.i ≡ w.caches.i)
leaves_d w p pa = cond_both (is_line (pa / w.caches.shape.line) (get_or w.caches.d p None)) (discard (data_place p) w) w
    (λ (m : Hier). Leaves w m × (m.caches.i ≡ w.caches.i)) (λ _. (record { s = refl; ram = refl; shape = refl }, refl)) (λ _. (record { s = refl; ram = refl; shape = refl }, refl))

leaves_i : (w : Hier) (p pa : ℕ) → Leaves w (discard_part_at (instruction_place p) pa w) × ((discard_part_at (instruction_place p) pa w).caches.d ≡ w.caches.d)
leaves_i w p pa = cond_both (is_line (pa / w.caches.shape.line) (get_or w.caches.i p None)) (discard (instruction_place p) w) w
    (λ (m : Hier). Leaves w m × (m.caches.d ≡ w.caches.d)) (λ _. (record { s = refl; ram = refl; shape = refl }, refl)) (λ _. (record { s = refl; ram = refl; shape = refl }, refl))

record DiscardedSoFar (s : Numbers) (pidx first c : ℕ) (old new : Hier) : Type 0 where
  d : (k : ℕ) → get_or new.caches.d k None ≡ so_far s pidx first gone c k (get_or old.caches.d k None)
  i : (k : ℕ) → get_or new.caches.i k None ≡ so_far s pidx first gone c k (get_or old.caches.i k None)
  rest : Leaves old new

pub none_so_far : (s : Numbers) (pidx first k : ℕ) (f : Line → Option Line) (o : Option Line) → o ≡ so_far s pidx first f 0 k o
none_so_far s pidx first k f None = refl
none_so_far s pidx first k f (Some l) = refl

-- one more, where it is known what the parts so far did
more_emptied : (s : Numbers) (pidx first c k n p line : ℕ) (o v : Option Line) → v ≡ so_far s pidx first gone c k o → n ≡ first + c → p ≡ index_under s pidx ((first + c) * s.line)
    → cond (eqb k p) (cond (is_line n v) None v) v ≡ so_far s pidx first gone (suc c) k o
more_emptied s pidx first c k n p line o v v_is n_is p_is =
    rw (v_is, n_is, p_is) (taken (so_far s pidx first gone c k o) ∙ sym (one_more s pidx first gone c k o (λ l m ne. refl)))
  where
    same : (u : Option Line) → None ≡ on_line gone u
    same None = refl
    same (Some l) = refl

    taken : (u : Option Line) → cond (eqb k (index_under s pidx ((first + c) * s.line))) (cond (is_line (first + c) u) None u) u
        ≡ cond (eqb k (index_under s pidx ((first + c) * s.line))) (cond (is_line (first + c) u) (on_line gone u) u) u
    taken u = ap (λ (w : Option Line). cond (eqb k (index_under s pidx ((first + c) * s.line))) (cond (is_line (first + c) u) w u) u) (same u)

discarded_so_far : (m : Hier) (pidx first c : ℕ) → IsLine m.caches.shape.line
    → DiscardedSoFar m.caches.shape pidx first c m (each_part (discard_part pidx) (first * m.caches.shape.line) m.caches.shape.line c m)
unfolding each_part
discarded_so_far m pidx first zero l = record {
  d = λ k. none_so_far m.caches.shape pidx first k gone (get_or m.caches.d k None);
  i = λ k. none_so_far m.caches.shape pidx first k gone (get_or m.caches.i k None);
  rest = record { s = refl; ram = refl; shape = refl };
}
discarded_so_far m pidx first (suc c) l =
    let s : Numbers = m.caches.shape in
    let before = discarded_so_far m pidx first c l in
    let pa : ℕ = first * s.line + c * s.line in
    let w : Hier = each_part (discard_part pidx) (first * s.line) s.line c m in
    let shape_w : w.caches.shape ≡ s = before.rest.shape in
    let p : ℕ = index_under w.caches.shape pidx pa in
    let p_is : p ≡ index_under s pidx ((first + c) * s.line) = ap (λ (t : Numbers). index_under t pidx pa) shape_w ∙ ap (index_under s pidx) (address_of_part s.line first c l) in
    let n_is : pa / w.caches.shape.line ≡ first + c = ap (λ (t : Numbers). pa / t.line) shape_w ∙ number_of_part s.line first c l in
    let a : Hier = discard_part_at (data_place p) pa w in
    let on_d = leaves_d w p pa in
    let n_is' : pa / a.caches.shape.line ≡ first + c = ap (λ (t : Numbers). pa / t.line) on_d.0.shape ∙ n_is in
    let on_i = leaves_i a p pa in
    record {
      d = λ k. ap (λ (xs : List (Option Line)). get_or xs k None) on_i.1 ∙ emptied_d w p pa k
          ∙ more_emptied s pidx first c k (pa / w.caches.shape.line) p s.line (get_or m.caches.d k None) (get_or w.caches.d k None) (before.d k) n_is p_is;
      i = λ k. emptied_i a p pa k
          ∙ more_emptied s pidx first c k (pa / a.caches.shape.line) p s.line (get_or m.caches.i k None) (get_or a.caches.i k None) (ap (λ (xs : List (Option Line)). get_or xs k None) on_d.1 ∙ before.i k) n_is' p_is;
      rest = record { s = on_i.0.s ∙ on_d.0.s ∙ before.rest.s; ram = on_i.0.ram ∙ on_d.0.ram ∙ before.rest.ram; shape = on_i.0.shape ∙ on_d.0.shape ∙ before.rest.shape };
    }

-- all parts so far are the parts
all_are : (s : Numbers) (x : Line) (k : ℕ) (o : Option Line) → IsLine s.line → IsGroup s.group → s.line ≤ s.group
    → so_far s x.pidx (x.number * s.group / s.line) gone (s.group / s.line) k o ≡ without_part s x k o
all_are s x k None l g le = refl
all_are s x k (Some y) l g le = rw (among_is s.line s.group x.number y.number l g le) refl

pub parts_discarded : (m : Hier) (index : ℕ) (x : Line) → IsShape m.caches.shape → m.caches.shape.sc ≡ true → line_of (secondary_at index) m ≡ Some x
    → ArePartsDiscarded x m (discard_parts index m)
parts_discarded m index x is has at =
    let s : Numbers = m.caches.shape in
    let g = is.group has in
    let le = is.holds has in
    let all = discarded_so_far m x.pidx (x.number * s.group / s.line) (s.group / s.line) is.line in
    let whole = whole_lines s.line s.group x.number is.line g le in
    rw (at, whole) (record {
      d = λ k. all.d k ∙ all_are s x k (get_or m.caches.d k None) is.line g le;
      i = λ k. all.i k ∙ all_are s x k (get_or m.caches.i k None) is.line g le;
      s = all.rest.s;
      ram = all.rest.ram;
      shape = all.rest.shape;
    })

pub parts_discarded_at : (m new : Hier) (index : ℕ) → AreLines m.caches → m.caches.shape.sc ≡ true → new ≡ discard_parts index m
    → MatchOption (line_of (secondary_at index) m) (new ≡ m) (λ x. ArePartsDiscarded x m new)
parts_discarded_at m new index lines has is = go (line_of (secondary_at index) m) refl
  where
    go : (o : Option Line) → line_of (secondary_at index) m ≡ o → MatchOption o (new ≡ m) (λ x. ArePartsDiscarded x m new)
    go None e = is ∙ rw e refl
    go (Some x) e = rw is (parts_discarded m index x lines.shape has e)
