-- Out and the discard of a secondary line with its parts, place by place, by what their steps did.
use Rattle.std.proofs.Common.{◌≡◌, ℕ, List, get_or, set, Option, Some, None, inl, inr, refl, sym, ap, ◌∙◌}
use Rattle.std.specs.Prelude.{MatchOption}
use Rattle.std.proofs.lemmas.Bool.{cases_Bool}
use Rattle.std.proofs.lemmas.List.{get_or-set_same, set-set, set-get_or}
use Rattle.r4_shape.specs.Numbers.{Numbers}
use Rattle.line_moves.specs.declared.hierarchy.Hier.{Hier}
use Rattle.line_moves.specs.Lines.{Line}
use Rattle.line_moves.specs.Moves.{line_of, discard}
use Rattle.line_moves.specs.TakenAlong.{secondary_at, is_part, without_part, cleaned_part, gathered_line, ArePartsDiscarded, IsDiscardedWhole, IsWrittenBack, IsOut}
use Rattle.line_moves.proofs.WrittenBack.{inside}

-- ---- the line and its parts

-- a place that holds no line is emptied
nothing_taken : (m : Hier) (index : ℕ) → line_of (secondary_at index) m ≡ None → discard (secondary_at index) m ≡ m
nothing_taken m index e = ap (λ (xs : List (Option Line)). record m { caches = record m.caches { s = xs } }) (ap (set m.caches.s index) (sym e) ∙ set-get_or m.caches.s index None)

pub whole_discarded : (m w new : Hier) (index : ℕ) → MatchOption (line_of (secondary_at index) m) (w ≡ m) (λ x. ArePartsDiscarded x m w) → new ≡ discard (secondary_at index) w
    → MatchOption (line_of (secondary_at index) m) (new ≡ m) (λ x. IsDiscardedWhole index x m new)
whole_discarded m w new index gone is = go (line_of (secondary_at index) m) refl gone
  where
    go : (o : Option Line) → line_of (secondary_at index) m ≡ o → MatchOption o (w ≡ m) (λ x. ArePartsDiscarded x m w) → MatchOption o (new ≡ m) (λ x. IsDiscardedWhole index x m new)
    go None e same = is ∙ ap (discard (secondary_at index)) same ∙ nothing_taken m index e
    go (Some x) e p = rw is (record { d = p.d; i = p.i; s = ap (λ (xs : List (Option Line)). set xs index None) p.s; ram = p.ram; shape = p.shape })

-- ---- Out

without_cleaned : (s : Numbers) (x : Line) (k : ℕ) (o : Option Line) → without_part s x k (cleaned_part s x k o) ≡ without_part s x k o
without_cleaned s x k None = refl
without_cleaned s x k (Some l) = elim (cases_Bool (is_part s x k l)) [ inl t ↦ rw (t, t) refl | inr f ↦ rw (f, f) refl ]

-- the parts of the line that was gathered are those that it had
same_parts : (m : Hier) (s : Numbers) (x : Line) (k : ℕ) (o : Option Line) → s ≡ m.caches.shape → without_part s (gathered_line m x) k o ≡ without_part m.caches.shape x k o
unfolding gathered_line
same_parts m s x k None e = refl
same_parts m s x k (Some l) e = ap (λ (t : Numbers). without_part t x k (Some l)) e

out_of : (m w new : Hier) (index : ℕ) (x : Line) → IsWrittenBack index x m w → IsDiscardedWhole index (gathered_line m x) w new → IsOut index x m new
out_of m w new index x b p = record {
  d = λ k. p.d k ∙ same_parts m w.caches.shape x k _ b.shape ∙ ap (without_part m.caches.shape x k) (b.d k) ∙ without_cleaned m.caches.shape x k (get_or m.caches.d k None);
  i = λ k. p.i k ∙ same_parts m w.caches.shape x k _ b.shape ∙ ap (λ (xs : List (Option Line)). without_part m.caches.shape x k (get_or xs k None)) b.i;
  s = p.s ∙ ap (λ (xs : List (Option Line)). set xs index None) b.s ∙ set-set m.caches.s index (Some (gathered_line m x)) None;
  ram = record { stored = λ d. p.ram ∙ b.ram.stored d; kept = λ n. p.ram ∙ b.ram.kept n };
  shape = p.shape ∙ b.shape;
}

pub out_is : (m w new : Hier) (index : ℕ) → MatchOption (line_of (secondary_at index) m) (w ≡ m) (λ x. IsWrittenBack index x m w)
    → MatchOption (line_of (secondary_at index) w) (new ≡ w) (λ y. IsDiscardedWhole index y w new)
    → MatchOption (line_of (secondary_at index) m) (new ≡ m) (λ x. IsOut index x m new)
out_is m w new index back gone = go (line_of (secondary_at index) m) refl back
  where
    nothing : (o : Option Line) → o ≡ None → MatchOption o (new ≡ w) (λ y. IsDiscardedWhole index y w new) → new ≡ w
    nothing None e p = p
    nothing (Some y) e p = absurd (let n : None ≡ Some y = sym e in cc)

    something : (o : Option Line) (y : Line) → o ≡ Some y → MatchOption o (new ≡ w) (λ y. IsDiscardedWhole index y w new) → IsDiscardedWhole index y w new
    something None y e p = absurd (let n : None ≡ Some y = e in cc)
    something (Some z) y e p = (let same : z ≡ y = cc in rw (← same) p)

    go : (o : Option Line) → line_of (secondary_at index) m ≡ o → MatchOption o (w ≡ m) (λ x. IsWrittenBack index x m w) → MatchOption o (new ≡ m) (λ x. IsOut index x m new)
    go None e same = nothing (line_of (secondary_at index) w) (ap (line_of (secondary_at index)) same ∙ e) gone ∙ same
    go (Some x) e b =
        let at : line_of (secondary_at index) w ≡ Some (gathered_line m x) =
        ap (λ (xs : List (Option Line)). get_or xs index None) b.s ∙ get_or-set_same m.caches.s index (Some (gathered_line m x)) None (inside m.caches.s index x e) in
        out_of m w new index x b (something (line_of (secondary_at index) w) (gathered_line m x) at gone)
