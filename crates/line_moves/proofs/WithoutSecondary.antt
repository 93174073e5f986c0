-- The moves on a machine without a secondary cache, in a form of their own: a line goes to RAM and comes from there. Each is the move.
use Rattle.std.proofs.Common.{◌≡◌, ℕ, ◌*◌, Bool, false, cond, if◌then◌else◌, List, Option, Some, None, refl, ap, ◌∙◌, inl, inr}
use Rattle.std.proofs.lemmas.Bool.{cases_Bool, cond_both}
use Rattle.flat_ram.specs.Bytes.{bytes_at}
use Rattle.r4_shape.specs.Numbers.{Numbers}
use Rattle.r4_shape.specs.Address.{pidx}
use Rattle.line_moves.specs.declared.hierarchy.Hier.{Hier}
use Rattle.line_moves.specs.declared.places.Side.{Side}
use Rattle.line_moves.specs.declared.places.Side.TheVariants.{I, D, S}
use Rattle.line_moves.specs.declared.places.Place.{Place}
use Rattle.line_moves.specs.Lines.{Line, line_at, with_line, marked, holds}
use Rattle.line_moves.specs.Moves.{line_of, put_within, discard}
use Rattle.line_moves.specs.Moves as moves

-- ---- the moves

abbrev pub to_ram : Line → Hier → Hier
to_ram l m = record m { ram = put_within m.ram (l.number * m.caches.shape.line) l.bytes }

abbrev pub back_line : Place → Option Line → Hier → Hier
back_line p None m = m
back_line p (Some l) m = if l.dirty then record (to_ram l m) { caches = with_line p (Some (marked false l)) m.caches } else m

abbrev pub back_on : Side → ℕ → Hier → Hier
back_on I index m = m
back_on D index m = back_line (record { side = D; index = index }) (line_of (record { side = D; index = index }) m) m
back_on S index m = m

abbrev pub back : Place → Hier → Hier
back p m = back_on p.side p.index m

abbrev pub line_of_ram : ℕ → ℕ → List ℕ → Line
line_of_ram size number ram = record { number = number; dirty = false; pidx = 0; bytes = bytes_at ram (number * size) size }

abbrev pub fill : Place → ℕ → Hier → Hier
fill p number m = record m { caches = with_line p (Some (line_of_ram m.caches.shape.line number m.ram)) m.caches }

abbrev pub miss : Place → ℕ → Hier → Hier
miss p number m = fill p number (discard p (back p m))

abbrev pub ready : Place → ℕ → Hier → Hier
ready p number m = if holds p number m.caches then m else miss p number m

-- a place of the data cache, and one of the instruction cache
abbrev data_at : ℕ → Place
data_at index = record { side = D; index = index }

abbrev instruction_at : ℕ → Place
instruction_at index = record { side = I; index = index }

-- a choice that is not taken
pub skipped : (test : Bool) (x y : Hier) → test ≡ false → cond test x y ≡ y
skipped test x y e = rw e refl

-- ---- each is the move

module _ (m : Hier) (alone : m.caches.shape.sc ≡ false) where
  pub not_in_secondary : (pa : ℕ) → moves.in_secondary pa m ≡ false
  not_in_secondary pa = rw alone refl

  pub not_under_other_pidx : (pa x : ℕ) → moves.is_under_other_pidx pa x m ≡ false
  not_under_other_pidx pa x = rw (not_in_secondary pa) refl

  pub no_conflict : (p : Place) (va number : ℕ) → moves.is_conflict p va number m ≡ false
  no_conflict p va number = elim (cases_Bool (holds p number m.caches)) [
    | inl t ↦ rw t refl
    | inr f ↦ rw (f, not_in_secondary (number * m.caches.shape.line)) refl
  ]

  write_below_is : (l : Line) → moves.write_below l m ≡ to_ram l m
  write_below_is l = rw (not_in_secondary (l.number * m.caches.shape.line)) refl

  pub back_is : (i : ℕ) → moves.back (data_at i) m ≡ back (data_at i) m
  back_is i = go (line_at (data_at i) m.caches) refl
    where
      go : (o : Option Line) → line_at (data_at i) m.caches ≡ o → moves.back_data (data_at i) o m ≡ back_line (data_at i) o m
      go None e = refl
      go (Some l) e = ap (λ (x : Hier). cond l.dirty x m) (rw (write_below_is l, e) refl)

  pub fill_is : (p : Place) (number : ℕ) → moves.fill p number m ≡ fill p number m
  fill_is p number = rw (not_in_secondary (number * m.caches.shape.line)) refl

  pub nothing_below : (pa x : ℕ) → moves.ready_below pa x m ≡ m
  nothing_below pa x = skipped m.caches.shape.sc (moves.ready_secondary pa x m) m alone

-- Back leaves the shape
pub back_keeps : (m : Hier) (i : ℕ) → (back (data_at i) m).caches.shape ≡ m.caches.shape
back_keeps m i = go (line_at (data_at i) m.caches)
  where
    go : (o : Option Line) → (back_line (data_at i) o m).caches.shape ≡ m.caches.shape
    go None = refl
    go (Some l) =
        cond_both l.dirty (record (to_ram l m) { caches = with_line (data_at i) (Some (marked false l)) m.caches }) m
        (λ x. x.caches.shape ≡ m.caches.shape) (λ _. refl) (λ _. refl)

module _ (m : Hier) (alone : m.caches.shape.sc ≡ false) where
  pub ready_data_is : (i va n : ℕ) → moves.ready (data_at i) va n m ≡ ready (data_at i) n m
  ready_data_is i va n =
      let w : Hier = discard (data_at i) (back (data_at i) m) in
      let sc : w.caches.shape.sc ≡ false = ap (λ (s : Numbers). s.sc) (back_keeps m i) ∙ alone in
      ap (λ (x : Hier). cond (holds (data_at i) n m.caches) m x)
      (ap (λ (x : Hier). moves.fill (data_at i) n (moves.ready_below (n * m.caches.shape.line) (pidx va) (discard (data_at i) x))) (back_is m alone i)
      ∙ ap (moves.fill (data_at i) n) (nothing_below w sc (n * m.caches.shape.line) (pidx va))
      ∙ fill_is w sc (data_at i) n)

  pub ready_instruction_is : (i va n : ℕ) → moves.ready (instruction_at i) va n m ≡ ready (instruction_at i) n m
  ready_instruction_is i va n =
      let w : Hier = discard (instruction_at i) m in
      ap (λ (x : Hier). cond (holds (instruction_at i) n m.caches) m x)
      (ap (moves.fill (instruction_at i) n) (nothing_below w alone (n * m.caches.shape.line) (pidx va)) ∙ fill_is w alone (instruction_at i) n)

  -- Fill of an instruction line in place of what stands there
  pub refill_is : (i va n : ℕ)
      → moves.fill (instruction_at i) n (moves.ready_below (n * m.caches.shape.line) (pidx va) (discard (instruction_at i) m))
      ≡ fill (instruction_at i) n (discard (instruction_at i) m)
  refill_is i va n =
      let w : Hier = discard (instruction_at i) m in
      ap (moves.fill (instruction_at i) n) (nothing_below w alone (n * m.caches.shape.line) (pidx va)) ∙ fill_is w alone (instruction_at i) n
