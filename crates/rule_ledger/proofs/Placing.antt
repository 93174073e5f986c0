-- The cells of a grid and their places in a table: no two cells have one place, a place's rest by the rows is the primary
-- index, and what a set of flagged cells becomes where a mark is replaced or a row is cleared.
use Rattle.std.proofs.Common.{◌≡◌, ℕ, ◌+◌, ◌*◌, ◌/◌, ◌%◌, ◌<◌, Bool, false, cond, ◌≢◌, arith, refl, sym, ap, ap₂, ◌∙◌, inl, inr, eqb, ltb, ◌&&◌, not}
use Rattle.std.proofs.Math.Path.{fun_ext}
use Rattle.std.proofs.lemmas.Nat.{div-mul-add, mod-mul-add, div_below, div-add-mod', mod_below, mul-add-lt}
use Rattle.std.proofs.lemmas.Bool.{cases_Bool, and_parts, and_from, eqb-true, eq-eqb, ne_eqb, ltb-true, lt-ltb, both_ways, and_right}
use Rattle.rule_ledger.specs.Facts.{cell, without, at_index, put}
use Rattle.rule_ledger.specs.Cells.{Grid}
use Rattle.rule_ledger.specs.Marks.{place_of, is_inside, flagged}

-- A grid of whole pages.
pub record IsGrid (grid : Grid) : Type 0 where
  pub page : 0 < grid.page
  pub colours : 0 < grid.colours
  pub even : grid.whole % grid.page ≡ 0

module _ (grid : Grid) (is : IsGrid grid) where
  -- the place of a cell among those of its page of granules
  within : (g c : ℕ) → c < grid.colours → c * grid.page + g % grid.page < grid.page * grid.colours
  within g c lt = mul-add-lt c grid.page (g % grid.page) grid.colours lt (mod_below g grid.page is.page)

  pub place_inside : (g c : ℕ) → g < grid.whole → c < grid.colours → place_of grid g c < grid.whole * grid.colours
  place_inside g c gl cl =
      let w = div-add-mod' grid.whole grid.page in
      let e : grid.whole / grid.page * grid.page ≡ grid.whole = (let z = is.even in omega arith) in
      let q : g / grid.page < grid.whole / grid.page = div_below g grid.page (grid.whole / grid.page) is.page (rw e gl) in
      let n = mul-add-lt (g / grid.page) (grid.page * grid.colours) (c * grid.page + g % grid.page) (grid.whole / grid.page) q (within g c cl) in
      let t : (grid.whole / grid.page) * (grid.page * grid.colours) ≡ grid.whole * grid.colours = regroup (grid.whole / grid.page) grid.page grid.colours ∙ ap (λ x. x * grid.colours) e in
      omega arith
    where
      regroup : (a b c : ℕ) → a * (b * c) ≡ (a * b) * c
      regroup a b c = omega arith

  -- a place tells its cell
  pub same_cell : (g c h d : ℕ) → c < grid.colours → d < grid.colours → place_of grid g c ≡ place_of grid h d → (g ≡ h) × (c ≡ d)
  same_cell g c h d cl dl e =
      let high : g / grid.page ≡ h / grid.page = sym (div-mul-add (g / grid.page) (grid.page * grid.colours) (c * grid.page + g % grid.page) (within g c cl)) ∙ (ap (λ x. x / (grid.page * grid.colours)) e ∙ div-mul-add (h / grid.page) (grid.page * grid.colours) (d * grid.page + h % grid.page) (within h d dl)) in
      let low : c * grid.page + g % grid.page ≡ d * grid.page + h % grid.page = sym (mod-mul-add (g / grid.page) (grid.page * grid.colours) (c * grid.page + g % grid.page) (within g c cl)) ∙ (ap (λ x. x % (grid.page * grid.colours)) e ∙ mod-mul-add (h / grid.page) (grid.page * grid.colours) (d * grid.page + h % grid.page) (within h d dl)) in
      let colour : c ≡ d = sym (div-mul-add c grid.page (g % grid.page) (mod_below g grid.page is.page)) ∙ (ap (λ x. x / grid.page) low ∙ div-mul-add d grid.page (h % grid.page) (mod_below h grid.page is.page)) in
      let rest : g % grid.page ≡ h % grid.page = sym (mod-mul-add c grid.page (g % grid.page) (mod_below g grid.page is.page)) ∙ (ap (λ x. x % grid.page) low ∙ mod-mul-add d grid.page (h % grid.page) (mod_below h grid.page is.page)) in
      (sym (div-add-mod' g grid.page) ∙ (ap₂ (λ x y. x * grid.page + y) high rest ∙ div-add-mod' h grid.page), colour)

  -- the row of a place is the primary index
  pub row_of_place : (g c : ℕ) → c < grid.colours → place_of grid g c % (grid.page * grid.colours) ≡ c * grid.page + g % grid.page
  row_of_place g c cl = mod-mul-add (g / grid.page) (grid.page * grid.colours) (c * grid.page + g % grid.page) (within g c cl)

  -- the flag at a cell
  pub flagged_at : (flag : ℕ → Bool) (mark : ℕ → ℕ) (g c : ℕ) → g < grid.whole → c < grid.colours → flagged flag grid mark g c ≡ flag (mark (place_of grid g c))
  flagged_at flag mark g c gl cl = rw (lt-ltb g grid.whole gl, lt-ltb c grid.colours cl) refl

  -- one mark is replaced
  pub flagged-set : (flag : ℕ → Bool) (mark mark' : ℕ → ℕ) (g c x : ℕ) → g < grid.whole → c < grid.colours
      → ((k : ℕ) → k < grid.whole * grid.colours → mark' k ≡ cond (eqb k (place_of grid g c)) x (mark k))
      → flagged flag grid mark' ≡ put (cell g c) (flag x) (flagged flag grid mark)
  flagged-set flag mark mark' g c x gl cl replaced = fun_ext (λ h. fun_ext (λ d. at h d))
    where
      at : (h d : ℕ) → flagged flag grid mark' h d ≡ put (cell g c) (flag x) (flagged flag grid mark) h d
      at h d = elim (cases_Bool (eqb h g && eqb d c)) [
        | inl e ↦ (let p = and_parts (eqb h g) (eqb d c) e in
            let here = replaced (place_of grid g c) (place_inside g c gl cl) in
            rw (e, eqb-true h g p.0, eqb-true d c p.1, here, eq-eqb (place_of grid g c) (place_of grid g c) refl, lt-ltb g grid.whole gl, lt-ltb c grid.colours cl) refl)
        | inr e ↦ rw e (elim (cases_Bool (is_inside grid h d)) [
          | inl t ↦ (let p = and_parts (ltb h grid.whole) (ltb d grid.colours) t in
              let hl = ltb-true h grid.whole p.0 in
              let dl = ltb-true d grid.colours p.1 in
              let apart : place_of grid h d ≢ place_of grid g c = λ q. (let s = same_cell h d g c dl cl q in
              both_ways (eqb h g && eqb d c) e (and_from (eqb h g) (eqb d c) (eq-eqb h g s.0) (eq-eqb d c s.1))) in
              rw (replaced (place_of grid h d) (place_inside h d hl dl), ne_eqb (place_of grid h d) (place_of grid g c) apart) refl)
          | inr f ↦ rw f refl
        ])
      ]

  -- a row is cleared
  pub flagged-cleared : (flag : ℕ → Bool) (mark mark' : ℕ → ℕ) (row : ℕ) → flag 0 ≡ false
      → ((k : ℕ) → k < grid.whole * grid.colours → mark' k ≡ cond (eqb (k % (grid.page * grid.colours)) row) 0 (mark k))
      → flagged flag grid mark' ≡ without (at_index grid.page row) (flagged flag grid mark)
  flagged-cleared flag mark mark' row none cleared = fun_ext (λ g. fun_ext (λ c. at g c))
    where
      at : (g c : ℕ) → flagged flag grid mark' g c ≡ without (at_index grid.page row) (flagged flag grid mark) g c
      at g c = elim (cases_Bool (is_inside grid g c)) [
        | inl t ↦ (let p = and_parts (ltb g grid.whole) (ltb c grid.colours) t in
            let gl = ltb-true g grid.whole p.0 in
            let cl = ltb-true c grid.colours p.1 in
            rw (t, cleared (place_of grid g c) (place_inside g c gl cl), row_of_place g c cl)
            (elim (cases_Bool (eqb (c * grid.page + g % grid.page) row)) [ inl a ↦ rw a none | inr a ↦ rw a refl ]))
        | inr f ↦ rw (f, and_right (not (eqb (c * grid.page + g % grid.page) row)) false refl) refl
      ]
