-- The cells of a primary index: one in each page of RAM.
use Rattle.std.proofs.Common.{◌≡◌, ℕ, ◌+◌, ◌*◌, ◌/◌, ◌%◌, ◌<◌, true, false, ap, sym, ◌∙◌, arith}
use Rattle.std.proofs.lemmas.Nat.{div-mul-add, mod-mul-add, div_below, div-add-mod', mod_below, mul-add-lt}
use Rattle.std.proofs.lemmas.Bool.{eqb-true, eq-eqb}
use Rattle.rule_ledger.specs.Facts.{Cells, at_index}
use Rattle.rule_ledger.specs.Cells.{Grid, meets}
use Rattle.rule_ledger.proofs.Placing.{IsGrid}
use Rattle.rule_ledger.proofs.Meeting.{meets_at, meets_none}

module _ (grid : Grid) (is : IsGrid grid) (pages : ℕ) (whole : grid.whole ≡ pages * grid.page) where
  -- the granule of an index in a page
  pub granule_inside : (p index : ℕ) → p < pages → p * grid.page + index % grid.page < grid.whole
  granule_inside p index lt = let b = mul-add-lt p grid.page (index % grid.page) pages lt (mod_below index grid.page is.page) in omega arith

  pub some_at : (fact : Cells) (p index : ℕ) → p < pages → index / grid.page < grid.colours → fact (p * grid.page + index % grid.page) (index / grid.page) ≡ true
      → meets grid (at_index grid.page index) fact ≡ true
  some_at fact p index lt cl e =
      meets_at grid (at_index grid.page index) fact (p * grid.page + index % grid.page) (index / grid.page) (granule_inside p index lt) cl
      (eq-eqb _ index (ap (λ x. index / grid.page * grid.page + x) (mod-mul-add p grid.page (index % grid.page) (mod_below index grid.page is.page)) ∙ div-add-mod' index grid.page)) e

  pub none_at : (fact : Cells) (index : ℕ) → ((p : ℕ) → p < pages → fact (p * grid.page + index % grid.page) (index / grid.page) ≡ false)
      → meets grid (at_index grid.page index) fact ≡ false
  none_at fact index none = meets_none grid (at_index grid.page index) fact (λ g c gl cl t.
      let e : c * grid.page + g % grid.page ≡ index = eqb-true (c * grid.page + g % grid.page) index t in
      let rest : g % grid.page < grid.page = mod_below g grid.page is.page in
      let colour : index / grid.page ≡ c = ap (λ x. x / grid.page) (sym e) ∙ div-mul-add c grid.page (g % grid.page) rest in
      let within : index % grid.page ≡ g % grid.page = ap (λ x. x % grid.page) (sym e) ∙ mod-mul-add c grid.page (g % grid.page) rest in
      let page : g / grid.page < pages = div_below g grid.page pages is.page (omega arith) in
      rw (colour, within, div-add-mod' g grid.page) at (none (g / grid.page) page))
