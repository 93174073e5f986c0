-- When two sets of cells meet, and when a row of the table of rules is broken.
use Rattle.std.proofs.Common.{◌≡◌, ℕ, ◌+◌, ◌<◌, ◌≤◌, Bool, true, false, refl, sym, ap, ◌∙◌, arith, inl, inr, ◌&&◌, not, eqb, leb, ltb}
use Rattle.std.proofs.lemmas.Bool.{and_parts, and_from, eq-eqb, eqb-true, eqb-false, ne_eqb, not-true, le-leb, leb-true, lt-ltb, ltb-true, cases_Bool, false_from_ne_true, both_ways, true≢false}
use Rattle.std.proofs.lemmas.Bool.Decides.{Decides-below_or}
use Rattle.std.specs.Bool.{Decides}
use Rattle.rule_ledger.specs.Facts.{Cells, cell, nowhere, other_colours, granules}
use Rattle.rule_ledger.specs.Cells.{Grid, some_below, meets}

-- ---- some number below a bound

decides_below : (test : ℕ → Bool) (n : ℕ) → Decides (some_below n test) ((k : ℕ) × (k < n) × (test k ≡ true))
unfolding some_below
decides_below test n = Decides-below_or test (λ k. test k ≡ true) (λ m. some_below m test) (λ k. (λ e. e, λ e. e)) refl (λ m. refl) n

pub some_below_at : (test : ℕ → Bool) (n k : ℕ) → k < n → test k ≡ true → some_below n test ≡ true
some_below_at test n k lt e = (decides_below test n).1 (k, lt, e)

pub none_below : (test : ℕ → Bool) (n : ℕ) → ((k : ℕ) → k < n → test k ≡ false) → some_below n test ≡ false
none_below test n none = false_from_ne_true (some_below n test) (λ e. let w = (decides_below test n).0 e in both_ways (test w.0) (none w.0 w.1) w.2)

pub below_none : (test : ℕ → Bool) (n : ℕ) → some_below n test ≡ false → (k : ℕ) → k < n → test k ≡ false
below_none test n e k lt = false_from_ne_true (test k) (λ t. both_ways (some_below n test) e (some_below_at test n k lt t))

pub below_some : (test : ℕ → Bool) (n : ℕ) → some_below n test ≡ true → (k : ℕ) × (k < n) × (test k ≡ true)
below_some test n e = (decides_below test n).0 e

-- ---- sets that meet

-- a cell of the grid that both have
pub meets_at : (grid : Grid) (a b : Cells) (g c : ℕ) → g < grid.whole → c < grid.colours → a g c ≡ true → b g c ≡ true → meets grid a b ≡ true
meets_at grid a b g c gl cl e f = some_below_at _ grid.whole g gl (some_below_at _ grid.colours c cl (and_from (a g c) (b g c) e f))

-- no cell of the grid that both have
pub meets_none : (grid : Grid) (a b : Cells) → ((g c : ℕ) → g < grid.whole → c < grid.colours → a g c ≡ true → b g c ≡ false) → meets grid a b ≡ false
meets_none grid a b none = none_below _ grid.whole (λ g gl. none_below _ grid.colours (λ c cl. apart g c gl cl))
  where
    apart : (g c : ℕ) → g < grid.whole → c < grid.colours → (a g c && b g c) ≡ false
    apart g c gl cl = elim (cases_Bool (a g c)) [
      | inl e ↦ rw (e, none g c gl cl e) refl
      | inr e ↦ rw e refl
    ]

-- what sets that do not meet tell of each cell
pub apart_at : (grid : Grid) (a b : Cells) (g c : ℕ) → meets grid a b ≡ false → g < grid.whole → c < grid.colours → a g c ≡ true → b g c ≡ false
apart_at grid a b g c e gl cl here =
    false_from_ne_true (b g c) (λ t. both_ways (meets grid a b) e (meets_at grid a b g c gl cl here t))

-- one cell meets a fact where the fact holds there
pub meets_cell : (grid : Grid) (fact : Cells) (g c : ℕ) → g < grid.whole → c < grid.colours → meets grid (cell g c) fact ≡ fact g c
meets_cell grid fact g c gl cl = elim (cases_Bool (fact g c)) [
  | inl e ↦ meets_at grid (cell g c) fact g c gl cl (and_from (eqb g g) (eqb c c) (eq-eqb g g refl) (eq-eqb c c refl)) e ∙ sym e
  | inr e ↦ meets_none grid (cell g c) fact (λ h d hl dl t. let p = and_parts (eqb h g) (eqb d c) t in rw (eqb-true h g p.0, eqb-true d c p.1) e) ∙ sym e
]

-- nothing meets nowhere
pub meets_nowhere : (grid : Grid) (fact : Cells) → meets grid nowhere fact ≡ false
meets_nowhere grid fact = meets_none grid nowhere fact (λ g c gl cl t. absurd (true≢false (sym t)))

-- ---- the sets of the rows

pub some_elsewhere : (grid : Grid) (fact : Cells) (g c d : ℕ) → g < grid.whole → d < grid.colours → (d ≡ c → ⊥) → fact g d ≡ true → meets grid (other_colours g c) fact ≡ true
some_elsewhere grid fact g c d gl dl ne e =
    meets_at grid (other_colours g c) fact g d gl dl (and_from (eqb g g) (not (eqb d c)) (eq-eqb g g refl) (ap not (ne_eqb d c ne))) e

pub none_elsewhere : (grid : Grid) (fact : Cells) (g c : ℕ) → ((d : ℕ) → d < grid.colours → (d ≡ c → ⊥) → fact g d ≡ false) → meets grid (other_colours g c) fact ≡ false
none_elsewhere grid fact g c none = meets_none grid (other_colours g c) fact (λ h d hl dl t.
    let p = and_parts (eqb h g) (not (eqb d c)) t in rw (eqb-true h g p.0) (none d dl (eqb-false d c (not-true (eqb d c) p.1))))

pub some_on : (grid : Grid) (fact : Cells) (first count g c : ℕ) → g < grid.whole → c < grid.colours → first ≤ g → g < first + count → fact g c ≡ true → meets grid (granules first count) fact ≡ true
some_on grid fact first count g c gl cl low high e =
    meets_at grid (granules first count) fact g c gl cl (and_from (leb first g) (ltb g (first + count)) (le-leb first g low) (lt-ltb g (first + count) high)) e

pub none_on : (grid : Grid) (fact : Cells) (first count : ℕ) → ((g c : ℕ) → g < grid.whole → c < grid.colours → first ≤ g → g < first + count → fact g c ≡ false) → meets grid (granules first count) fact ≡ false
none_on grid fact first count none = meets_none grid (granules first count) fact (λ h d hl dl t.
    let p = and_parts (leb first h) (ltb h (first + count)) t in none h d hl dl (leb-true first h p.0) (ltb-true h (first + count) p.1))

-- each cell of granules that meet no dirty one
pub clean_on : (grid : Grid) (fact : Cells) (first count g c : ℕ) → meets grid (granules first count) fact ≡ false → g < grid.whole → c < grid.colours → first ≤ g → g < first + count → fact g c ≡ false
clean_on grid fact first count g c e gl cl low high =
    apart_at grid (granules first count) fact g c e gl cl (and_from (leb first g) (ltb g (first + count)) (le-leb first g low) (lt-ltb g (first + count) high))

-- a larger set meets what a smaller one meets
pub meets_more : (grid : Grid) (a b fact : Cells) → ((g c : ℕ) → a g c ≡ true → b g c ≡ true) → meets grid a fact ≡ true → meets grid b fact ≡ true
meets_more grid a b fact more e =
    let w = below_some _ grid.whole e in
    let v = below_some _ grid.colours w.2 in
    let p = and_parts (a w.0 v.0) (fact w.0 v.0) v.2 in
    meets_at grid b fact w.0 v.0 w.1 v.1 (more w.0 v.0 p.0) p.1

pub meets_one_of : (grid : Grid) (fact : Cells) (first count g : ℕ) → first ≤ g → g < first + count → meets grid (granules g 1) fact ≡ true → meets grid (granules first count) fact ≡ true
meets_one_of grid fact first count g low high = meets_more grid (granules g 1) (granules first count) fact (λ h d t.
    let p = and_parts (leb g h) (ltb h (g + 1)) t in
    let a = leb-true g h p.0 in
    let b = ltb-true h (g + 1) p.1 in
    and_from (leb first h) (ltb h (first + count)) (le-leb first h (omega arith)) (lt-ltb h (first + count) (omega arith)))

pub same_granule : (g granule : ℕ) → granule ≤ g → g < granule + 1 → g ≡ granule
same_granule g granule low high = omega arith

pub own_granule : (g c : ℕ) → granules g 1 g c ≡ true
own_granule g c = and_from (leb g g) (ltb g (g + 1)) (le-leb g g (omega arith)) (lt-ltb g (g + 1) (omega arith))

pub granule_of : (g h c : ℕ) → granules g 1 h c ≡ true → h ≡ g
granule_of g h c e = let p = and_parts (leb g h) (ltb h (g + 1)) e in same_granule h g (leb-true g h p.0) (ltb-true h (g + 1) p.1)
