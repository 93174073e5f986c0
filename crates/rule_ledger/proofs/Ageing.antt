-- Copies of a granule that become old, a colour at a time.
use Rattle.std.proofs.Common.{◌≡◌, ℕ, ◌+◌, ◌-◌, ◌≤◌, false, refl, ap, ap₂, ◌∙◌, arith, inl, inr, ◌&&◌, ◌||◌, eqb, leb, ltb}
use Rattle.std.proofs.Math.Path.{fun_ext}
use Rattle.std.proofs.lemmas.Bool.{cases_Bool, cases_lt, cases_eq, and_right, and_parts, eqb-true}
use Rattle.std.proofs.lemmas.Bool.Decides.{nat_tests}
use Rattle.rule_ledger.specs.declared.marks.DataMark.{DataMark}
use Rattle.rule_ledger.specs.declared.marks.InstructionMark.{InstructionMark}
use Rattle.rule_ledger.specs.Facts.{Cells, Facts, cell, granules, both, either, put}
use Rattle.rule_ledger.specs.MarkFlags.{aged, instructions_aged, all_aged, with_data, with_instruction, data_at, instruction_at}

-- the cells of a granule at the colours below a bound
abbrev pub below : ℕ → ℕ → Cells
below granule bound g c = eqb g granule && ltb c bound

-- old copies at no colour, at one colour more, and at every colour where copies can be held
pub old_none : (held old : Cells) (g : ℕ) → old ≡ either (both (below g 0) held) old
old_none held old g = fun_ext (λ h. fun_ext (λ d. grind (arith, nat_tests)))

pub old_more : (held old : Cells) (g c : ℕ) → put (cell g c) (held g c || either (both (below g c) held) old g c) (either (both (below g c) held) old) ≡ either (both (below g (c + 1)) held) old
old_more held old g c = fun_ext (λ h. fun_ext (λ d. at h d))
  where
    at : (h d : ℕ) → put (cell g c) (held g c || either (both (below g c) held) old g c) (either (both (below g c) held) old) h d ≡ either (both (below g (c + 1)) held) old h d
    at h d = elim (cases_eq h g) [
      | inl p ↦ elim (cases_eq d c) [
        | inl q ↦ rw (p, q) (grind (arith, nat_tests))
        | inr q ↦ grind (arith, nat_tests)
      ]
      | inr p ↦ grind (arith, nat_tests)
    ]

pub old_all : (held old : Cells) (g n : ℕ) → ((h d : ℕ) → n ≤ d → held h d ≡ false) → either (both (below g n) held) old ≡ either (both (granules g 1) held) old
old_all held old g n past = fun_ext (λ h. fun_ext (λ d. at h d))
  where
    at : (h d : ℕ) → either (both (below g n) held) old h d ≡ either (both (granules g 1) held) old h d
    at h d = elim (cases_lt d n) [
      | inl lt ↦ grind (arith, nat_tests)
      | inr ge ↦ rw (past h d ge, and_right (eqb h g && ltb d n) false refl, and_right (leb g h && ltb h (g + 1)) false refl) refl
    ]

-- a fact that is replaced by what it was
pub put_same : (fact : Cells) (g c : ℕ) → put (cell g c) (fact g c) fact ≡ fact
put_same fact g c = fun_ext (λ h. fun_ext (λ d. at h d))
  where
    at : (h d : ℕ) → put (cell g c) (fact g c) fact h d ≡ fact h d
    at h d = elim (cases_Bool (eqb h g && eqb d c)) [
      | inl e ↦ (let p = and_parts (eqb h g) (eqb d c) e in rw (e, eqb-true h g p.0, eqb-true d c p.1) refl)
      | inr e ↦ rw e refl
    ]

-- ---- the facts

pub aged_none : (k : Facts) (g : ℕ) → k ≡ aged (below g 0) k
aged_none k g = let old = old_none k.held k.old g in λ i. record { held = k.held; dirty = k.dirty; old = old i; iheld = k.iheld; iold = k.iold }

pub aged_more : (k now new : Facts) (g c : ℕ) (m : DataMark) → now ≡ aged (below g c) k → m ≡ data_at now g c → new ≡ with_data g c (record m { old = m.held || m.old }) now
    → new ≡ aged (below g (c + 1)) k
aged_more k now new g c m e f w = w ∙ (ap₂ (λ (n : DataMark) (q : Facts). with_data g c (record n { old = n.held || n.old }) q) (f ∙ ap (λ (q : Facts). data_at q g c) e) e ∙ whole)
  where
    whole : with_data g c (record (data_at (aged (below g c) k) g c) { old = k.held g c || either (both (below g c) k.held) k.old g c }) (aged (below g c) k) ≡ aged (below g (c + 1)) k
    whole =
        let held = put_same k.held g c in
        let dirty = put_same k.dirty g c in
        let old = old_more k.held k.old g c in
        λ i. record { held = held i; dirty = dirty i; old = old i; iheld = k.iheld; iold = k.iold }

pub aged_all : (k : Facts) (g n : ℕ) → ((h d : ℕ) → n ≤ d → k.held h d ≡ false) → aged (below g n) k ≡ aged (granules g 1) k
aged_all k g n past = let old = old_all k.held k.old g n past in λ i. record { held = k.held; dirty = k.dirty; old = old i; iheld = k.iheld; iold = k.iold }

pub instructions_aged_none : (k : Facts) (g : ℕ) → k ≡ instructions_aged (below g 0) k
instructions_aged_none k g = let old = old_none k.iheld k.iold g in λ i. record { held = k.held; dirty = k.dirty; old = k.old; iheld = k.iheld; iold = old i }

pub instructions_aged_more : (k now new : Facts) (g c : ℕ) (m : InstructionMark) → now ≡ instructions_aged (below g c) k → m ≡ instruction_at now g c → new ≡ with_instruction g c (record m { old = m.held || m.old }) now
    → new ≡ instructions_aged (below g (c + 1)) k
instructions_aged_more k now new g c m e f w = w ∙ (ap₂ (λ (n : InstructionMark) (q : Facts). with_instruction g c (record n { old = n.held || n.old }) q) (f ∙ ap (λ (q : Facts). instruction_at q g c) e) e ∙ whole)
  where
    whole : with_instruction g c (record (instruction_at (instructions_aged (below g c) k) g c) { old = k.iheld g c || either (both (below g c) k.iheld) k.iold g c }) (instructions_aged (below g c) k) ≡ instructions_aged (below g (c + 1)) k
    whole =
        let held = put_same k.iheld g c in
        let old = old_more k.iheld k.iold g c in
        λ i. record { held = k.held; dirty = k.dirty; old = k.old; iheld = held i; iold = old i }

pub instructions_aged_all : (k : Facts) (g n : ℕ) → ((h d : ℕ) → n ≤ d → k.iheld h d ≡ false) → instructions_aged (below g n) k ≡ instructions_aged (granules g 1) k
instructions_aged_all k g n past = let old = old_all k.iheld k.iold g n past in λ i. record { held = k.held; dirty = k.dirty; old = k.old; iheld = k.iheld; iold = old i }

-- ---- granule by granule

grown : (held old : Cells) (first g : ℕ) → first ≤ g → either (both (granules g 1) held) (either (both (granules first (g - first)) held) old) ≡ either (both (granules first (g + 1 - first)) held) old
grown held old first g low = fun_ext (λ h. fun_ext (λ d. at h d))
  where
    covers : (h : ℕ) → ((leb g h && ltb h (g + 1)) || (leb first h && ltb h (first + (g - first)))) ≡ (leb first h && ltb h (first + (g + 1 - first)))
    covers h = grind (arith, nat_tests)

    at : (h d : ℕ) → either (both (granules g 1) held) (either (both (granules first (g - first)) held) old) h d ≡ either (both (granules first (g + 1 - first)) held) old h d
    at h d = elim (cases_Bool (held h d)) [
      | inl e ↦ (let w = covers h in rw e (grind (arith, nat_tests)))
      | inr e ↦ rw (e, and_right (leb g h && ltb h (g + 1)) false refl, and_right (leb first h && ltb h (first + (g - first))) false refl, and_right (leb first h && ltb h (first + (g + 1 - first))) false refl) refl
    ]

pub all_aged_more : (k now mid new : Facts) (first g : ℕ) → first ≤ g → now ≡ all_aged (granules first (g - first)) k → mid ≡ aged (granules g 1) now → new ≡ instructions_aged (granules g 1) mid
    → new ≡ all_aged (granules first (g + 1 - first)) k
all_aged_more k now mid new first g low e f w = w ∙ (ap (instructions_aged (granules g 1)) (f ∙ ap (aged (granules g 1)) e) ∙ whole)
  where
    whole : instructions_aged (granules g 1) (aged (granules g 1) (all_aged (granules first (g - first)) k)) ≡ all_aged (granules first (g + 1 - first)) k
    whole =
        let old = grown k.held k.old first g low in
        let iold = grown k.iheld k.iold first g low in
        λ i. record { held = k.held; dirty = k.dirty; old = old i; iheld = k.iheld; iold = iold i }
