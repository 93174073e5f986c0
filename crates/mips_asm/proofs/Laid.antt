-- The first pass, a line at a time: what is known of the lines that it has passed.
use Rattle.std.proofs.Common.{◌≡◌, ◌+◌, ◌<◌, ◌≤◌, ℕ, List, [], ◌∷◌, ◌++◌, Some, None, length, take, slice_get, refl, ap, sym, ◌∙◌, arith, append_assoc, append-nil, length-append, subst, Ok}
use Rattle.std.specs.Option.{option_and_then}
use Rattle.std.proofs.Math.Seq.{take-append_seam}
use Rattle.std.proofs.lemmas.List.Elements.{filter_map-append}
use Rattle.std.proofs.lemmas.Option.{slice_get_past}
use Rattle.mips_text.specs.declared.reason.AsmWhy.{AsmWhy}
use Rattle.mips_text.specs.declared.item.Line.{Line}
use Rattle.mips_text.specs.Line.{Reading}
use Rattle.mips_asm.specs.Layout.{Placed, placed_at, placed, size_of, size_read, label_read, labels_of, fault_at, fault_read, layout_fault}
use Rattle.mips_asm.specs.Assembly.{HasNoFault, IsFirstFault}
use Rattle.mips_asm.specs.PassesOf.{address_after}
use Rattle.mips_asm.proofs.Faults.{get_after, none_more, none_at_all}

-- the pass stands before these later lines, the first of which has this number and stands at this address; the lines
-- before them have these labels, and no fault
pub record IsLaidTo (base : ℕ) (readings : List Reading) (number address : ℕ) (labels : List (List ℕ × ℕ)) (later : List Reading) : Type 0 where
  pub passed : List Placed
  pub counted : number ≡ length passed + 1
  pub lines : placed base readings ≡ passed ++ placed address later
  pub labelled : labels ≡ labels_of passed
  pub none_before : (n : ℕ) → n < length passed → layout_fault base (placed base readings) n ≡ None
  pub ends : address_after address later ≡ address_after base readings

-- the fault of a line, by the lines before it
fault_is : (base : ℕ) (lines front : List Placed) (line : Placed) (rest : List Placed) → lines ≡ front ++ line ∷ rest → layout_fault base lines (length front) ≡ fault_read base line.address (labels_of front) line.reading
unfolding layout_fault
fault_is base lines front line rest is =
    ap (λ all. option_and_then (λ (one : Placed). fault_read base one.address (labels_of (take (length front) all)) one.reading) (slice_get all (length front))) is
    ∙ ap (λ found. option_and_then (λ (one : Placed). fault_read base one.address (labels_of (take (length front) (front ++ line ∷ rest))) one.reading) found) (get_after front line rest)
    ∙ ap (λ before. fault_read base line.address (labels_of before) line.reading) (take-append_seam front (line ∷ rest))

no_fault_past : (base : ℕ) (lines : List Placed) (n : ℕ) → length lines ≤ n → layout_fault base lines n ≡ None
unfolding layout_fault
no_fault_past base lines n past = ap (option_and_then (λ (one : Placed). fault_read base one.address (labels_of (take n lines)) one.reading)) (slice_get_past lines n past)

-- before all lines
pub laid_start : (base : ℕ) (readings : List Reading) → IsLaidTo base readings 1 base [] readings
laid_start base readings = record { passed = []; counted = refl; lines = refl; labelled = refl; none_before = λ n lt. absurd (omega arith); ends = refl }

-- after a line without a fault
pub laid_next : (base : ℕ) (readings : List Reading) (number address : ℕ) (labels : List (List ℕ × ℕ)) (reading : Reading) (later : List Reading) → IsLaidTo base readings number address labels (reading ∷ later) → fault_read base address labels reading ≡ None → IsLaidTo base readings (number + 1) (address + size_read address reading) (labels ++ labels_of (placed_at address reading ∷ [])) later
laid_next base readings number address labels reading later is none =
    let line : Placed = placed_at address reading in
    let rest : List Placed = placed (address + size_read address reading) later in
    let here : layout_fault base (placed base readings) (length is.passed) ≡ None =
    fault_is base (placed base readings) is.passed line rest is.lines ∙ ap (λ known. fault_read base address known reading) (sym is.labelled) ∙ none in
    record {
      passed = is.passed ++ line ∷ [];
      counted = omega (arith, is.counted, length-append is.passed (line ∷ []));
      lines = is.lines ∙ sym (append_assoc is.passed (line ∷ []) rest);
      labelled = ap (λ known. known ++ labels_of (line ∷ [])) is.labelled ∙ sym (filter_map-append (λ (one : Placed). label_read one.address one.reading) is.passed (line ∷ []));
      none_before = none_more (layout_fault base (placed base readings)) (length is.passed) (length (is.passed ++ line ∷ [])) (length-append is.passed (line ∷ [])) is.none_before here;
      ends = is.ends;
    }

-- a line with a fault is the first one
pub laid_fault : (base : ℕ) (readings : List Reading) (number address : ℕ) (labels : List (List ℕ × ℕ)) (reading : Reading) (later : List Reading) (reason : AsmWhy) → IsLaidTo base readings number address labels (reading ∷ later) → fault_read base address labels reading ≡ Some reason → IsFirstFault (layout_fault base (placed base readings)) number reason
laid_fault base readings number address labels reading later reason is holds = record {
  before = length is.passed;
  counted = is.counted;
  has =
      fault_is base (placed base readings) is.passed (placed_at address reading) (placed (address + size_read address reading) later) is.lines
      ∙ ap (λ known. fault_read base address known reading) (sym is.labelled)
      ∙ holds;
  none_before = is.none_before;
}

-- after a line that can be read, where the call of the pass came to this
pub laid_on : (base : ℕ) (readings : List Reading) (number address : ℕ) (labels : List (List ℕ × ℕ)) (reading : Reading) (later : List Reading) (said : Line) (next : ℕ) (more : List (List ℕ × ℕ)) → IsLaidTo base readings number address labels (reading ∷ later) → Ok said ≡ reading → fault_at base address labels said ≡ None → next ≡ address + size_of address said.item → more ≡ labels ++ labels_of (placed_at address (Ok said) ∷ []) → IsLaidTo base readings (number + 1) next more later
laid_on base readings number address labels reading later said next more is same none size all =
    let said_is : IsLaidTo base readings number address labels (Ok said ∷ later) = subst (λ one. IsLaidTo base readings number address labels (one ∷ later)) (sym same) is in
    let after : IsLaidTo base readings (number + 1) (address + size_of address said.item) (labels ++ labels_of (placed_at address (Ok said) ∷ [])) later = laid_next base readings number address labels (Ok said) later said_is none in
    subst (λ known. IsLaidTo base readings (number + 1) next known later) (sym all)
    (subst (λ at. IsLaidTo base readings (number + 1) at (labels ++ labels_of (placed_at address (Ok said) ∷ [])) later) (sym size) after)

-- after all lines
all_passed : (base : ℕ) (readings : List Reading) (number address : ℕ) (labels : List (List ℕ × ℕ)) → (is : IsLaidTo base readings number address labels []) → placed base readings ≡ is.passed
all_passed base readings number address labels is = is.lines ∙ append-nil is.passed

pub laid_labels : (base : ℕ) (readings : List Reading) (number address : ℕ) (labels : List (List ℕ × ℕ)) → IsLaidTo base readings number address labels [] → labels ≡ labels_of (placed base readings)
laid_labels base readings number address labels is = is.labelled ∙ ap labels_of (sym (all_passed base readings number address labels is))

pub laid_sound : (base : ℕ) (readings : List Reading) (number address : ℕ) (labels : List (List ℕ × ℕ)) → IsLaidTo base readings number address labels [] → HasNoFault (layout_fault base (placed base readings))
laid_sound base readings number address labels is =
    none_at_all (layout_fault base (placed base readings)) (length is.passed) is.none_before
    (λ n past. no_fault_past base (placed base readings) n (omega (arith, ap length (all_passed base readings number address labels is), past)))
