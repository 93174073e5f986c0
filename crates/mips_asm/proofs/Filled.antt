-- The second pass, a line at a time: what is known of the lines that it has passed.
use Rattle.std.proofs.Common.{◌≡◌, ◌+◌, ◌<◌, ◌≤◌, ℕ, List, [], ◌∷◌, ◌++◌, None, length, slice_get, refl, ap, sym, ◌∙◌, arith, append_assoc, append-nil, length-append, subst}
use Rattle.std.specs.Option.{option_and_then}
use Rattle.std.proofs.lemmas.Grind.{flat_map-append}
use Rattle.std.proofs.lemmas.Option.{slice_get_past}
use Rattle.mips_text.specs.declared.reason.AsmWhy.{AsmWhy}
use Rattle.mips_text.specs.Line.{Reading}
use Rattle.mips_text.specs.Coded.{Coded, Given, Lacking}
use Rattle.mips_asm.specs.Layout.{Placed, placed_at, placed, size_read}
use Rattle.mips_asm.specs.Assembly.{coded_line, bytes_given, reason_lacking, bytes_of_lines, coding_fault, HasNoFault, IsFirstFault}
use Rattle.mips_asm.specs.Shown.{IsAppended}
use Rattle.mips_asm.specs.PassesOf.{address_after}
use Rattle.mips_asm.proofs.Sizes.{line_given}
use Rattle.mips_asm.proofs.Faults.{get_after, none_more, none_at_all}

-- the pass stands before these later lines, the first of which has this number; the lines before them have these bytes,
-- and no fault
pub record IsFilledTo (base : ℕ) (labels : List (List ℕ × ℕ)) (readings : List Reading) (number : ℕ) (bytes : List ℕ) (later : List Reading) : Type 0 where
  pub passed : List Placed
  pub counted : number ≡ length passed + 1
  pub lines : placed base readings ≡ passed ++ placed (base + length bytes) later
  pub filled : bytes ≡ bytes_of_lines labels passed
  pub none_before : (n : ℕ) → n < length passed → coding_fault labels (placed base readings) n ≡ None
  pub ends : address_after (base + length bytes) later ≡ address_after base readings

-- the fault of a line
fault_is : (labels : List (List ℕ × ℕ)) (lines front : List Placed) (line : Placed) (rest : List Placed) → lines ≡ front ++ line ∷ rest → coding_fault labels lines (length front) ≡ reason_lacking (coded_line labels line)
unfolding coding_fault
fault_is labels lines front line rest is =
    ap (λ all. option_and_then (λ one. reason_lacking (coded_line labels one)) (slice_get all (length front))) is
    ∙ ap (option_and_then (λ one. reason_lacking (coded_line labels one))) (get_after front line rest)

no_fault_past : (labels : List (List ℕ × ℕ)) (lines : List Placed) (n : ℕ) → length lines ≤ n → coding_fault labels lines n ≡ None
unfolding coding_fault
no_fault_past labels lines n past = ap (option_and_then (λ one. reason_lacking (coded_line labels one))) (slice_get_past lines n past)

-- before all lines
pub filled_start : (base : ℕ) (labels : List (List ℕ × ℕ)) (readings : List Reading) → IsFilledTo base labels readings 1 [] readings
filled_start base labels readings =
    let start : base + 0 ≡ base = omega arith in
    record {
      passed = [];
      counted = refl;
      lines = ap (λ at. placed at readings) (sym start);
      filled = refl;
      none_before = λ n lt. absurd (omega arith);
      ends = ap (λ at. address_after at readings) start;
    }

-- after a line that has bytes
pub filled_next : (base : ℕ) (labels : List (List ℕ × ℕ)) (readings : List Reading) (number : ℕ) (bytes : List ℕ) (reading : Reading) (later : List Reading) (more : List ℕ) → IsFilledTo base labels readings number bytes (reading ∷ later) → coded_line labels (placed_at (base + length bytes) reading) ≡ Given more → IsFilledTo base labels readings (number + 1) (bytes ++ more) later
filled_next base labels readings number bytes reading later more is given =
    let at : ℕ = base + length bytes in
    let line : Placed = placed_at at reading in
    let next : at + size_read at reading ≡ base + length (bytes ++ more) = omega (arith, line_given labels at reading more given, length-append bytes more) in
    let here : coding_fault labels (placed base readings) (length is.passed) ≡ None =
    fault_is labels (placed base readings) is.passed line (placed (at + size_read at reading) later) is.lines ∙ ap reason_lacking given in
    record {
      passed = is.passed ++ line ∷ [];
      counted = omega (arith, is.counted, length-append is.passed (line ∷ []));
      lines =
          is.lines
          ∙ sym (append_assoc is.passed (line ∷ []) (placed (at + size_read at reading) later))
          ∙ ap (λ address. (is.passed ++ line ∷ []) ++ placed address later) next;
      filled =
          ap (λ front. front ++ more) is.filled
          ∙ ap (λ coded. bytes_of_lines labels is.passed ++ bytes_given coded) (sym given)
          ∙ ap (λ last. bytes_of_lines labels is.passed ++ last) (sym (append-nil (bytes_given (coded_line labels line))))
          ∙ sym (flat_map-append (λ one. bytes_given (coded_line labels one)) is.passed (line ∷ []));
      none_before = none_more (coding_fault labels (placed base readings)) (length is.passed) (length (is.passed ++ line ∷ [])) (length-append is.passed (line ∷ [])) is.none_before here;
      ends = ap (λ address. address_after address later) (sym next) ∙ is.ends;
    }

-- after a line, where the call of the pass came to these bytes
pub filled_on : (base : ℕ) (labels : List (List ℕ × ℕ)) (readings : List Reading) (number : ℕ) (bytes : List ℕ) (reading : Reading) (later : List Reading) (all : List ℕ) → IsFilledTo base labels readings number bytes (reading ∷ later) → IsAppended (coded_line labels (placed_at (base + length bytes) reading)) bytes all → IsFilledTo base labels readings (number + 1) all later
filled_on base labels readings number bytes reading later all is appended = by_coded (coded_line labels (placed_at (base + length bytes) reading)) refl appended
  where
    by_coded : (coded : Coded) → coded_line labels (placed_at (base + length bytes) reading) ≡ coded → IsAppended coded bytes all → IsFilledTo base labels readings (number + 1) all later
    by_coded (Given more) given same = subst (λ new. IsFilledTo base labels readings (number + 1) new later) (sym same) (filled_next base labels readings number bytes reading later more is given)
    by_coded (Lacking reason) lacking none = absurd none

-- a line that has none is the first one
pub filled_fault : (base : ℕ) (labels : List (List ℕ × ℕ)) (readings : List Reading) (number : ℕ) (bytes : List ℕ) (reading : Reading) (later : List Reading) (reason : AsmWhy) → IsFilledTo base labels readings number bytes (reading ∷ later) → coded_line labels (placed_at (base + length bytes) reading) ≡ Lacking reason → IsFirstFault (coding_fault labels (placed base readings)) number reason
filled_fault base labels readings number bytes reading later reason is lacking =
    let at : ℕ = base + length bytes in
    record {
      before = length is.passed;
      counted = is.counted;
      has = fault_is labels (placed base readings) is.passed (placed_at at reading) (placed (at + size_read at reading) later) is.lines ∙ ap reason_lacking lacking;
      none_before = is.none_before;
    }

-- after all lines
all_passed : (base : ℕ) (labels : List (List ℕ × ℕ)) (readings : List Reading) (number : ℕ) (bytes : List ℕ) → (is : IsFilledTo base labels readings number bytes []) → placed base readings ≡ is.passed
all_passed base labels readings number bytes is = is.lines ∙ append-nil is.passed

pub filled_bytes : (base : ℕ) (labels : List (List ℕ × ℕ)) (readings : List Reading) (number : ℕ) (bytes : List ℕ) → IsFilledTo base labels readings number bytes [] → bytes ≡ bytes_of_lines labels (placed base readings)
filled_bytes base labels readings number bytes is = is.filled ∙ ap (bytes_of_lines labels) (sym (all_passed base labels readings number bytes is))

pub filled_sound : (base : ℕ) (labels : List (List ℕ × ℕ)) (readings : List Reading) (number : ℕ) (bytes : List ℕ) → IsFilledTo base labels readings number bytes [] → HasNoFault (coding_fault labels (placed base readings))
filled_sound base labels readings number bytes is =
    none_at_all (coding_fault labels (placed base readings)) (length is.passed) is.none_before
    (λ n past. no_fault_past labels (placed base readings) n (omega (arith, ap length (all_passed base labels readings number bytes is), past)))
