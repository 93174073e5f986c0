-- What a text says, by its first bad line.
use Rattle.std.proofs.Common.{◌≡◌, ◌+◌, ◌<◌, ◌≤◌, ℕ, zero, suc, List, [], ◌∷◌, Option, Some, None, length, take, slice_get, refl, ap, sym, ◌∙◌, arith, add-zero, zero-add}
use Rattle.std.specs.List.{filter_map, range_with_len}
use Rattle.std.proofs.lemmas.Option.{option_and_then_some, slice_get_within}
use Rattle.input_script.specs.declared.inputs.Input.{Input}
use Rattle.input_script.specs.declared.faults.ScriptWhy.{ScriptWhy}
use Rattle.input_script.specs.Grammar.{Reading, Inputs, Bad, HasNoBadLine, IsFirstBad, bad_lines, fault_after, fault_of, inputs_of, numbered_fault, readings_of, script_text, text_by}

-- THE FIRST OF A RANGE

-- numbers of a range that give nothing
range_none : {X : Type 0} (f : ℕ → Option X) (from count : ℕ) → ((n : ℕ) → from ≤ n → f n ≡ None) → filter_map f (range_with_len from count) ≡ []
range_none f from zero none = refl
range_none f from (suc count) none = rw (none from (omega arith)) (range_none f (from + 1) count (λ n le. none n (omega arith)))

-- the first number of a range that gives something
range_first : {X : Type 0} (f : ℕ → Option X) (from before count : ℕ) (one : X) → before < count → f (from + before) ≡ Some one → ((n : ℕ) → from ≤ n → n < from + before → f n ≡ None) → slice_get (filter_map f (range_with_len from count)) 0 ≡ Some one
range_first f from before zero one lt has none = absurd (omega arith)
range_first f from zero (suc count) one lt has none = rw (rw add-zero at has) refl
range_first f from (suc before) (suc count) one lt has none =
    let same : from + suc before ≡ from + 1 + before = omega arith in
    rw (none from (omega arith) (omega arith)) (range_first f (from + 1) before count one (omega arith) (rw same at has) (λ n le less. none n (omega arith) (omega arith)))

-- THE TEXT

-- a line that is bad is one of the lines
bad_within : (readings : List Reading) (n : ℕ) (reason : ScriptWhy) → fault_of readings n ≡ Some reason → n < length readings
unfolding fault_of
bad_within readings n reason is = option_and_then_some (fault_after (take n readings)) (slice_get readings n) reason is (λ x has holds. slice_get_within readings n x has)

numbered_none : (readings : List Reading) (n : ℕ) → fault_of readings n ≡ None → numbered_fault readings n ≡ None
numbered_none readings n none = rw none refl

no_bad_lines : (readings : List Reading) → ((n : ℕ) → fault_of readings n ≡ None) → bad_lines readings ≡ []
no_bad_lines readings none = range_none (numbered_fault readings) 0 (length readings) (λ n le. numbered_none readings n (none n))

by_first : (readings : List Reading) (bad : List (ℕ × ScriptWhy)) (number : ℕ) (reason : ScriptWhy) → slice_get bad 0 ≡ Some (number, reason) → text_by readings bad ≡ Bad number reason
by_first readings [] number reason is = absurd (cc)
by_first readings (first ∷ later) number reason is = ap (λ (one : ℕ × ScriptWhy). Bad one.0 one.1) (some_same is)
  where
    some_same : {X : Type 0} {x y : X} → Some x ≡ Some y → x ≡ y
    some_same e = cc

numbered_first : (readings : List Reading) (number : ℕ) (reason : ScriptWhy) → (is : IsFirstBad readings number reason) → numbered_fault readings is.before ≡ Some (number, reason)
numbered_first readings number reason is = rw (is.has, is.counted) refl

-- a text of which no line is bad
pub text_without_fault : (text : List ℕ) (inputs : List Input) → HasNoBadLine text → inputs ≡ inputs_of (readings_of text) → script_text text ≡ Inputs inputs
unfolding script_text
text_without_fault text inputs none is = ap (text_by (readings_of text)) (no_bad_lines (readings_of text) none) ∙ ap Inputs (sym is)

-- a text with a bad line
pub text_with_fault : (text : List ℕ) (number : ℕ) (reason : ScriptWhy) → IsFirstBad (readings_of text) number reason → script_text text ≡ Bad number reason
unfolding script_text
text_with_fault text number reason is =
    let readings = readings_of text in
    by_first readings (bad_lines readings) number reason
    (range_first (numbered_fault readings) 0 is.before (length readings) (number, reason) (bad_within readings is.before reason is.has)
    (rw zero-add (numbered_first readings number reason is))
    (λ n le lt. numbered_none readings n (is.none_before n (omega arith))))
