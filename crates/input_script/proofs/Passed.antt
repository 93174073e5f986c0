-- The lines of a text, one after another: what is known of those that the reading has passed.
use Rattle.std.proofs.Common.{◌≡◌, ◌+◌, ◌<◌, ◌≤◌, ℕ, Bool, true, false, ◌||◌, nat_lt, if◌then◌else◌, List, [], ◌∷◌, ◌++◌, Option, Some, None, length, take, map, slice_get, refl, ap, sym, ◌∙◌, arith, append_assoc, append-nil, length-append, inl, inr, subst, Bor, MatchOption, IfSome}
use Rattle.std.specs.List.{list_any}
use Rattle.std.specs.Option.{option_and_then}
use Rattle.std.proofs.Math.Seq.{take-append_seam}
use Rattle.std.proofs.lemmas.Bool.{cases_lt}
use Rattle.std.proofs.lemmas.List.Elements.{filter_map-append}
use Rattle.std.proofs.lemmas.List.Folds.{list_any-append}
use Rattle.std.proofs.lemmas.Option.{slice_get_past}
use Rattle.std.proofs.lemmas.Grind.{common_steps, flat_map-append}
use Rattle.input_script.specs.declared.inputs.Input.{Input}
use Rattle.input_script.specs.declared.faults.ScriptWhy.{ScriptWhy}
use Rattle.input_script.specs.declared.faults.ScriptWhy.TheVariants as why
use Rattle.input_script.specs.Inputs.{AreUpTo, keys_of}
use Rattle.input_script.specs.Grammar.{lines_of, read_line, readings_of, Reading, Skipped, Says, Refused, tick_in, ticks_of, fault_after, fault_of, IsFirstBad, inputs_in, inputs_of}
use Rattle.input_script.specs.Shown.{fault_by, latest_after}

-- the reading stands before these later lines, and has passed so many; none of them is bad, these are their inputs, and a
-- tick is below one of theirs exactly where it is below the latest
pub record IsReadTo (readings : List Reading) (passed : ℕ) (inputs : List Input) (latest : ℕ) (later : List Reading) : Type 0 where
  pub before : List Reading
  pub counted : passed ≡ length before
  pub lines : readings ≡ before ++ later
  pub given : inputs ≡ inputs_of before
  pub none_before : (n : ℕ) → n < length before → fault_of readings n ≡ None
  pub order : (tick : ℕ) → list_any (λ earlier. nat_lt tick earlier) (ticks_of before) ≡ nat_lt tick latest

get_after : {X : Type 0} (front : List X) (one : X) (rest : List X) → slice_get (front ++ one ∷ rest) (length front) ≡ Some one
get_after [] one rest = refl
get_after (first ∷ front) one rest = get_after front one rest

-- the fault of a line, by the lines before it
fault_is : (readings before : List Reading) (reading : Reading) (later : List Reading) → readings ≡ before ++ reading ∷ later → fault_of readings (length before) ≡ fault_after before reading
unfolding fault_of
fault_is readings before reading later is =
    ap (λ all. option_and_then (fault_after (take (length before) all)) (slice_get all (length before))) is
    ∙ ap (option_and_then (fault_after (take (length before) (before ++ reading ∷ later)))) (get_after before reading later)
    ∙ ap (λ front. fault_after front reading) (take-append_seam before (reading ∷ later))

no_fault_past : (readings : List Reading) (n : ℕ) → length readings ≤ n → fault_of readings n ≡ None
unfolding fault_of
no_fault_past readings n past = ap (option_and_then (fault_after (take n readings))) (slice_get_past readings n past)

-- before all lines
pub read_start : (readings : List Reading) → IsReadTo readings 0 [] 0 readings
read_start readings = record { before = []; counted = refl; lines = refl; given = refl; none_before = λ n lt. absurd (omega arith); order = λ tick. grind (arith, common_steps) }

-- after a line that is not bad
read_next : (readings : List Reading) (passed : ℕ) (inputs : List Input) (latest next : ℕ) (reading : Reading) (later : List Reading) → (is : IsReadTo readings passed inputs latest (reading ∷ later)) → fault_after is.before reading ≡ None → ((tick : ℕ) → (nat_lt tick latest || list_any (λ earlier. nat_lt tick earlier) (ticks_of (reading ∷ []))) ≡ nat_lt tick next) → IsReadTo readings (passed + 1) (inputs ++ inputs_in reading) next later
read_next readings passed inputs latest next reading later is none order =
    let here : fault_of readings (length is.before) ≡ None = fault_is readings is.before reading later is.lines ∙ none in
    record {
      before = is.before ++ reading ∷ [];
      counted = omega (arith, is.counted, length-append is.before (reading ∷ []));
      lines = is.lines ∙ sym (append_assoc is.before (reading ∷ []) later);
      given = ap (λ front. front ++ inputs_in reading) is.given ∙ sym (flat_map-append inputs_in is.before (reading ∷ []) ∙ ap (λ last. inputs_of is.before ++ last) (append-nil (inputs_in reading)));
      none_before = λ n lt. elim (cases_lt n (length is.before)) [
        | inl less ↦ is.none_before n less
        | inr past ↦ (let same : n ≡ length is.before = omega (arith, length-append is.before (reading ∷ [])) in ap (fault_of readings) same ∙ here)
      ];
      order = λ tick.
          ap (list_any (λ earlier. nat_lt tick earlier)) (filter_map-append tick_in is.before (reading ∷ []))
          ∙ list_any-append (λ earlier. nat_lt tick earlier) (ticks_of is.before) (ticks_of (reading ∷ []))
          ∙ ap (λ first. first || list_any (λ earlier. nat_lt tick earlier) (ticks_of (reading ∷ []))) (is.order tick)
          ∙ order tick;
    }

or_false : (b : Bool) → (b || false) ≡ b
or_false true = refl
or_false false = refl

-- the fault by the latest tick is the fault by all ticks
fault_by_all : (before : List Reading) (latest : ℕ) (reading : Reading) → ((tick : ℕ) → list_any (λ earlier. nat_lt tick earlier) (ticks_of before) ≡ nat_lt tick latest) → fault_after before reading ≡ fault_by latest reading
fault_by_all before latest Skipped order = refl
fault_by_all before latest (Says tick whats) order = ap (λ b. if b then Some why.Order else None) (order tick)
fault_by_all before latest (Refused reason) order = refl

below_one : (tick latest next : ℕ) → latest ≤ next → (nat_lt tick latest || (nat_lt tick next || false)) ≡ nat_lt tick next
below_one tick latest next le = grind (arith, common_steps)

not_below : (tick latest : ℕ) (reason : ScriptWhy) → (if nat_lt tick latest then Some reason else None) ≡ None → latest ≤ tick
not_below tick latest reason none = grind (arith, common_steps)

-- a tick is below one of the lines, or of one line more
below_more : (latest : ℕ) (reading : Reading) → fault_by latest reading ≡ None → (tick : ℕ) → (nat_lt tick latest || list_any (λ earlier. nat_lt tick earlier) (ticks_of (reading ∷ []))) ≡ nat_lt tick (latest_after latest reading)
below_more latest Skipped none tick = or_false (nat_lt tick latest)
below_more latest (Says next whats) none tick = below_one tick latest next (not_below next latest why.Order none)
below_more latest (Refused reason) none tick = or_false (nat_lt tick latest)

-- after a line that is not bad
pub read_on : (readings : List Reading) (passed : ℕ) (inputs : List Input) (latest : ℕ) (reading : Reading) (later : List Reading) (more : List Input) (next : ℕ) → IsReadTo readings passed inputs latest (reading ∷ later) → fault_by latest reading ≡ None → more ≡ inputs ++ inputs_in reading → next ≡ latest_after latest reading → IsReadTo readings (passed + 1) more next later
read_on readings passed inputs latest reading later more next is none put last =
    let after : IsReadTo readings (passed + 1) (inputs ++ inputs_in reading) (latest_after latest reading) later =
    read_next readings passed inputs latest (latest_after latest reading) reading later is (fault_by_all is.before latest reading is.order ∙ none) (below_more latest reading none) in
    rw (put, last) after

-- a line that is bad is the first one
pub first_bad : (readings : List Reading) (passed : ℕ) (inputs : List Input) (latest : ℕ) (reading : Reading) (later : List Reading) (reason : ScriptWhy) → IsReadTo readings passed inputs latest (reading ∷ later) → fault_by latest reading ≡ Some reason → IsFirstBad readings (passed + 1) reason
first_bad readings passed inputs latest reading later reason is has = record {
  before = length is.before;
  counted = omega (arith, is.counted);
  has = fault_is readings is.before reading later is.lines ∙ fault_by_all is.before latest reading is.order ∙ has;
  none_before = is.none_before;
}

-- after all lines
pub read_all : (readings : List Reading) (passed : ℕ) (inputs : List Input) (latest : ℕ) → (is : IsReadTo readings passed inputs latest []) → inputs ≡ inputs_of readings
read_all readings passed inputs latest is = is.given ∙ ap inputs_of (sym (is.lines ∙ append-nil is.before))

pub none_at_all : (readings : List Reading) (passed : ℕ) (inputs : List Input) (latest : ℕ) → (is : IsReadTo readings passed inputs latest []) → (n : ℕ) → fault_of readings n ≡ None
none_at_all readings passed inputs latest is n = elim (cases_lt n (length is.before)) [
  | inl less ↦ is.none_before n less
  | inr past ↦ no_fault_past readings n (omega (arith, ap length (is.lines ∙ append-nil is.before)))
]

-- THE REST OF A TEXT

-- the lines of what follows a line, if something does
abbrev pub later_in : Option (Bor (List ℕ)) → List Reading
later_in None = []
later_in (Some rest) = readings_of rest.now

-- what follows is short enough for the lines and the keys to be counted
abbrev pub HasRoom : ℕ → List Input → Option (Bor (List ℕ)) → Type 0
HasRoom passed inputs None = Unit {0}
HasRoom passed inputs (Some rest) = (passed + length rest.now ≤ 4294967294) × (keys_of inputs + length rest.now ≤ 4294967294)

-- how much there is to read
abbrev pub left_in : Option (Bor (List ℕ)) → ℕ
left_in None = 0
left_in (Some rest) = length rest.now + 1

-- the reading of a text stands before this rest
pub record IsBefore (text : List ℕ) (passed : ℕ) (inputs : List Input) (latest : ℕ) (rest : Option (Bor (List ℕ))) : Type 0 where
  pub read : IsReadTo (readings_of text) passed inputs latest (later_in rest)
  pub order : AreUpTo latest inputs
  pub room : HasRoom passed inputs rest

-- the first line of a rest, and what follows it
pub later_more : (text part : List ℕ) (rest : Option (Bor (List ℕ))) → MatchOption rest (lines_of text ≡ part ∷ []) (λ more. lines_of text ≡ part ∷ lines_of more.now) → readings_of text ≡ read_line part ∷ later_in rest
later_more text part None is = ap (map read_line) is
later_more text part (Some more) is = ap (map read_line) is

-- the reading stands before the first line of the rest
pub before_line : (text : List ℕ) (passed : ℕ) (inputs : List Input) (latest : ℕ) (rest : Option (Bor (List ℕ))) (here : Bor (List ℕ)) (part : List ℕ) (more : Option (Bor (List ℕ))) → IsBefore text passed inputs latest rest → rest ≡ Some here → MatchOption more (lines_of here.now ≡ part ∷ []) (λ next. lines_of here.now ≡ part ∷ lines_of next.now) → IsReadTo (readings_of text) passed inputs latest (read_line part ∷ later_in more)
before_line text passed inputs latest rest here part more is at cut =
    subst (IsReadTo (readings_of text) passed inputs latest) (ap later_in at ∙ later_more here.now part more cut) is.read

-- there is room for the rest after a line
pub room_more : (passed : ℕ) (inputs new : List Input) (here : Bor (List ℕ)) (part : List ℕ) (more : Option (Bor (List ℕ))) → HasRoom passed inputs (Some here) → keys_of new ≤ keys_of inputs + length part → IfSome more (λ next. length part + length next.now < length here.now) → HasRoom (passed + 1) new more
room_more passed inputs new here part None is keys shorter = tt
room_more passed inputs new here part (Some next) is keys shorter = (omega (arith, is, shorter), omega (arith, is, keys, shorter))

-- the reading goes on after a line that is not bad
pub before_more : (text : List ℕ) (passed : ℕ) (inputs : List Input) (latest : ℕ) (rest : Option (Bor (List ℕ))) (here : Bor (List ℕ)) (part : List ℕ) (more : Option (Bor (List ℕ))) (new : List Input) (next : ℕ) → (is : IsBefore text passed inputs latest rest) → rest ≡ Some here → MatchOption more (lines_of here.now ≡ part ∷ []) (λ next. lines_of here.now ≡ part ∷ lines_of next.now) → IfSome more (λ next. length part + length next.now < length here.now) → fault_by latest (read_line part) ≡ None → next ≡ latest_after latest (read_line part) → new ≡ inputs ++ inputs_in (read_line part) → AreUpTo next new → keys_of new ≤ keys_of inputs + length part → IsBefore text (passed + 1) new next more
before_more text passed inputs latest rest here part more new next is at cut shorter good last put order room = record {
  read = read_on (readings_of text) passed inputs latest (read_line part) (later_in more) new next (before_line text passed inputs latest rest here part more is at cut) good put last;
  order = order;
  room = room_more passed inputs new here part more (subst (HasRoom passed inputs) at is.room) room shorter;
}

-- the reading has passed all lines
pub before_none : (text : List ℕ) (passed : ℕ) (inputs : List Input) (latest : ℕ) (rest : Option (Bor (List ℕ))) → IsBefore text passed inputs latest rest → rest ≡ None → IsReadTo (readings_of text) passed inputs latest []
before_none text passed inputs latest rest is end = subst (IsReadTo (readings_of text) passed inputs latest) (ap later_in end) is.read
