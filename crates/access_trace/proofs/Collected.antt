-- The events of a trace, collected line by line, and what the lines are.
use Rattle.std.proofs.Common.{◌≡◌, ◌==◌, ◌≢◌, ◌≤◌, ◌+◌, ℕ, Bool, true, false, List, [], ◌∷◌, ◌++◌, map, length, All, refl, ap, sym, ◌∙◌, subst, arith, append_assoc, append-nil, Option, Some, None, Result, Ok, Err, IfSome, IfNone, if◌then◌else◌, cond, bytes_eq}
use Rattle.std.specs.List.{onto_first}
use Rattle.std.proofs.lemmas.List.Elements.{All-nil, All-cons}
use Rattle.std.proofs.lemmas.Slice.Eq.{bytes_eq-Decides}
use Rattle.access_trace.specs.Pieces.{pieces}
use Rattle.access_trace.specs.Grammar.{IsEvent}
use Rattle.access_trace.specs.Texts.{line_of, read_line, IsLineOf}
use Rattle.access_trace.specs.Traces.{newline, lines_of_parts, lines_of, end_line, with_event, at_line, events_from, AreEventsOf, IsBad, IsFirstBad}
use Rattle.access_trace.proofs.ReadBack.{read_line_some, read_line_none}
use Rattle.access_trace.specs.declared.event.Event.{Event}

-- events before those that are not read yet
abbrev pub with_events : List Event → Result (List Event) ℕ → Result (List Event) ℕ
with_events events (Ok later) = Ok (events ++ later)
with_events events (Err line) = Err line

pub with_events_none : (left : Result (List Event) ℕ) → with_events [] left ≡ left
with_events_none (Ok later) = refl
with_events_none (Err line) = refl

pub with_events_more : (events : List Event) (event : Event) (left : Result (List Event) ℕ) → with_events events (with_event event left) ≡ with_events (events ++ event ∷ []) left
with_events_more events event (Ok later) = ap (λ all. Ok all) (sym (append_assoc events (event ∷ []) later))
with_events_more events event (Err line) = refl

pub with_events_all : (events : List Event) → with_events events (Ok []) ≡ Ok events
with_events_all events = ap (λ all. Ok all) (append-nil events)

-- a trace whose last event is read
pub with_events_end : (events : List Event) (left : Result (List Event) ℕ) → left ≡ Ok [] → with_events events left ≡ Ok events
with_events_end events left is = ap (with_events events) is ∙ with_events_all events

-- a trace of which the next event is read
pub with_events_next : (events : List Event) (event : Event) (left later : Result (List Event) ℕ) → left ≡ with_event event later → with_events events left ≡ with_events (events ++ event ∷ []) later
with_events_next events event left later is = ap (with_events events) is ∙ with_events_more events event later

-- a trace with a bad line next
pub with_events_bad : (events : List Event) (left : Result (List Event) ℕ) (line : ℕ) → left ≡ Err line → with_events events left ≡ Err line
with_events_bad events left line is = ap (with_events events) is

-- HOW MANY LINES

onto_first_lines : (code : ℕ) (parts : List (List ℕ)) → length (lines_of_parts (onto_first code parts)) ≤ 1 + length (lines_of_parts parts)
onto_first_lines code [] = omega arith
onto_first_lines code (part ∷ []) = omega arith
onto_first_lines code (part ∷ next ∷ parts) = omega arith

newline_first : (parts : List (List ℕ)) → length (lines_of_parts ([] ∷ parts)) ≤ 1 + length (lines_of_parts parts)
newline_first [] = omega arith
newline_first (part ∷ parts) = omega arith

-- a text has no more lines than bytes
pub length_lines_of : (text : List ℕ) → length (lines_of text) ≤ length text
length_lines_of [] = omega arith
length_lines_of (code ∷ text) = by_code (code == newline) (length_lines_of text)
  where
    by_code : (b : Bool) → length (lines_of text) ≤ length text → length (lines_of_parts (cond b ([] ∷ pieces newline text) (onto_first code (pieces newline text)))) ≤ length (code ∷ text)
    by_code true later = omega (arith, newline_first (pieces newline text))
    by_code false later = omega (arith, onto_first_lines code (pieces newline text))

-- WHAT THE LINES ARE

-- one event more
more_events : (line : List ℕ) (lines : List (List ℕ)) (event : Event) (events : List Event) → IsLineOf event line → AreEventsOf lines events → AreEventsOf (line ∷ lines) (event ∷ events)
more_events line lines event events is are = record {
  grammar = All-cons IsEvent event events is.grammar are.grammar;
  rest = are.rest;
  split = ap (λ first. first ∷ lines) is.text ∙ ap (λ later. line_of event ∷ later) are.split;
}

first_event : (line : List ℕ) (lines : List (List ℕ)) (event : Event) (later : Result (List Event) ℕ) (events : List Event) → IsLineOf event line →
    ((es : List Event) → later ≡ Ok es → AreEventsOf lines es) → with_event event later ≡ Ok events → AreEventsOf (line ∷ lines) events
first_event line lines event (Ok es) events is hyp all =
    let same : event ∷ es ≡ events = cc in
    subst (λ list. AreEventsOf (line ∷ lines) list) same (more_events line lines event es is (hyp es refl))
first_event line lines event (Err number) events is hyp all = absurd (cc)

at_first_line : (number : ℕ) (line : List ℕ) (lines : List (List ℕ)) (b : Bool) (read : Option Event) (later : Result (List Event) ℕ) (events : List Event) → bytes_eq line end_line ≡ b → IfSome read (λ event. IsLineOf event line) →
    ((es : List Event) → later ≡ Ok es → AreEventsOf lines es) → (if b then Ok [] else at_line number read later) ≡ Ok events → AreEventsOf (line ∷ lines) events
at_first_line number line lines true read later events is some hyp all =
    let same : [] ≡ events = cc in
    subst (λ list. AreEventsOf (line ∷ lines) list) same (record { grammar = All-nil IsEvent; rest = lines; split = ap (λ first. first ∷ lines) ((bytes_eq-Decides line end_line).0 is) })
at_first_line number line lines false None later events is some hyp all = absurd (cc)
at_first_line number line lines false (Some event) later events is some hyp all = first_event line lines event later events some hyp all

-- the events that are read are those of the lines before `end`
pub events_are : (number : ℕ) (lines : List (List ℕ)) (events : List Event) → events_from number lines ≡ Ok events → AreEventsOf lines events
events_are number [] events all = absurd (cc)
events_are number (line ∷ lines) events all =
    at_first_line number line lines (bytes_eq line end_line) (read_line line) (events_from (number + 1) lines) events refl (read_line_some line) (λ es is. events_are (number + 1) lines es is) all

-- the line of this number is the first bad one, where the first line has another number
record IsFirstBadFrom (number : ℕ) (lines : List (List ℕ)) (bad : ℕ) : Type 0 where
  events : List Event
  rest : List (List ℕ)
  split : lines ≡ map line_of events ++ rest
  grammar : All IsEvent events
  counted : bad ≡ length events + number
  wrong : IsBad rest

bad_later : (number : ℕ) (line : List ℕ) (lines : List (List ℕ)) (event : Event) (bad : ℕ) → IsLineOf event line → IsFirstBadFrom (number + 1) lines bad → IsFirstBadFrom number (line ∷ lines) bad
bad_later number line lines event bad is first = record {
  events = event ∷ first.events;
  rest = first.rest;
  split = ap (λ text. text ∷ lines) is.text ∙ ap (λ later. line_of event ∷ later) first.split;
  grammar = All-cons IsEvent event first.events is.grammar first.grammar;
  counted = let count : bad ≡ length first.events + (number + 1) = first.counted in omega arith;
  wrong = first.wrong;
}

bad_behind : (number : ℕ) (line : List ℕ) (lines : List (List ℕ)) (event : Event) (later : Result (List Event) ℕ) (bad : ℕ) → IsLineOf event line →
    ((b : ℕ) → later ≡ Err b → IsFirstBadFrom (number + 1) lines b) → with_event event later ≡ Err bad → IsFirstBadFrom number (line ∷ lines) bad
bad_behind number line lines event (Ok es) bad is hyp all = absurd (cc)
bad_behind number line lines event (Err b) bad is hyp all =
    let same : b ≡ bad = cc in
    bad_later number line lines event bad is (subst (λ n. IsFirstBadFrom (number + 1) lines n) same (hyp b refl))

differs : (line : List ℕ) → bytes_eq line end_line ≡ false → line ≢ end_line
differs line is same = let equal : bytes_eq line end_line ≡ true = (bytes_eq-Decides line end_line).1 same in cc

bad_at_first : (number : ℕ) (line : List ℕ) (lines : List (List ℕ)) (b : Bool) (read : Option Event) (later : Result (List Event) ℕ) (bad : ℕ) → bytes_eq line end_line ≡ b →
    IfSome read (λ event. IsLineOf event line) → IfNone read ((event : Event) → ¬ IsLineOf event line) →
    ((n : ℕ) → later ≡ Err n → IsFirstBadFrom (number + 1) lines n) → (if b then Ok [] else at_line number read later) ≡ Err bad → IsFirstBadFrom number (line ∷ lines) bad
bad_at_first number line lines true read later bad is some none hyp all = absurd (cc)
bad_at_first number line lines false None later bad is some none hyp all =
    let same : number ≡ bad = cc in
    record { events = []; rest = line ∷ lines; split = refl; grammar = All-nil IsEvent; counted = omega arith; wrong = (differs line is, none) }
bad_at_first number line lines false (Some event) later bad is some none hyp all = bad_behind number line lines event later bad some hyp all

bad_from : (number : ℕ) (lines : List (List ℕ)) (bad : ℕ) → events_from number lines ≡ Err bad → IsFirstBadFrom number lines bad
bad_from number [] bad all =
    let same : number ≡ bad = cc in
    record { events = []; rest = []; split = refl; grammar = All-nil IsEvent; counted = omega arith; wrong = tt }
bad_from number (line ∷ lines) bad all =
    bad_at_first number line lines (bytes_eq line end_line) (read_line line) (events_from (number + 1) lines) bad refl (read_line_some line) (read_line_none line) (λ n is. bad_from (number + 1) lines n is) all

-- the bad line of a trace is the first one
pub first_bad : (lines : List (List ℕ)) (bad : ℕ) → events_from 1 lines ≡ Err bad → IsFirstBad lines bad
first_bad lines bad all =
    let first = bad_from 1 lines bad all in
    record { events = first.events; rest = first.rest; split = first.split; grammar = first.grammar; counted = first.counted; wrong = first.wrong }
