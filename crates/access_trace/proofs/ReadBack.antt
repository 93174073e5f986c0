-- What was written of an event is read as that event, and only what is written of an event is read.
use Rattle.std.proofs.Common.{◌≡◌, ◌≢◌, ◌==◌, ◌<◌, ◌^◌, ℕ, Bool, true, false, ◌&&◌, not, List, length, refl, ap, sym, ◌∙◌, arith, Option, Some, None, IfSome, IfNone, nat_lt, nat_le, if◌then◌else◌, codes, bytes_eq, option_and_then}
use Rattle.std.specs.List.{join_with_byte}
use Rattle.std.proofs.lemmas.Bool.{eqb-true, ltb-true, leb-true}
use Rattle.std.proofs.lemmas.List.Splits.{join_with_byte-slice_split}
use Rattle.std.proofs.lemmas.Slice.Eq.{bytes_eq-Decides}
use Rattle.r4_words.proofs.ReadBack.{number_of_dec, number_of_hex}
use Rattle.access_trace.specs.Pieces.{pieces}
use Rattle.access_trace.specs.Grammar.{is_beat, is_event, has_fields, fits_its_fields, IsEvent}
use Rattle.access_trace.specs.Texts.{blank, letter_of, attribute_of, quiet_of, fields_of, line_of, kind_of, event_of, if_written, read_line, IsLineOf}
use Rattle.access_trace.proofs.Visible.{split_line_of}
use Rattle.access_trace.specs.Fields.{texts_of, AreFieldsOf}
use Rattle.access_trace.specs.declared.fields.Fields.{Fields}
use Rattle.access_trace.specs.declared.event.EventKind.{EventKind}
use Rattle.access_trace.specs.declared.event.EventKind.TheVariants.{Fetch, Load, Store, BeatIn, BeatOut, Cache}
use Rattle.access_trace.specs.declared.event.Event.{Event}

both : (a b : Bool) → (a && b) ≡ true → (a ≡ true) × (b ≡ true)
both true true e = (refl, refl)
both true false e = absurd (cc)
both false b e = absurd (cc)

-- The fields of an event name it

kind_back : (kind : EventKind) → kind_of (letter_of kind) ≡ kind
kind_back Fetch = refl
kind_back Load = refl
kind_back Store = refl
kind_back BeatIn = refl
kind_back BeatOut = refl
kind_back Cache = refl

attribute_back : (beat mark : Bool) → (beat ≡ true → mark ≡ false) → bytes_eq (if beat then codes "-" else if mark then codes "c" else codes "u") (codes "c") ≡ mark
attribute_back true mark none = sym (none refl)
attribute_back false true none = refl
attribute_back false false none = refl

quiet_back : (beat mark : Bool) → (beat ≡ true → mark ≡ false) → bytes_eq (if beat then codes "-" else if mark then codes "q" else codes "n") (codes "q") ≡ mark
quiet_back true mark none = sym (none refl)
quiet_back false true none = refl
quiet_back false false none = refl

not_set : (b : Bool) → not b ≡ true → b ≡ false
not_set true is = absurd (cc)
not_set false is = refl

-- a beat has neither an attribute nor a quiet state
record HasNoMarks (event : Event) : Type 0 where
  cached : event.cached ≡ false
  quiet : event.quiet ≡ false

no_marks : (event : Event) (more : Bool) → (not event.cached && (not event.quiet && more)) ≡ true → HasNoMarks event
no_marks event more is =
    let first = both (not event.cached) (not event.quiet && more) is in
    record { cached = not_set event.cached first.0; quiet = not_set event.quiet (both (not event.quiet) more first.1).0 }

beat_has_no_marks : (kind : EventKind) (event : Event) → has_fields kind event ≡ true → is_beat kind ≡ true → HasNoMarks event
beat_has_no_marks Fetch event is beat = absurd (cc)
beat_has_no_marks Load event is beat = absurd (cc)
beat_has_no_marks Store event is beat = absurd (cc)
beat_has_no_marks BeatIn event is beat = no_marks event _ is
beat_has_no_marks BeatOut event is beat = no_marks event _ is
beat_has_no_marks Cache event is beat = absurd (cc)

-- the numbers of an event of the grammar have the widths of their fields
pub record Widths (event : Event) : Type 0 where
  pub tick : event.tick < 2 ^ 32
  pub va : event.va < 2 ^ 32
  pub pa : event.pa < 2 ^ 36
  pub value : event.value < 2 ^ 64

widths : (event : Event) → fits_its_fields event ≡ true → Widths event
widths event is =
    let tick = both (nat_lt event.tick (2 ^ 32)) (nat_lt event.va (2 ^ 32) && (nat_lt event.pa (2 ^ 36) && nat_lt event.value (2 ^ 64))) is in
    let va = both (nat_lt event.va (2 ^ 32)) (nat_lt event.pa (2 ^ 36) && nat_lt event.value (2 ^ 64)) tick.1 in
    let pa = both (nat_lt event.pa (2 ^ 36)) (nat_lt event.value (2 ^ 64)) va.1 in
    record { tick = ltb-true event.tick _ tick.0; va = ltb-true event.va _ va.0; pa = ltb-true event.pa _ pa.0; value = ltb-true event.value _ pa.1 }

beat_size : (event : Event) → (not event.cached && (not event.quiet && ((event.va == 0) && ((event.size == 32) && (event.value == 0))))) ≡ true → event.size < 256
beat_size event is =
    let second = both (not event.cached) _ is in
    let third = both (not event.quiet) _ second.1 in
    let fourth = both (event.va == 0) _ third.1 in
    let fifth = both (event.size == 32) _ fourth.1 in
    omega (arith, eqb-true event.size 32 fifth.0)

size_width : (kind : EventKind) (event : Event) → has_fields kind event ≡ true → event.size < 256
size_width Fetch event is = omega (arith, eqb-true event.size 4 is)
size_width Load event is = let parts = both (nat_le 1 event.size) (nat_le event.size 8) is in omega (arith, leb-true event.size 8 parts.1)
size_width Store event is = let parts = both (nat_le 1 event.size) (nat_le event.size 8) is in omega (arith, leb-true event.size 8 parts.1)
size_width BeatIn event is = beat_size event is
size_width BeatOut event is = beat_size event is
size_width Cache event is = let parts = both (nat_lt event.size 32) (nat_lt event.value (2 ^ 32)) is in omega (arith, ltb-true event.size 32 parts.0)

-- the parts of the grammar that say what the numbers of an event are
record Grammar (event : Event) : Type 0 where
  widths : Widths event
  own : has_fields event.kind event ≡ true

grammar_of : (event : Event) → IsEvent event → Grammar event
grammar_of event grammar =
    let first = both (fits_its_fields event) _ grammar.is in
    let second = both (has_fields event.kind event) _ first.1 in
    record { widths = widths event first.0; own = second.0 }

pub widths_of : (event : Event) → IsEvent event → Widths event
widths_of event grammar = (grammar_of event grammar).widths

pub size_of : (event : Event) → IsEvent event → event.size < 256
size_of event grammar = size_width event.kind event (grammar_of event grammar).own

-- the attribute is a c exactly where the event is cached
pub attribute_is : (event : Event) → IsEvent event → bytes_eq (attribute_of event) (codes "c") ≡ event.cached
attribute_is event grammar = attribute_back (is_beat event.kind) event.cached (λ beat. (beat_has_no_marks event.kind event (grammar_of event grammar).own beat).cached)

-- the mark is a q exactly where the state was quiet
pub quiet_is : (event : Event) → IsEvent event → bytes_eq (quiet_of event) (codes "q") ≡ event.quiet
quiet_is event grammar = quiet_back (is_beat event.kind) event.quiet (λ beat. (beat_has_no_marks event.kind event (grammar_of event grammar).own beat).quiet)

event_back : (event : Event) → IsEvent event → event_of (fields_of event) ≡ Some event
event_back event grammar =
    let wide = widths_of event grammar in
    rw (number_of_dec event.tick, kind_back event.kind, attribute_is event grammar, quiet_is event grammar, number_of_hex 8 event.va wide.va, number_of_hex 9 event.pa wide.pa, number_of_dec event.size, number_of_hex 16 event.value wide.value) refl

-- what is written of an event of the grammar is read as that event
pub read_line_of : (event : Event) → IsEvent event → read_line (line_of event) ≡ Some event
unfolding read_line
read_line_of event grammar =
    let same : bytes_eq (line_of event) (line_of event) ≡ true = (bytes_eq-Decides (line_of event) (line_of event)).1 refl in
    ap (λ fields. option_and_then (if_written (line_of event)) (event_of fields)) (split_line_of event)
    ∙ ap (λ named. option_and_then (if_written (line_of event)) named) (event_back event grammar)
    ∙ rw (grammar.is, same) refl

written_cases : (line : List ℕ) (event : Event) (b : Bool) → (is_event event && bytes_eq line (line_of event)) ≡ b → IfSome (if b then Some event else None) (λ event. IsLineOf event line)
written_cases line event true is =
    let parts = both (is_event event) (bytes_eq line (line_of event)) is in
    record { grammar = record { is = parts.0 }; text = (bytes_eq-Decides line (line_of event)).0 parts.1 }
written_cases line event false is = tt

named_cases : (line : List ℕ) (named : Option Event) → IfSome (option_and_then (if_written line) named) (λ event. IsLineOf event line)
named_cases line None = tt
named_cases line (Some event) = written_cases line event (is_event event && bytes_eq line (line_of event)) refl

-- only what is written of an event of the grammar is read as that event
pub read_line_some : (line : List ℕ) → IfSome (read_line line) (λ event. IsLineOf event line)
unfolding read_line
read_line_some line = named_cases line (event_of (pieces blank line))

-- the event of a line is the one of which it is written
pub read_line_is : (event : Event) (line : List ℕ) → IsLineOf event line → read_line line ≡ Some event
read_line_is event line is = ap read_line is.text ∙ read_line_of event is.grammar

none_read : (line : List ℕ) (r : Option Event) → read_line line ≡ r → IfNone r ((event : Event) → ¬ IsLineOf event line)
none_read line None is = λ event written. let back = read_line_is event line written in cc
none_read line (Some event) is = tt

-- what is not read is the line of no event of the grammar
pub read_line_none : (line : List ℕ) → IfNone (read_line line) ((event : Event) → ¬ IsLineOf event line)
read_line_none line = none_read line (read_line line) refl

by_none : (line : List ℕ) (r : Option Event) → read_line line ≡ r → IfSome r (λ event. IsLineOf event line) → ((event : Event) → IsLineOf event line → None ≡ Some event) → None ≡ r
by_none line None is some back = refl
by_none line (Some event) is some back = back event some

-- A reader that gives an event only of its line, and gives each event of its line, reads as the definition does.
pub read_line_by : (line : List ℕ) (r : Option Event) → IfSome r (λ event. IsLineOf event line) → ((event : Event) → IsLineOf event line → r ≡ Some event) → r ≡ read_line line
read_line_by line (Some event) some back = sym (read_line_is event line some)
read_line_by line None some back = by_none line (read_line line) refl (read_line_some line) back

-- A line and its fields

-- a line whose fields are those of an event is the line of that event
line_of_fields : (line : List ℕ) (fields : Fields) (event : Event) → pieces blank line ≡ texts_of fields → AreFieldsOf event fields → line ≡ line_of event
line_of_fields line fields event parts are =
    let numbers = are.numbers in
    let same : texts_of fields ≡ fields_of event = rw (numbers.tick, numbers.kind, are.attribute, are.quiet, numbers.va, numbers.pa, numbers.size, numbers.value) refl in
    sym (join_with_byte-slice_split 32 line) ∙ ap (join_with_byte 32) (parts ∙ same)

-- the fields of the line of an event are those of that event
fields_of_its_line : (line : List ℕ) (fields : Fields) (event : Event) → pieces blank line ≡ texts_of fields → line ≡ line_of event → AreFieldsOf event fields
fields_of_its_line line fields event parts is =
    let same : texts_of fields ≡ fields_of event = sym parts ∙ ap (pieces blank) is ∙ split_line_of event in
    record { numbers = record { tick = cc; kind = cc; va = cc; pa = cc; size = cc; value = cc }; attribute = cc; quiet = cc }

-- What is found by a line's fields is what the definition reads.
pub read_by_fields : (line : List ℕ) (fields : Fields) (r : Option Event) → pieces blank line ≡ texts_of fields → IfSome r (λ event. IsEvent event) → IfSome r (λ event. AreFieldsOf event fields) →
    ((event : Event) → IsEvent event → AreFieldsOf event fields → r ≡ Some event) → r ≡ read_line line
read_by_fields line fields (Some event) parts grammar are back =
    read_line_by line (Some event) (record { grammar = grammar; text = line_of_fields line fields event parts are }) (λ other written. back other written.grammar (fields_of_its_line line fields other parts written.text))
read_by_fields line fields None parts grammar are back =
    read_line_by line None tt (λ other written. back other written.grammar (fields_of_its_line line fields other parts written.text))

-- a line that has not eight fields is of no event
pub read_without_fields : (line : List ℕ) → length (pieces blank line) ≢ 8 → None ≡ read_line line
read_without_fields line none = read_line_by line None tt (λ event written. absurd (none (ap (λ text. length (pieces blank text)) written.text ∙ ap length (split_line_of event))))
