-- The text of an event, and the event of a text. Writing (line_of) and reading (read_line) are defined apart, and are
-- each other's inverse: a line is read as an event exactly where it is what is written of that event.
-- Source: this project's own format of traces, TICK KIND ATT QUIET VA PA SIZE VALUE.
use Rattle.std.specs.Prelude.{ℕ, ◌≡◌, ◌&&◌, if◌then◌else◌, List, [], ◌∷◌, Option, Some, None, option_and_then, codes, bytes_eq}
use Rattle.std.specs.List.{join_with_byte}
use Rattle.r4_words.specs.Texts.{dec_of, hex_of, number_of}
use Rattle.access_trace.specs.Pieces.{pieces}
use Rattle.access_trace.specs.Grammar.{is_beat, is_event, IsEvent}
use Rattle.access_trace.specs.declared.event.EventKind.{EventKind}
use Rattle.access_trace.specs.declared.event.EventKind.TheVariants.{Fetch, Load, Store, BeatIn, BeatOut, Cache}
use Rattle.access_trace.specs.declared.event.Event.{Event}

-- a blank stands between two fields
abbrev pub blank : ℕ
blank = 32

-- the letter of a kind
abbrev pub letter_of : EventKind → List ℕ
letter_of Fetch = codes "F"
letter_of Load = codes "L"
letter_of Store = codes "S"
letter_of BeatIn = codes "I"
letter_of BeatOut = codes "O"
letter_of Cache = codes "C"

-- the attribute: c for cached, u for uncached, and none of a beat
abbrev pub attribute_of : Event → List ℕ
attribute_of event = if is_beat event.kind then codes "-" else if event.cached then codes "c" else codes "u"

-- whether the state was quiet: q for quiet, n for not quiet, and none of a beat
abbrev pub quiet_of : Event → List ℕ
quiet_of event = if is_beat event.kind then codes "-" else if event.quiet then codes "q" else codes "n"

-- the eight fields of an event's line
abbrev pub fields_of : Event → List (List ℕ)
fields_of event =
    dec_of event.tick ∷ letter_of event.kind ∷ attribute_of event ∷ quiet_of event
    ∷ hex_of 8 event.va ∷ hex_of 9 event.pa ∷ dec_of event.size ∷ hex_of 16 event.value ∷ []

-- the line of an event: its fields, with single blanks between
abbrev pub line_of : Event → List ℕ
line_of event = join_with_byte blank (fields_of event)

-- the kind of a letter; the last arm is read for every other text too, and no line has that text for a kind
abbrev pub kind_of : List ℕ → EventKind
kind_of text =
    if bytes_eq text (codes "F") then Fetch
    else if bytes_eq text (codes "L") then Load
    else if bytes_eq text (codes "S") then Store
    else if bytes_eq text (codes "I") then BeatIn
    else if bytes_eq text (codes "O") then BeatOut
    else Cache

-- the event that eight fields name; these may still be other texts than those of that event
abbrev pub event_of : List (List ℕ) → Option Event
event_of (tick ∷ kind ∷ attribute ∷ quiet ∷ va ∷ pa ∷ size ∷ value ∷ []) = Some (record {
  tick = number_of 10 tick;
  kind = kind_of kind;
  cached = bytes_eq attribute (codes "c");
  quiet = bytes_eq quiet (codes "q");
  va = number_of 16 va;
  pa = number_of 16 pa;
  size = number_of 10 size;
  value = number_of 16 value;
})
event_of fields = None

-- an event of the grammar, where a line is the one that is written of it
abbrev pub if_written : List ℕ → Event → Option Event
if_written line event = if is_event event && bytes_eq line (line_of event) then Some event else None

-- The event of a line: the event of the grammar of which this line is written. None where there is none.
unfoldable pub read_line : List ℕ → Option Event
read_line line = option_and_then (if_written line) (event_of (pieces blank line))

-- an event of the grammar, and a line that is what is written of it
pub record IsLineOf (event : Event) (line : List ℕ) : Type 0 where
  pub grammar : IsEvent event
  pub text : line ≡ line_of event
