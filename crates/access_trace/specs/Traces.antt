-- The trace of a text: the events of its lines before the line `end`, or the first line that is outside the grammar.
-- Source: this project's own format of traces.
use Rattle.std.specs.Prelude.{ℕ, ◌≡◌, ◌≢◌, ◌+◌, if◌then◌else◌, List, [], ◌∷◌, ◌++◌, map, length, All, Option, Some, None, Result, Ok, Err, codes, bytes_eq}
use Rattle.std.specs.List.{flat_map}
use Rattle.access_trace.specs.Pieces.{pieces}
use Rattle.access_trace.specs.Grammar.{IsEvent}
use Rattle.access_trace.specs.Texts.{line_of, read_line, IsLineOf}
use Rattle.access_trace.specs.declared.event.Event.{Event}

-- a newline ends a line
abbrev pub newline : ℕ
newline = 10

-- behind the last newline stands a line, or nothing
abbrev pub last_line : List ℕ → List (List ℕ)
last_line [] = []
last_line (code ∷ text) = (code ∷ text) ∷ []

-- the lines of what stands between newlines
abbrev pub lines_of_parts : List (List ℕ) → List (List ℕ)
lines_of_parts [] = []
lines_of_parts (part ∷ []) = last_line part
lines_of_parts (part ∷ next ∷ parts) = part ∷ lines_of_parts (next ∷ parts)

-- the lines of a text, each without the newline that ends it; the last may have none
abbrev pub lines_of : List ℕ → List (List ℕ)
lines_of text = lines_of_parts (pieces newline text)

-- the line behind which nothing is read
abbrev pub end_line : List ℕ
end_line = codes "end"

-- an event before the events that follow it, or the bad line among those
abbrev pub with_event : Event → Result (List Event) ℕ → Result (List Event) ℕ
with_event event (Ok events) = Ok (event ∷ events)
with_event event (Err line) = Err line

-- what a line of this number gives, which may be an event's, before what the later lines give
abbrev pub at_line : ℕ → Option Event → Result (List Event) ℕ → Result (List Event) ℕ
at_line number None later = Err number
at_line number (Some event) later = with_event event later

-- The events of these lines before the line `end`, or the number of the first line that is no event's; where no line is
-- `end`, the number behind that of the last line. The first of these lines has this number.
abbrev pub events_from : ℕ → List (List ℕ) → Result (List Event) ℕ
events_from number [] = Err number
events_from number (line ∷ lines) =
    if bytes_eq line end_line then Ok [] else at_line number (read_line line) (events_from (number + 1) lines)

-- the trace of a text, whose lines are numbered from 1
abbrev pub trace_of : List ℕ → Result (List Event) ℕ
trace_of text = events_from 1 (lines_of text)

-- these are the events of the lines before the first line `end`
pub record AreEventsOf (lines : List (List ℕ)) (events : List Event) : Type 0 where
  pub grammar : All IsEvent events
  pub rest : List (List ℕ)
  pub split : lines ≡ map line_of events ++ end_line ∷ rest

-- the first of these lines is missing, or neither `end` nor the line of an event of the grammar
abbrev pub IsBad : List (List ℕ) → Type 0
IsBad [] = Unit {0}
IsBad (line ∷ lines) = (line ≢ end_line) × ((event : Event) → ¬ IsLineOf event line)

-- Numbered from 1, the line of this number is the first bad one of these: the lines before it are those of events.
pub record IsFirstBad (lines : List (List ℕ)) (number : ℕ) : Type 0 where
  pub events : List Event
  pub rest : List (List ℕ)
  pub split : lines ≡ map line_of events ++ rest
  pub grammar : All IsEvent events
  pub counted : number ≡ length events + 1
  pub wrong : IsBad rest

-- what of a trace is not read yet: the lines, and the number of the first of them
pub record Unread : Type 0 where
  pub line : ℕ
  pub lines : List (List ℕ)

-- the events that are not read yet
abbrev pub events_left : Unread → Result (List Event) ℕ
events_left unread = events_from unread.line unread.lines

-- the lines of events, each with the newline that ends it
abbrev pub events_text : List Event → List ℕ
events_text events = flat_map (λ event. line_of event ++ newline ∷ []) events

-- the text of a trace: the lines of its events, and the line `end`
abbrev pub trace_text : List Event → List ℕ
trace_text events = events_text events ++ (end_line ++ newline ∷ [])
