-- The trace of a text that is written of events.
use Rattle.std.proofs.Common.{◌≡◌, ◌≢◌, ◌+◌, ℕ, Bool, true, false, List, [], ◌∷◌, ◌++◌, length, All, refl, ap, sym, ◌∙◌, arith, append_assoc, Ok, bytes_eq}
use Rattle.std.proofs.lemmas.List.Elements.{All-head, All-tail}
use Rattle.std.proofs.lemmas.Slice.Eq.{bytes_eq-Decides}
use Rattle.access_trace.specs.Pieces.{pieces}
use Rattle.access_trace.specs.Grammar.{IsEvent}
use Rattle.access_trace.specs.Texts.{blank, fields_of, line_of}
use Rattle.access_trace.specs.Traces.{lines_of, end_line, with_event, events_from, trace_of, events_text, trace_text}
use Rattle.access_trace.proofs.FirstLine.{lines_of_more}
use Rattle.access_trace.proofs.Visible.{split_line_of, split_behind_line}
use Rattle.access_trace.proofs.ReadBack.{read_line_of}
use Rattle.access_trace.specs.declared.event.Event.{Event}

-- the line of an event, which has eight fields, is not the line `end`, which has one
line_is_not_end : (event : Event) → line_of event ≢ end_line
line_is_not_end event same =
    let fields : pieces blank end_line ≡ fields_of event = ap (pieces blank) (sym same) ∙ split_line_of event in
    let count : length (pieces blank end_line) ≡ length (fields_of event) = ap length fields in
    omega arith

not_end : (event : Event) (b : Bool) → bytes_eq (line_of event) end_line ≡ b → b ≡ false
not_end event true is = absurd (line_is_not_end event ((bytes_eq-Decides (line_of event) end_line).0 is))
not_end event false is = refl

-- an event's line, before lines of events
event_first : (number : ℕ) (event : Event) (rest : List ℕ) → IsEvent event → events_from number (lines_of (line_of event ++ 10 ∷ rest)) ≡ with_event event (events_from (number + 1) (lines_of rest))
event_first number event rest grammar =
    ap (events_from number) (lines_of_more (line_of event ++ 10 ∷ rest) (line_of event) rest (split_behind_line event rest))
    ∙ rw (not_end event (bytes_eq (line_of event) end_line) refl, read_line_of event grammar) refl

-- the line `end`, before whatever follows it
end_first : (number : ℕ) (rest : List ℕ) → events_from number (lines_of ((end_line ++ 10 ∷ []) ++ rest)) ≡ Ok []
end_first number rest = ap (events_from number) (lines_of_more (end_line ++ 10 ∷ rest) end_line rest refl)

texts_from : (number : ℕ) (events : List Event) (rest : List ℕ) → All IsEvent events → events_from number (lines_of (events_text events ++ ((end_line ++ 10 ∷ []) ++ rest))) ≡ Ok events
texts_from number [] rest grammar = end_first number rest
texts_from number (event ∷ events) rest grammar =
    let behind = events_text events ++ ((end_line ++ 10 ∷ []) ++ rest) in
    ap (λ text. events_from number (lines_of text)) (append_assoc (line_of event ++ 10 ∷ []) (events_text events) ((end_line ++ 10 ∷ []) ++ rest) ∙ append_assoc (line_of event) (10 ∷ []) behind)
    ∙ event_first number event behind (All-head IsEvent event events grammar)
    ∙ ap (with_event event) (texts_from (number + 1) events rest (All-tail IsEvent event events grammar))

-- The trace of the text that is written of events of the grammar are these events, whatever follows the text.
pub trace_of_text : (events : List Event) (rest : List ℕ) → All IsEvent events → trace_of (trace_text events ++ rest) ≡ Ok events
trace_of_text events rest grammar = ap trace_of (append_assoc (events_text events) (end_line ++ 10 ∷ []) rest) ∙ texts_from 1 events rest grammar
