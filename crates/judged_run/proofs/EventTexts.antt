-- The text of a tick's events, by its parts.
use Rattle.std.proofs.Common.{◌≡◌, ◌∙◌, List, [], ◌∷◌, ◌++◌, append-nil, ap}
use Rattle.access_trace.specs.declared.event.Event.{Event}
use Rattle.access_trace.specs.Texts.{line_of}
use Rattle.access_trace.specs.Traces.{newline, events_text}
use Rattle.run_report.specs.Verdict.{event_line}
use Rattle.run_report.proofs.EventLines.{events_text_then}

-- one event
pub text_of_one : (event : Event) → events_text (event ∷ []) ≡ event_line event
unfolding event_line
text_of_one event = append-nil (line_of event ++ newline ∷ [])

-- three lists, one after the other
pub text_of_three : (x y z : List Event) → events_text (x ++ y ++ z) ≡ events_text x ++ events_text y ++ events_text z
text_of_three x y z = events_text_then (x ++ y) z ∙ ap (λ text. text ++ events_text z) (events_text_then x y)
