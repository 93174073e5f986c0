-- The lines of events, one after another.
use Rattle.std.proofs.Common.{◌≡◌, List, [], ◌∷◌, ◌++◌}
use Rattle.std.proofs.lemmas.List.Concat.{flat_map-append}
use Rattle.access_trace.specs.Texts.{line_of}
use Rattle.access_trace.specs.Traces.{newline, events_text}
use Rattle.access_trace.specs.declared.event.Event.{Event}

-- the lines of some events, and those of the events that follow
pub events_text_then : (first then : List Event) → events_text (first ++ then) ≡ events_text first ++ events_text then
events_text_then first then = flat_map-append (λ event. line_of event ++ newline ∷ []) first then
