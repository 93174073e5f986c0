-- The verdict on a list and on its parts: it is taken further event by event, a No stays, and it names the first event that breaks
-- a rule.
use Rattle.std.proofs.Common.{◌≡◌, ◌+◌, List, [], ◌∷◌, ◌++◌, Option, Some, None, refl, sym, ap, ◌∙◌}
use Rattle.std.specs.List.{fold}
use Rattle.std.proofs.lemmas.List.Sums.{fold-append}
use Rattle.access_trace.specs.declared.event.Event.{Event}
use Rattle.r4_shape.specs.Numbers.{Numbers}
use Rattle.trace_check.specs.declared.found.Found.{Found}
use Rattle.trace_check.specs.Verdicts.{Standing, start, held, held_by, standing_of, verdict_of, verdict_by}

-- one event more
pub standing_of-more : (shape : Numbers) (events : List Event) (event : Event) → standing_of shape (events ++ event ∷ []) ≡ held (standing_of shape events) event
standing_of-more shape events event = fold-append held (start shape) events (event ∷ [])

-- a list after another
pub standing_of-append : (shape : Numbers) (events more : List Event) → standing_of shape (events ++ more) ≡ fold held (standing_of shape events) more
standing_of-append shape events more = fold-append held (start shape) events more

-- what was found stays
pub found_stays : (more : List Event) (standing : Standing) (found : Found) → standing.first ≡ Some found → (fold held standing more).first ≡ Some found
found_stays [] standing found e = e
found_stays (event ∷ more) standing found e = found_stays more (held standing event) found (ap (λ (first : Option Found). (held_by first standing event).first) e ∙ e)

-- so a No stays
pub no_stays : (shape : Numbers) (events more : List Event) (found : Found) → (standing_of shape events).first ≡ Some found → verdict_of shape (events ++ more) ≡ verdict_of shape events
no_stays shape events more found e =
    ap (λ (standing : Standing). verdict_by standing.first) (standing_of-append shape events more)
    ∙ ap verdict_by (found_stays more (standing_of shape events) found e ∙ sym e)

-- the events are counted, also after a No
held_counts : (first : Option Found) (standing : Standing) (event : Event) → (held_by first standing event).events ≡ standing.events + 1
held_counts None standing event = refl
held_counts (Some found) standing event = refl
