use Rattle.std.proofs.Common.{ap, ◌∙◌, sym}
use Rattle.access_trace.specs.Traces.{events_text}
use Rattle.machine_core.specs.TickEvents.{listed}
use Rattle.r4_ports.proofs.Writing.{writes_nothing, writes_same}
use Rattle.judged_run.proofs.EventTexts.{text_of_one}
use Rattle.judged_run.proofs.writing.put_if.Goals as goal

pub returns-in-Some : goal.returns-in-Some
returns-in-Some g c =
    record { writes = writes_same _ _ _ _ c.put_event.ensures.writes (sym (text_of_one c.in-Some.event) ∙ ap (λ event. events_text (listed event)) (sym c.in-Some.is)) }

pub returns-in_default : goal.returns-in_default
returns-in_default g c = record { writes = writes_same _ _ _ _ (writes_nothing _) (ap (λ event. events_text (listed event)) (sym c.in_default.is)) }
