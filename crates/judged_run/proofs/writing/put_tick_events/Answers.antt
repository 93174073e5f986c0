use Rattle.std.proofs.Common.{◌∙◌, ◌++◌, ap, sym}
use Rattle.access_trace.specs.Traces.{events_text}
use Rattle.machine_core.specs.TickEvents.{listed, beat_of_log, event_of_log}
use Rattle.r4_ports.proofs.Writing.{writes_then, writes_same}
use Rattle.judged_run.proofs.JudgedParts.{events_by_parts}
use Rattle.judged_run.proofs.EventTexts.{text_of_three}
use Rattle.judged_run.proofs.writing.put_tick_events.Goals as goal

pub returns : goal.returns
returns g c =
    let x = listed c.beat_of_log.result in
    let y = listed c.event_of_log.result in
    let z = listed c.event_of_log-2.result in
    record {
      writes =
          writes_same _ _ _ _
          (writes_then _ _ _ _ _ c.put_if-3.ensures.writes (writes_then _ _ _ _ _ c.put_if-2.ensures.writes c.put_if.ensures.writes))
          (sym (text_of_three x y z)
          ∙ ap (λ b. events_text (listed b ++ y ++ z)) c.beat_of_log.ensures.event
          ∙ ap (λ f. events_text (listed (beat_of_log c.args.tick c.beat.result) ++ listed f ++ z)) c.event_of_log.ensures.event
          ∙ ap (λ a. events_text (listed (beat_of_log c.args.tick c.beat.result) ++ listed (event_of_log c.args.tick c.shows_fetch-shown.result c.fetch.result) ++ listed a)) c.event_of_log-2.ensures.event
          ∙ ap events_text (events_by_parts c.args.tick c.args.span c.args.log.now c.beat.result c.shows_fetch-shown.result c.fetch.result c.access.result c.beat.ensures.beat c.shows_fetch-shown.ensures c.fetch.ensures.fetch c.access.ensures.access));
    }
