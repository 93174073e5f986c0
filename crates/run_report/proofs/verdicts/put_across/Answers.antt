use Rattle.std.proofs.Common.{◌∙◌, ◌++◌, [], ◌∷◌, ap}
use Rattle.r4_ports.proofs.Writing.{writes_same}
use Rattle.access_trace.specs.Texts.{line_of}
use Rattle.access_trace.specs.Traces.{newline}
use Rattle.run_report.specs.Verdict.{event_line}
use Rattle.run_report.proofs.verdicts.put_across.Goals as goal

pub returns : goal.returns
unfolding event_line
returns g c =
    record { writes = writes_same _ _ _ _ c.write_line.ensures (c.append_event.ensures.text ∙ ap (λ before. before ++ (line_of c.args.event.now ++ newline ∷ [])) c.new-line.ensures) }
