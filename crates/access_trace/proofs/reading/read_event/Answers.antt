use Rattle.std.proofs.Common.{IfSome, IfNone, sym, subst, ◌∙◌}
use Rattle.access_trace.specs.Texts.{IsLineOf}
use Rattle.access_trace.specs.declared.event.Event.{Event}
use Rattle.access_trace.proofs.ReadBack.{read_line_some, read_line_none, read_line_is}
use Rattle.access_trace.proofs.reading.read_event.Goals as goal

pub returns-clause-some : goal.returns-clause-some
returns-clause-some c = subst (λ r. IfSome r (λ event. IsLineOf event c.args.line.now)) (sym c.event_of_line.ensures) (read_line_some c.args.line.now)

pub returns-clause-none : goal.returns-clause-none
returns-clause-none c = subst (λ r. IfNone r ((event : Event) → ¬ IsLineOf event c.args.line.now)) (sym c.event_of_line.ensures) (read_line_none c.args.line.now)

pub returns-clause-read_back : goal.returns-clause-read_back
returns-clause-read_back c = λ event is. c.event_of_line.ensures ∙ read_line_is event c.args.line.now is
