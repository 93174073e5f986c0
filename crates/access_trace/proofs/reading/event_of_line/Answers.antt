use Rattle.access_trace.proofs.ReadBack.{read_by_fields, read_without_fields}
use Rattle.access_trace.proofs.reading.event_of_line.Goals as goal

pub returns-in-Some : goal.returns-in-Some
returns-in-Some c = read_by_fields c.args.line.now c.in-Some.fields c.event_of.result c.in-Some.ensures.some c.event_of.ensures.grammar c.event_of.ensures.some c.event_of.ensures.back

pub returns-in-None : goal.returns-in-None
returns-in-None c = read_without_fields c.args.line.now c.in-None.ensures.none
