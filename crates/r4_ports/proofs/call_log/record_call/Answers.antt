use Rattle.r4_ports.proofs.Appending.{calls_within_after, calls_at_after}
use Rattle.r4_ports.proofs.call_log.record_call.Goals as goal

pub returns-clause-calls : goal.returns-clause-calls
returns-clause-calls c =
    rw (c.in-Ok.ensures.items, c.append_text-name.ensures.span, c.append_text-name.ensures.items, c.as_bytes.ensures.value)
    (calls_at_after c.args.buffer.now.items c.args.name.now c.args.kind c.args.records.now.items c.requires.within)

pub returns-clause-within : goal.returns-clause-within
returns-clause-within c =
    rw (c.in-Ok.ensures.items, c.append_text-name.ensures.span, c.append_text-name.ensures.items, c.as_bytes.ensures.value)
    (calls_within_after c.args.buffer.now.items c.args.name.now c.args.kind c.args.records.now.items c.requires.within)
