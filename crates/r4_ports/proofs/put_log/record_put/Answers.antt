use Rattle.r4_ports.proofs.Appending.{puts_within_after, puts_at_after}
use Rattle.r4_ports.proofs.put_log.record_put.Goals as goal

pub returns-clause-puts : goal.returns-clause-puts
returns-clause-puts c =
    rw (c.in-Ok.ensures.items, c.append_text-bytes.ensures.span, c.append_text-bytes.ensures.items, c.append_text-name.ensures.span, c.append_text-name.ensures.items, c.as_bytes.ensures.value)
    (puts_at_after c.args.buffer.now.items c.args.name.now c.args.bytes.now c.args.records.now.items c.requires.within)

pub returns-clause-within : goal.returns-clause-within
returns-clause-within c =
    rw (c.in-Ok.ensures.items, c.append_text-bytes.ensures.span, c.append_text-bytes.ensures.items, c.append_text-name.ensures.span, c.append_text-name.ensures.items, c.as_bytes.ensures.value)
    (puts_within_after c.args.buffer.now.items c.args.name.now c.args.bytes.now c.args.records.now.items c.requires.within)
