use Rattle.std.proofs.Common.{refl, length}
use Rattle.std.proofs.lemmas.Option.{slice_get-map, slice_get_read, slice_get_past}
use Rattle.r4_ports.specs.CallLog.{call_at}
use Rattle.r4_ports.proofs.Appending.{call_within}
use Rattle.r4_ports.proofs.call_log.call_in.Goals as goal

pub text_at-requires : goal.text_at-requires
text_at-requires c =
    let lookup = c.in-Some.ensures.lookup in
    let calls = c.args.records.now in
    call_within _ calls c.args.number c.in-Some.call.now c.requires (slice_get_read calls (length calls) c.args.number c.in-Some.call.now refl lookup.3.0 lookup.1)

pub returns-in-Some : goal.returns-in-Some
returns-in-Some c =
    let lookup = c.in-Some.ensures.lookup in
    let calls = c.args.records.now in
    rw (c.text_at.ensures, slice_get-map (call_at c.args.buffer.now) calls c.args.number, slice_get_read calls (length calls) c.args.number c.in-Some.call.now refl lookup.3.0 lookup.1) refl

pub returns-in-None : goal.returns-in-None
returns-in-None c =
    let lookup = c.in-None.ensures.lookup in
    let calls = c.args.records.now in
    rw (slice_get-map (call_at c.args.buffer.now) calls c.args.number, slice_get_past calls c.args.number lookup.3) refl
