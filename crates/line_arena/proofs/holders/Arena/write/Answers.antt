use Rattle.std.proofs.Common.{sym}
use Rattle.line_arena.proofs.Kept.{is_free}
use Rattle.line_arena.proofs.Written.{kept_put, written_view}
use Rattle.line_arena.proofs.holders.Arena.write.Goals as goal

pub invariant_of-self : goal.invariant_of-self
invariant_of-self c =
    let has = rw (← c.self.view_is) at c.slot-slot.ensures.slot in
    let fits = rw (← c.self.view_is) at c.requires.fits in
    kept_put _ c.args.holder c.slot-slot.result c.args.at c.args.bytes.now c.in-Some.all.now c.put_bytes.new.all c.self.invariant has (sym c.in-Some.ensures.value) fits c.put_bytes.ensures

pub returns : goal.returns
returns c =
    let has = rw (← c.self.view_is) at c.slot-slot.ensures.slot in
    let alone = rw (← c.self.view_is) at c.requires.alone in
    let fits = rw (← c.self.view_is) at c.requires.fits in
    record { written = rw (← c.self.view_is) (written_view _ c.args.holder c.slot-slot.result c.args.at c.args.bytes.now c.in-Some.all.now c.put_bytes.new.all c.self.invariant has alone (sym c.in-Some.ensures.value) fits c.put_bytes.ensures) }

pub unreachable-requires : goal.unreachable-requires
unreachable-requires c = is_free _ c.slot-slot.result c.self.invariant (sym c.in-None.ensures.value) c.args.holder (rw (← c.self.view_is) at c.slot-slot.ensures.slot)
