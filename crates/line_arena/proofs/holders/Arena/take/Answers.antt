use Rattle.std.proofs.Common.{true, false, arith, get_or-set_same}
use Rattle.line_arena.proofs.Kept.{has_room, is_free, kept_taken}
use Rattle.line_arena.proofs.Views.{taken_view}
use Rattle.line_arena.proofs.holders.Arena.take.Goals as goal

pub insert_reserved-slot-requires : goal.insert_reserved-slot-requires
insert_reserved-slot-requires c = has_room _ c.args.holder c.self.invariant (rw (← c.self.view_is) at c.requires.place) (rw (← c.self.view_is) at c.requires.empty)

pub invariant_of-self : goal.invariant_of-self
invariant_of-self c =
    let new = c.insert_reserved-slot.ensures in
    kept_taken _ c.args.holder c.insert_reserved-slot.result c.args.bytes c.insert_reserved-slot.new.self c.self.invariant (rw (← c.self.view_is) at c.requires.place) (rw (← c.self.view_is) at c.requires.empty) new.was_vacant new.updates new.len new.key_in_range new.capacity c.requires.long

pub returns-clause-taken : goal.returns-clause-taken
returns-clause-taken c =
    let new = c.insert_reserved-slot.ensures in
    rw (← c.self.view_is) (c.insert_reserved-slot.result, is_free _ c.insert_reserved-slot.result c.self.invariant new.was_vacant, taken_view _ c.args.holder c.insert_reserved-slot.result c.args.bytes c.insert_reserved-slot.new.self c.self.invariant new.was_vacant new.updates)

pub returns-clause-owner : goal.returns-clause-owner
returns-clause-owner c =
    let place = rw (← c.self.view_is) at c.requires.place in
    get_or-set_same c.self.inside.owns.items c.args.holder true false (omega (arith, place, c.self.invariant.owners.length_is))
