use Rattle.std.proofs.Common.{arith}
use Rattle.line_arena.proofs.Kept.{count_read, kept_lent, lent_few}
use Rattle.line_arena.proofs.Views.{lent_view}
use Rattle.line_arena.proofs.holders.Arena.lend.Goals as goal

pub overflow_add-index_mut : goal.overflow_add-index_mut
overflow_add-index_mut c =
    let has = rw (← c.self.view_is) at c.slot-slot.ensures.slot in
    let read = count_read _ c.args.from c.slot-slot.result c.index_mut-2.result.now c.self.invariant has c.index_mut-2.ensures.value in
    omega (arith, read.0, lent_few _ c.args.from c.args.to c.slot-slot.result c.self.invariant (rw (← c.self.view_is) at c.requires.to) (rw (← c.self.view_is) at c.requires.empty) has)

pub invariant_of-self : goal.invariant_of-self
invariant_of-self c =
    let has = rw (← c.self.view_is) at c.slot-slot.ensures.slot in
    let read = count_read _ c.args.from c.slot-slot.result c.index_mut-2.result.now c.self.invariant has c.index_mut-2.ensures.value in
    kept_lent _ c.args.from c.args.to c.slot-slot.result _ c.self.invariant (rw (← c.self.view_is) at c.requires.to) (rw (← c.self.view_is) at c.requires.empty) has (omega (arith, read.0))

pub returns : goal.returns
returns c = record { lent = rw (← c.self.view_is) (lent_view _ c.args.from c.args.to c.slot-slot.result c.self.invariant (rw (← c.self.view_is) at c.slot-slot.ensures.slot)) }
