use Rattle.std.proofs.Common.{sym, ◌∙◌, arith}
use Rattle.line_arena.proofs.Kept.{count_read, kept_borrower, kept_given, kept_passed, own_read}
use Rattle.line_arena.proofs.Views.{borrower_view, given_view, heir_found, heir_is, passed_view}
use Rattle.line_arena.proofs.holders.Arena.give_back.Goals as goal

pub overflow_sub-others : goal.overflow_sub-others
overflow_sub-others c =
    let has = rw (← c.self.view_is) at c.slot-slot.ensures.slot in
    let read = count_read _ c.args.holder c.slot-slot.result c.index.result.now c.self.invariant has c.index.ensures in
    omega (arith, read.1)

pub invariant_of-self : goal.invariant_of-self
invariant_of-self c =
    let has = rw (← c.self.view_is) at c.slot-slot.ensures.slot in
    let read = count_read _ c.args.holder c.slot-slot.result c.index.result.now c.self.invariant has c.index.ensures in
    kept_given _ c.args.holder c.slot-slot.result _ c.remove.new.self c.self.invariant has (omega (arith, read.0, read.1)) (omega (arith, read.0, read.1)) c.remove.ensures.updates c.remove.ensures.len c.remove.ensures.capacity

pub returns-then-others-eq0 : goal.returns-then-others-eq0
returns-then-others-eq0 c =
    let has = rw (← c.self.view_is) at c.slot-slot.ensures.slot in
    let read = count_read _ c.args.holder c.slot-slot.result c.index.result.now c.self.invariant has c.index.ensures in
    record { left = rw (← c.self.view_is) (given_view _ c.args.holder c.slot-slot.result c.remove.new.self c.self.invariant has (omega (arith, read.0, read.1)) c.remove.ensures.updates) }

pub invariant_of-self-else-owned : goal.invariant_of-self-else-owned
invariant_of-self-else-owned c =
    let has = rw (← c.self.view_is) at c.slot-slot.ensures.slot in
    let place = rw (← c.self.view_is) at c.requires.place in
    let read = count_read _ c.args.holder c.slot-slot.result c.index.result.now c.self.invariant has c.index.ensures in
    kept_borrower _ c.args.holder c.slot-slot.result _ c.self.invariant has (omega (arith, read.0, read.1)) (own_read _ c.args.holder c.index-owned.result.now c.self.invariant place c.index-owned.ensures ∙ c.if-owned.false)

pub returns-else-owned : goal.returns-else-owned
returns-else-owned c =
    let place = rw (← c.self.view_is) at c.requires.place in
    record { left = rw (← c.self.view_is) (borrower_view _ c.args.holder c.self.invariant (own_read _ c.args.holder c.index-owned.result.now c.self.invariant place c.index-owned.ensures ∙ c.if-owned.false)) }

pub invariant_of-self-in-Some : goal.invariant_of-self-in-Some
invariant_of-self-in-Some c =
    let has = rw (← c.self.view_is) at c.slot-slot.ensures.slot in
    let place = rw (← c.self.view_is) at c.requires.place in
    let read = count_read _ c.args.holder c.slot-slot.result c.index.result.now c.self.invariant has c.index.ensures in
    let lowest = rw c.deref.ensures.value at c.in-Some.ensures.lowest in
    let found = heir_found _ c.args.holder c.slot-slot.result c.in-Some.heir c.self.invariant place lowest in
    let owner = own_read _ c.args.holder c.index-owned.result.now c.self.invariant place c.index-owned.ensures ∙ c.if-owned.true in
    kept_passed _ c.args.holder c.slot-slot.result _ c.in-Some.heir c.self.invariant has (omega (arith, read.0, read.1)) owner found.0 found.1

pub returns-in-Some : goal.returns-in-Some
returns-in-Some c =
    let has = rw (← c.self.view_is) at c.slot-slot.ensures.slot in
    let place = rw (← c.self.view_is) at c.requires.place in
    let owner = own_read _ c.args.holder c.index-owned.result.now c.self.invariant place c.index-owned.ensures ∙ c.if-owned.true in
    let lowest = rw c.deref.ensures.value at c.in-Some.ensures.lowest in
    record { left = rw (← c.self.view_is) (passed_view _ c.args.holder c.slot-slot.result c.in-Some.heir c.self.invariant has owner (sym lowest)) }

pub invariant_of-self-in_default : goal.invariant_of-self-in_default
invariant_of-self-in_default c =
    let has = rw (← c.self.view_is) at c.slot-slot.ensures.slot in
    let read = count_read _ c.args.holder c.slot-slot.result c.index.result.now c.self.invariant has c.index.ensures in
    let next = heir_is _ c.args.holder c.slot-slot.result c.self.invariant has (λ e. c.if-others-eq0.false (omega (arith, read.0, e))) in
    let lowest = rw c.deref.ensures.value at c.lowest.ensures.lowest in
    absurd (c.in_default.not-Some next.0 (lowest ∙ next.1))

pub returns-in_default : goal.returns-in_default
returns-in_default c =
    let has = rw (← c.self.view_is) at c.slot-slot.ensures.slot in
    let read = count_read _ c.args.holder c.slot-slot.result c.index.result.now c.self.invariant has c.index.ensures in
    let next = heir_is _ c.args.holder c.slot-slot.result c.self.invariant has (λ e. c.if-others-eq0.false (omega (arith, read.0, e))) in
    let lowest = rw c.deref.ensures.value at c.lowest.ensures.lowest in
    absurd (c.in_default.not-Some next.0 (lowest ∙ next.1))
