use Rattle.std.proofs.Common.{sym, ◌∙◌}
use Rattle.line_arena.proofs.Kept.{alone_owns}
use Rattle.line_arena.proofs.Views.{alone_if, shared_test}
use Rattle.line_arena.proofs.holders.Arena.shares.Goals as goal

pub returns-clause-shared : goal.returns-clause-shared
returns-clause-shared c =
    let has = rw (← c.self.view_is) at c.slot.ensures.slot in
    rw (← c.self.view_is) (shared_test _ c.args.holder c.slot.result c.index.result.now c.self.invariant has c.index.ensures)

pub returns-clause-owner : goal.returns-clause-owner
returns-clause-owner c = λ apart.
    let has = rw (← c.self.view_is) at c.slot.ensures.slot in
    let test = shared_test _ c.args.holder c.slot.result c.index.result.now c.self.invariant has c.index.ensures in
    rw (← c.self.view_is) (alone_owns _ c.args.holder c.slot.result c.self.invariant has (alone_if _ c.args.holder c.slot.result c.self.invariant has (sym test ∙ apart)))
