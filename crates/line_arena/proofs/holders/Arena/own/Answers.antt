use Rattle.std.proofs.Common.{Some, List, ℕ, ap, ◌∙◌}
use Rattle.line_arena.specs.Holding.{with_slot}
use Rattle.line_arena.proofs.Made.{zeros}
use Rattle.line_arena.proofs.holders.Arena.own.Goals as goal

pub returns : goal.returns
returns c =
    let taken = c.take.ensures.taken in
    record { owned = (taken.0, taken.1, taken.2 ∙ ap (λ (b : List ℕ). with_slot c.args.holder taken.0 (Some b) c.args.self.now) (zeros c.args.self.now.line c.take.ensures.short)) }
