use Rattle.std.proofs.Common.{◌≡◌}
use Rattle.rule_ledger.specs.Cells.{grid_of}
use Rattle.rule_ledger.specs.Marks.{place_of}
use Rattle.rule_ledger.proofs.Grids.{grid_is}
use Rattle.rule_ledger.proofs.Reading.{table_kept, counted_kept, instruction_put}
use Rattle.rule_ledger.proofs.tables.Tables.put_instruction_mark.Goals as goal

pub invariant_of-self : goal.invariant_of-self
invariant_of-self c = let i = c.self.invariant in (i.0, i.1, table_kept _ _ _ c.set.ensures.rows c.set.ensures.cells i.2, i.3, counted_kept _ _ _ c.set.ensures.stamps i.4)

pub returns-clause-facts : goal.returns-clause-facts
returns-clause-facts c =
    let i = c.self.invariant in
    let place : c.place-place.result ≡ place_of (grid_of c.self.inside.shape) c.args.granule c.args.colour = rw (← c.self.view_is) at c.place-place.ensures.place in
    rw (← c.self.view_is) (instruction_put _ (grid_is _ i.0) c.args.granule c.args.colour (rw (← c.self.view_is) at c.requires.granule) (rw (← c.self.view_is) at c.requires.colour)
    _ c.bits.result c.args.mark (λ k lt. rw place at (c.set.ensures.marks k (rw i.2.cells lt))) c.bits.ensures)
