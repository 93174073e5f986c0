use Rattle.std.proofs.Common.{refl}
use Rattle.rule_ledger.proofs.AnyEvent.{granule_inside, colour_inside}
use Rattle.rule_ledger.proofs.Grids.{grid_is}
use Rattle.rule_ledger.proofs.Reading.{table_read, counted_read, data_read, facts_data_read}
use Rattle.rule_ledger.proofs.tables.Tables.accessed_data.Goals as goal

pub invariant_of-self : goal.invariant_of-self
invariant_of-self c = let i = c.self.invariant in rw c.get.ensures.kept (i.0, table_read _ _ _ i.1, i.2, counted_read _ _ _ i.3, i.4)

pub returns-clause-mark : goal.returns-clause-mark
returns-clause-mark c = rw (c.from_bits.ensures, c.get.ensures.mark, c.place_of_access-place.ensures.place, ← c.self.view_is)
    (data_read _ (grid_is _ c.self.invariant.0) _ _ (granule_inside _ c.self.invariant.0 c.args.pa c.requires.ram) (colour_inside _ c.self.invariant.0 c.args.va))

pub returns-clause-reads : goal.returns-clause-reads
returns-clause-reads c = rw (← c.self.view_is, c.get.ensures.kept) (record { facts = facts_data_read _ _; shape = refl; steps = refl })

pub returns-clause-is_shape : goal.returns-clause-is_shape
returns-clause-is_shape c = rw (← c.self.view_is) c.self.invariant.0
