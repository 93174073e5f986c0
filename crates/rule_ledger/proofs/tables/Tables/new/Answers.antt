use Rattle.rule_ledger.specs.Marks.{facts_of}
use Rattle.rule_ledger.specs.Cells.{grid_of}
use Rattle.rule_ledger.proofs.Grids.{places_are}
use Rattle.rule_ledger.proofs.Starting.{table_is, counted_is, no_facts_is}
use Rattle.rule_ledger.proofs.tables.Tables.new.Goals as goal

pub invariant_of-result : goal.invariant_of-result
invariant_of-result c =
    let is = c.sc-is_one.ensures.shape in
    rw (c.in_ok-new.ensures, c.in_ok-new-2.ensures, c.places-lines.ensures.is, c.lines_in.ensures.is, c.colours.ensures.is)
    (is, table_is c.args.shape _ (places_are _ is), table_is c.args.shape _ (places_are _ is), counted_is _ _, counted_is _ _)

pub returns-clause-facts : goal.returns-clause-facts
unfolding facts_of
returns-clause-facts c = rw (c.in_ok-new.ensures, c.in_ok-new-2.ensures) (no_facts_is (grid_of c.args.shape) _ _ _)
