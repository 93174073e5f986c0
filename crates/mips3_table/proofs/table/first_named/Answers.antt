-- The row that is found is the first that has the name.
use Rattle.std.proofs.Common.{◌∙◌, ap, sym, bytes_eq, below_more, arith}
use Rattle.mips3_table.proofs.Names.{row_here, row_nowhere}
use Rattle.mips3_table.proofs.table.first_named.Goals as goal

pub loop-row-preserved : goal.loop-row-preserved
loop-row-preserved c = below_more _ _ c.loop-row.invariant (ap (bytes_eq c.args.name.now) (sym c.name_of-of_row.ensures) ∙ sym c.reads-is_it.ensures ∙ c.if-is_it.false)

pub returns-then-is_it : goal.returns-then-is_it
returns-then-is_it c = sym (row_here c.args.name.now c.loop-row.row c.loop-row-test.true c.loop-row.invariant (ap (bytes_eq c.args.name.now) (sym c.name_of-of_row.ensures) ∙ sym c.reads-is_it.ensures ∙ c.if-is_it.true))

pub returns : goal.returns
returns c = sym (row_nowhere c.args.name.now (λ k lt. c.loop-row.invariant k (omega arith)))
