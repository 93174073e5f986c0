-- The run of a bench is promised as that of the run that is still to be made.
use Rattle.std.proofs.Common.{sym, subst}
use Rattle.r4k_top.specs.EndShown.{UntracedWillBeFlat}
use Rattle.r4k_top.proofs.product.run_untraced.Goals as goal

pub returns-in-Bench-clause-flat : goal.returns-in-Bench-clause-flat
returns-in-Bench-clause-flat c = subst UntracedWillBeFlat (sym c.in-Bench.is) c.run_bench.ensures.flat
