-- What a run that is made on the way promises is what the product promised.
use Rattle.std.proofs.Common.{sym, subst}
use Rattle.r4k_top.specs.EndShown.{RunWillBeFlat}
use Rattle.r4k_top.proofs.product.deliver.Goals as goal

pub returns-in-Traced-clause-flat : goal.returns-in-Traced-clause-flat
returns-in-Traced-clause-flat g c = λ complete. subst RunWillBeFlat (sym c.in-Traced.is) (c.deliver_traced.ensures.flat complete)
