use Rattle.tlb_model.proofs.Storable.{stored_is_pair}
use Rattle.tlb_model.proofs.pairs.stored_pair.Goals as goal

pub returns-clause-storable : goal.returns-clause-storable
returns-clause-storable c = stored_is_pair c.args.mask c.args.hi c.args.lo0 c.args.lo1 c.requires.mask c.requires.hi c.requires.lo0 c.requires.lo1
