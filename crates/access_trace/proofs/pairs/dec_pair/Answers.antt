use Rattle.std.proofs.Common.{refl}
use Rattle.access_trace.proofs.PairTables.{dec_pair_at}
use Rattle.access_trace.proofs.pairs.dec_pair.Goals as goal

pub returns : goal.returns
returns c = let at = dec_pair_at c.args.number c.requires in rw (at.0, at.1) refl
