use Rattle.std.proofs.Common.{sym}
use Rattle.access_trace.proofs.PairTables.{hex_pair_at}
use Rattle.access_trace.proofs.Digits.{hex_of_byte}
use Rattle.access_trace.proofs.pairs.hex_pair.Goals as goal

pub returns : goal.returns
returns c = let at = hex_pair_at c.args.byte c.requires in rw (at.0, at.1) (sym (hex_of_byte c.args.byte c.requires))
