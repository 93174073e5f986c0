use Rattle.std.proofs.Common.{refl}
use Rattle.rule_ledger.proofs.Grids.{beat_inside}
use Rattle.rule_ledger.proofs.tables.Tables.beat_granules.Goals as goal

pub returns : goal.returns
returns c = rw (c.lines_in.ensures.is, ← c.self.view_is) (record { count = refl; inside = beat_inside c.self.inside.shape c.self.invariant.0 c.args.pa c.requires.ram c.requires.whole })
