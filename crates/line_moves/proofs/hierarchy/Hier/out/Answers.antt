use Rattle.line_moves.proofs.Out.{out_is}
use Rattle.line_moves.proofs.hierarchy.Hier.out.Goals as goal

pub returns-clause-places : goal.returns-clause-places
returns-clause-places c = out_is c.args.self.now c.write_back.new.self c.discard_whole.new.self c.args.index c.write_back.ensures.places c.discard_whole.ensures.places
