use Rattle.std.proofs.Common.{[]}
use Rattle.r4_ports.proofs.Writing.{writes_then}
use Rattle.r4_ports.proofs.pieces.finish.Goals as goal

-- what was pending is handed over, and the sink is flushed
pub returns-then-pending-clause-writes : goal.returns-then-pending-clause-writes
returns-then-pending-clause-writes g c = writes_then _ _ _ [] [] c.flush.ensures.writes c.hand_over.ensures.writes
