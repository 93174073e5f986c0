use Rattle.std.proofs.Common.{◌/◌}
use Rattle.primary_caches.proofs.NoLines.{no_lines_are_clean}
use Rattle.primary_caches.proofs.sides.ITags.new.Goals as goal

pub invariant_of-result : goal.invariant_of-result
invariant_of-result g c = rw c.in_ok-new.ensures.empty (no_lines_are_clean (g.row.SIZE / g.row.LINE))
