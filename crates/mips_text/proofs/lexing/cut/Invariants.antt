use Rattle.std.proofs.Common.{length, ◌-◌, ◌≤◌}
use Rattle.arrayvec.specs.ArrayVec.{array_vec_len}
use Rattle.mips_text.proofs.Cutting.{Stands}
use Rattle.mips_text.proofs.lexing.cut.Given as goal

abbrev pub invariant-loop-at : goal.invariant-loop-at
invariant-loop-at l = Stands l.line l.out.items l.at × (array_vec_len l.out ≤ 64)

abbrev pub decreases-loop-at : goal.decreases-loop-at
decreases-loop-at l = length l.line - l.at
