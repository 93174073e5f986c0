use Rattle.std.proofs.Common.{length}
use Rattle.mips_asm.proofs.operands.+target_in.Given as goal

abbrev pub decreases-target_in : goal.decreases-target_in
decreases-target_in l = length l.expected.now
