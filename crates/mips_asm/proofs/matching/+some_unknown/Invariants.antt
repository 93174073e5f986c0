use Rattle.std.proofs.Common.{length}
use Rattle.mips_asm.proofs.matching.+some_unknown.Given as goal

abbrev pub decreases-some_unknown : goal.decreases-some_unknown
decreases-some_unknown l = length l.expected.now
