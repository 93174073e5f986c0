use Rattle.std.proofs.Common.{length}
use Rattle.mips_text.proofs.printing.+put_with_commas.Given as goal

abbrev pub decreases-put_with_commas : goal.decreases-put_with_commas
decreases-put_with_commas l = length l.operands.now
