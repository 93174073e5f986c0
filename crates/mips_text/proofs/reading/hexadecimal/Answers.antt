use Rattle.std.proofs.Common.{sym, arith}
use Rattle.mips_text.proofs.Numbers.{grown}
use Rattle.mips_text.proofs.reading.hexadecimal.Goals as goal

pub returns-then-number-ge4294967296 : goal.returns-then-number-ge4294967296
returns-then-number-ge4294967296 c = sym (grown 16 c.loop-code.number c.args.digits.now c.loop-code.code-index _ _ (omega arith) c.loop-code-test.true c.loop-code.invariant.0 (cc) c.if-number-ge4294967296.true)
