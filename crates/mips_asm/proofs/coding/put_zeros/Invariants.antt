use Rattle.std.proofs.Common.{◌≡◌, ◌++◌, replicate}
use Rattle.mips_asm.proofs.coding.put_zeros.Given as goal

abbrev pub invariant-loop-step : goal.invariant-loop-step
invariant-loop-step l = l.bytes.items ≡ l.initial.bytes.items ++ replicate l._step 0
