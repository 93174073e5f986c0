use Rattle.std.proofs.Common.{◌≤◌, ◌+◌, length}
use Rattle.mips_asm.specs.Layout.{readings_of}
use Rattle.mips_asm.proofs.Filled.{IsFilledTo}
use Rattle.mips_asm.proofs.passes.fill.Given as goal

abbrev pub invariant-loop-rest : goal.invariant-loop-rest
invariant-loop-rest l = IsFilledTo l.base l.labels (readings_of l.source) l.number l.bytes.items (readings_of l.rest) × (l.number + length l.rest ≤ 1 + length l.source)

abbrev pub decreases-loop-rest : goal.decreases-loop-rest
decreases-loop-rest l = length l.rest
