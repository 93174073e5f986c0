use Rattle.std.proofs.Common.{◌≡◌, ◌≤◌, length}
use Rattle.mips_asm.specs.Layout.{base_of, readings_of}
use Rattle.mips_asm.proofs.passes.base_of.Given as goal

abbrev pub invariant-loop-rest : goal.invariant-loop-rest
invariant-loop-rest l = (base_of (readings_of l.rest) ≡ base_of (readings_of l.source)) × (length l.rest ≤ length l.source)

abbrev pub decreases-loop-rest : goal.decreases-loop-rest
decreases-loop-rest l = length l.rest
