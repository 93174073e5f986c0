use Rattle.std.proofs.Common.{◌≤◌, ◌+◌, length}
use Rattle.flat_ram.specs.Map.{ram_size}
use Rattle.mips_asm.specs.Layout.{readings_of}
use Rattle.mips_asm.proofs.Laid.{IsLaidTo}
use Rattle.mips_asm.proofs.passes.first_pass.Given as goal

abbrev pub invariant-loop-rest : goal.invariant-loop-rest
invariant-loop-rest l =
    IsLaidTo l.base (readings_of l.source) l.number l.address l.labels (readings_of l.rest)
    × (l.number + length l.rest ≤ 1 + length l.source)
    × (l.base ≤ l.address)
    × (l.address ≤ l.base + ram_size)

abbrev pub decreases-loop-rest : goal.decreases-loop-rest
decreases-loop-rest l = length l.rest
