-- How a pause begins, and what a run of the processor and the memory comes to.
use Rattle.std.proofs.Common.{◌≡◌, ◌+◌, ℕ, zero, suc, refl, ap, arith}
use Rattle.mips3_exec.specs.declared.processor.Cpu.{Cpu}
use Rattle.mips3_exec.specs.Run.{run_of}
use Rattle.flat_machine.specs.declared.flat_memory.FlatMemory.{FlatMemory}
use Rattle.flat_machine.specs.declared.flat_state.Flat.{Flat}
use Rattle.flat_machine.specs.FlatMachine.{beside_memory}
use Rattle.flat_machine.specs.FlatMemory.{flat_ask}
use Rattle.flat_machine.specs.FlatRun.{flat_run_of}
use Rattle.flat_machine.specs.Pause.{pause_tick, pause_ticks}

-- a run of the processor and the memory is one of the flat machine
pub made_run : (n : ℕ) (flat : Flat) (cpu : Cpu) (memory : FlatMemory) → cpu ≡ (run_of flat_ask n (beside_memory flat)).cpu
    → memory ≡ (run_of flat_ask n (beside_memory flat)).memory → record { cpu = cpu; memory = memory } ≡ (flat_run_of n flat).flat
unfolding flat_run_of
made_run n flat cpu memory is_cpu is_memory = λ i. record { cpu = is_cpu i; memory = is_memory i }

-- no pause tick is left
pub pause_none : (n : ℕ) (flat : Flat) → n ≡ 0 → pause_ticks n flat ≡ flat
unfolding pause_ticks
pause_none zero flat e = refl
pause_none (suc n) flat e = absurd (omega arith)

-- one pause tick, and those after it
pub pause_more : (n k : ℕ) (flat : Flat) → n ≡ k + 1 → pause_ticks n flat ≡ pause_ticks k (pause_tick flat)
unfolding pause_ticks
pause_more zero k flat e = absurd (omega arith)
pause_more (suc n) k flat e = let same : n ≡ k = omega arith in ap (λ j. pause_ticks j (pause_tick flat)) same
