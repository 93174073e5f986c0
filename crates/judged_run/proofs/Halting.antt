-- A tick after which the machine has not halted goes on.
use Rattle.std.proofs.Common.{◌≡◌, ◌∙◌, ℕ, true, Option, Some, None, refl, sym}
use Rattle.mips3_exec.specs.declared.processor.Cpu.{Cpu}
use Rattle.mips3_exec.specs.declared.talk.StepEnd.{StepEnd}
use Rattle.mips3_exec.specs.declared.talk.StepEnd.TheVariants.{Went, WroteWired, Trapped}
use Rattle.mips3_exec.specs.Talk.{hold}
use Rattle.mips3_exec.specs.Tick.{goes_on, answer_of, tick_talk, unless_halted}
use Rattle.mips3_exec.specs.Tick as any
use Rattle.machine_core.specs.declared.address_map.Bus.{Bus}
use Rattle.machine_core.specs.AddressMap.{bus_ask}
use Rattle.machine_core.specs.Machine.{MachineState, tick_of}

goes_after : (end : StepEnd) (halt : Option ℕ) → halt ≡ None → goes_on (answer_of end halt) ≡ true
goes_after (Trapped code) halt is = refl
goes_after Went None is = refl
goes_after Went (Some code) is = absurd cc
goes_after WroteWired None is = refl
goes_after WroteWired (Some code) is = absurd cc

by_halt : (bus : Bus) (cpu : Cpu) (halt : Option ℕ) → cpu.halt ≡ halt → (unless_halted bus_ask bus cpu halt).cpu.halt ≡ None
    → goes_on (unless_halted bus_ask bus cpu halt).answer ≡ true
by_halt bus cpu (Some code) is none = let some : Some code ≡ None = sym is ∙ none in absurd cc
by_halt bus cpu None is none =
    goes_after (hold bus_ask bus (tick_talk cpu)).end (hold bus_ask bus (tick_talk cpu)).cpu.halt none

pub goes_unhalted : (machine : MachineState) → (tick_of machine).machine.cpu.halt ≡ None → goes_on (tick_of machine).answer ≡ true
unfolding tick_of any.tick_of
goes_unhalted machine none = by_halt machine.bus machine.cpu machine.cpu.halt refl none
