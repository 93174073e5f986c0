-- What is fixed in every state that a machine reaches: reset has it, and each tick and run keeps it.
use Rattle.std.proofs.Common.{◌≡◌, ◌≤◌, ◌<◌, ℕ, Bool, true, false, List, Option, Some, None, refl, sym, subst, arith}
use Rattle.flat_ram.specs.declared.memory.Prom.{Prom}
use Rattle.r4_shape.specs.Numbers.{Numbers}
use Rattle.r4_shape.specs.Config.{config_of}
use Rattle.input_script.specs.declared.inputs.Input.{Input}
use Rattle.dma_devices.specs.ConsoleBytes.{bit, has_waiting}
use Rattle.dma_devices.specs.DeviceSet.{DeviceState, levels_of}
use Rattle.cp0_regs.specs.Registers as registers
use Rattle.cp0_regs.proofs.ShownLines.{lines_shown}
use Rattle.mips3_exec.specs.declared.processor.Cpu.{Cpu}
use Rattle.mips3_exec.specs.declared.talk.StepEnd.{StepEnd}
use Rattle.mips3_exec.specs.Fixed as processor
use Rattle.mips3_exec.specs.Processor.{reset_cpu}
use Rattle.mips3_exec.specs.Run.{State, tick_move, nothing}
use Rattle.mips3_exec.specs.Run as any_run
use Rattle.mips3_exec.specs.Talk.{Held, hold}
use Rattle.mips3_exec.specs.Tick.{opened, closed, wrote_wired, tick_talk, unless_halted}
use Rattle.mips3_exec.specs.Tick as any
use Rattle.mips3_exec.proofs.Fixed.{reset_fixed, held_opened_fixed, held_closed_fixed}
use Rattle.mips3_exec.proofs.Runs.{moves_keep}
use Rattle.mips3_exec.proofs.Talks.{hold_and_then}
use Rattle.machine_core.specs.declared.address_map.Bus.{Bus}
use Rattle.machine_core.specs.AddressMap.{bus_ask}
use Rattle.machine_core.specs.Fixed.{HasFixed}
use Rattle.machine_core.specs.Machine.{MachineState, beside_bus, reset_bus, reset_of, tick_of}
use Rattle.machine_core.specs.Run.{run_of}

-- the machine of a processor and its bus
abbrev machine_of : Cpu → Bus → MachineState
machine_of cpu bus = record { cpu = cpu; bus = bus }

-- the levels of five lines
bit_small : (b : Bool) → bit b ≤ 1
bit_small true = omega arith
bit_small false = omega arith

levels_small : (devices : DeviceState) → levels_of devices < 32
levels_small devices =
    omega (arith, bit_small (has_waiting devices.console), bit_small devices.disk.done, bit_small devices.lines.line4, bit_small devices.lines.line5, bit_small devices.lines.line6)

-- at reset the lines are low
machine_reset_fixed : (shape : Numbers) (prom : Prom) (image disk : List ℕ) (inputs : List Input)
    → HasFixed (config_of shape) (reset_of shape prom image disk inputs)
unfolding reset_of reset_cpu registers.reset_cp0
machine_reset_fixed shape prom image disk inputs = record { processor = reset_fixed (config_of shape); lines = refl }

pub made_fixed : (shape : Numbers) (prom : Prom) (image disk : List ℕ) (inputs : List Input) (cpu : Cpu) (bus : Bus) → cpu ≡ reset_cpu (config_of shape)
    → bus ≡ reset_bus shape prom image disk inputs → HasFixed (config_of shape) (machine_of cpu bus)
unfolding reset_of
made_fixed shape prom image disk inputs cpu bus is_cpu is_bus =
    subst (HasFixed (config_of shape)) (λ i. record { cpu = sym is_cpu i; bus = sym is_bus i }) (machine_reset_fixed shape prom image disk inputs)

module _ (config : ℕ) where
  -- a tick ends with Cause showing the levels
  closed_shows : (bus : Bus) (cpu : Cpu) (end : StepEnd) → processor.HasFixed config cpu
      → HasFixed config (machine_of (hold bus_ask bus (closed cpu end)).cpu (hold bus_ask bus (closed cpu end)).memory)
  unfolding bus_ask
  closed_shows bus cpu end fixed = record {
    processor = held_closed_fixed config bus_ask bus cpu end fixed;
    lines = lines_shown cpu.cp0 (levels_of bus.devices.devices) (wrote_wired end) fixed.system.prid (levels_small bus.devices.devices);
  }

  talk_keeps : (bus : Bus) (cpu : Cpu) → processor.HasFixed config cpu
      → HasFixed config (machine_of (hold bus_ask bus (tick_talk cpu)).cpu (hold bus_ask bus (tick_talk cpu)).memory)
  unfolding tick_talk
  talk_keeps bus cpu fixed =
      let held : Held Bus = hold bus_ask bus (opened cpu) in
      subst (λ (h : Held Bus). HasFixed config (machine_of h.cpu h.memory)) (sym (hold_and_then bus_ask bus (opened cpu) closed))
      (closed_shows held.memory held.cpu held.end (held_opened_fixed config bus_ask bus cpu fixed))

  -- a tick keeps what is fixed
  pub tick_fixed : (machine : MachineState) → HasFixed config machine → HasFixed config (tick_of machine).machine
  unfolding tick_of any.tick_of
  tick_fixed machine fixed = on machine.cpu.halt
    where
      on : (halt : Option ℕ) → HasFixed config (machine_of (unless_halted bus_ask machine.bus machine.cpu halt).cpu (unless_halted bus_ask machine.bus machine.cpu halt).memory)
      on (Some code) = fixed
      on None = talk_keeps machine.bus machine.cpu fixed.processor

  move_fixed : (state : State Bus) → HasFixed config (machine_of state.cpu state.memory)
      → HasFixed config (machine_of (tick_move bus_ask nothing state).state.cpu (tick_move bus_ask nothing state).state.memory)
  unfolding tick_of
  move_fixed state fixed = tick_fixed (machine_of state.cpu state.memory) fixed

  -- and so does a run
  pub run_fixed : (n : ℕ) (machine : MachineState) → HasFixed config machine → HasFixed config (run_of n machine).machine
  unfolding run_of any_run.run_of
  run_fixed n machine fixed =
      moves_keep (tick_move bus_ask nothing) (λ (state : State Bus). HasFixed config (machine_of state.cpu state.memory)) move_fixed n (beside_bus machine) fixed
