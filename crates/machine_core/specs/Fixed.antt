-- What is fixed in every state that a machine reaches: what no instruction changes of its processor, and that Cause shows the levels
-- of the devices' lines.
-- Source: MIPS R4000 Microprocessor User's Manual, 2nd edition (Heinrich), chapter 5, "Cause Register": IP2 to IP6 are the levels of
-- the interrupt lines.
use Rattle.std.specs.Prelude.{◌≡◌, ℕ}
use Rattle.cp0_regs.specs.Fields.{device_lines}
use Rattle.cp0_regs.specs.State.{value_of}
use Rattle.dma_devices.specs.DeviceSet.{levels_of}
use Rattle.mips3_exec.specs.Fixed as processor
use Rattle.machine_core.specs.Machine.{MachineState}

-- a machine whose processor has what is fixed, and whose Cause shows the levels of the devices' lines
pub record HasFixed (config_at_reset : ℕ) (machine : MachineState) : Type 0 where
  pub processor : processor.HasFixed config_at_reset machine.cpu
  pub lines : value_of machine.cpu.cp0 device_lines ≡ levels_of machine.bus.devices.devices
