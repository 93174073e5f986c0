-- The flat machine: the processor over memory without caches. Its state at reset, its tick, and what it shows.
-- Source: this project's own.
use Rattle.std.specs.Prelude.{ℕ, List}
use Rattle.flat_ram.specs.Bytes.{zeros_of}
use Rattle.flat_ram.specs.Map.{ram_size}
use Rattle.flat_ram.specs.declared.memory.Prom.{Prom}
use Rattle.r4_shape.specs.Numbers.{Numbers}
use Rattle.r4_shape.specs.Config.{config_of}
use Rattle.input_script.specs.declared.inputs.Input.{Input}
use Rattle.dma_devices.specs.DiskCommands.{disk_status}
use Rattle.dma_devices.specs.RecordedInputs.{recorded_at_reset}
use Rattle.elf_image.specs.Header.{entry_of}
use Rattle.elf_image.specs.Loading.{loaded}
use Rattle.flat_machine.specs.declared.flat_memory.FlatMemory.{FlatMemory}
use Rattle.flat_machine.specs.declared.flat_state.Flat.{Flat}
use Rattle.mips3_exec.specs.declared.ticking.Tick.{Tick}
use Rattle.mips3_exec.specs.Processor.{reset_cpu}
use Rattle.mips3_exec.specs.Run.{State}
use Rattle.mips3_exec.specs.Tick.{Ticked, tick_of}
use Rattle.run_report.specs.Shown.{Shown}
use Rattle.flat_machine.specs.FlatMemory.{flat_ask}

-- memory at reset: an image's bytes in RAM that is zero elsewhere, and the devices with a disk and all inputs to come
abbrev pub reset_memory : Prom → List ℕ → List ℕ → List Input → FlatMemory
reset_memory prom image disk inputs =
    record {
      ram = loaded image (zeros_of ram_size);
      prom = prom;
      devices = recorded_at_reset disk inputs (entry_of image);
    }

-- The flat machine at reset. A program can read in Config which caches a machine of the shape has; there is no other trace of them.
unfoldable pub flat_reset_of : Numbers → Prom → List ℕ → List ℕ → List Input → Flat
flat_reset_of shape prom image disk inputs =
    record { cpu = reset_cpu (config_of shape); memory = reset_memory prom image disk inputs }

-- a flat machine as a processor beside a memory system
abbrev pub beside_memory : Flat → State FlatMemory
beside_memory flat = record { cpu = flat.cpu; memory = flat.memory }

-- a flat machine, and the answer of its last tick or of its run
pub record Reached : Type 0 where
  pub flat : Flat
  pub answer : Tick

-- what a tick or a run with flat memory reaches, as a flat machine
abbrev pub reached : Ticked FlatMemory → Reached
reached ticked = record { flat = record { cpu = ticked.cpu; memory = ticked.memory }; answer = ticked.answer }

-- the tick: that of every machine, held with flat memory
unfoldable pub flat_tick_of : Flat → Reached
flat_tick_of flat = reached (tick_of flat_ask flat.memory flat.cpu)

-- what a flat machine shows
abbrev pub flat_shown_of : Flat → Shown
flat_shown_of flat = record {
  ticks = flat.cpu.ticks;
  halt = flat.cpu.halt;
  pc = flat.cpu.pc;
  npc = flat.cpu.npc;
  slot = flat.cpu.slot;
  link = flat.cpu.link.set;
  regs = flat.cpu.regs;
  cp0 = flat.cpu.cp0;
  tlb = flat.cpu.tlb;
  sector = flat.memory.devices.devices.disk.sector;
  address = flat.memory.devices.devices.disk.address;
  status = disk_status flat.memory.devices.devices.disk;
  console = flat.memory.devices.devices.console.printed;
  disk = flat.memory.devices.devices.disk.bytes;
}
