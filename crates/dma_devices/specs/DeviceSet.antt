-- The devices: the console, the disk, the interrupt lines of the script, and the image's entry. What an input, a beat, a read of
-- a register and a write of one make of them.
-- Source: this project's own devices.
use Rattle.std.specs.Prelude.{ℕ, ◌==◌, ◌+◌, ◌*◌, ◌<◌, ◌%◌, Bool, true, false, List, Option, Some, None, if◌then◌else◌}
use Rattle.input_script.specs.declared.inputs.What.{What}
use Rattle.input_script.specs.declared.inputs.What.TheVariants.{Key, Irq, Hold, Go}
use Rattle.dma_devices.specs.declared.interrupt_lines.InterruptLines.{InterruptLines}
use Rattle.dma_devices.specs.declared.transfers.Beat.{Beat}
use Rattle.dma_devices.specs.declared.register_file.Wrote.{Wrote}
use Rattle.dma_devices.specs.declared.register_file.Wrote.TheVariants as wrote
use Rattle.dma_devices.specs.declared.register_file.OnRead.{OnRead}
use Rattle.dma_devices.specs.declared.register_file.OnRead.TheVariants as on_read
use Rattle.dma_devices.specs.declared.register_file.OnWrite.{OnWrite}
use Rattle.dma_devices.specs.declared.register_file.OnWrite.TheVariants as on_write
use Rattle.dma_devices.specs.declared.register_file.Register.{Register}
use Rattle.dma_devices.specs.ConsoleBytes.{ConsoleState, new_console, with_key, with_printed, has_waiting, first_waiting, after_taking, console_status, bit}
use Rattle.dma_devices.specs.DiskCommands.{DiskState, new_disk, disk_status, after_command, with_sector, with_address, with_flags_cleared, with_hold, beat_of}
use Rattle.dma_devices.specs.RegisterTable.{register_at}

-- the devices at a moment
pub record DeviceState : Type 0 where
  pub console : ConsoleState
  pub disk : DiskState
  -- the levels that the script gave the lines 4, 5 and 6
  pub lines : InterruptLines
  -- the image's entry
  pub entry : ℕ

abbrev pub lines_down : InterruptLines
lines_down = record { line4 = false; line5 = false; line6 = false }

-- the devices at reset, with a disk of these bytes, room for so many bytes of console input, and the image's entry
abbrev pub devices_at_reset : List ℕ → ℕ → ℕ → DeviceState
devices_at_reset bytes keys entry =
    record { console = new_console keys; disk = new_disk bytes; lines = lines_down; entry = entry }

-- ---- inputs

-- the lines after one of them took a level
abbrev pub with_level : InterruptLines → ℕ → Bool → InterruptLines
with_level lines line level =
    if line == 4 then record lines { line4 = level }
    else if line == 5 then record lines { line5 = level }
    else if line == 6 then record lines { line6 = level }
    else lines

-- the devices after an input: a byte comes to the console, a line takes a level, the disk is held or let go
abbrev pub after_input : DeviceState → What → DeviceState
after_input devices (Key byte) = record devices { console = with_key devices.console byte }
after_input devices (Irq line level) = record devices { lines = with_level devices.lines line level }
after_input devices Hold = record devices { disk = with_hold devices.disk true }
after_input devices Go = record devices { disk = with_hold devices.disk false }

-- there is room for an input: a byte needs room at the console
abbrev pub HasRoomFor : DeviceState → What → Type 0
HasRoomFor devices (Key byte) = 0 < devices.console.room
HasRoomFor devices _ = Unit {0}

-- ---- what the processor sees without a read

-- the levels of the interrupt lines, IP2 in bit 0 to IP6 in bit 4: a byte waits, the disk is done, and the script's lines 4, 5, 6
abbrev pub levels_of : DeviceState → ℕ
levels_of devices =
    bit (has_waiting devices.console) + 2 * bit devices.disk.done + 4 * bit devices.lines.line4 + 8 * bit devices.lines.line5
    + 16 * bit devices.lines.line6

-- ---- beats

-- the devices and RAM after a beat was due, and the beat where one was made
pub record DueBeat : Type 0 where
  pub devices : DeviceState
  pub ram : List ℕ
  pub beat : Option Beat

-- a beat is due
abbrev pub due_beat : DeviceState → List ℕ → DueBeat
due_beat devices ram =
    record {
      devices = record devices { disk = (beat_of devices.disk ram).disk };
      ram = (beat_of devices.disk ram).ram;
      beat = (beat_of devices.disk ram).beat;
    }

-- ---- registers

-- the word that a read gives
abbrev pub word_read : DeviceState → OnRead → ℕ
word_read devices on_read.Zero = 0
word_read devices on_read.WaitingByte = first_waiting devices.console.waiting
word_read devices on_read.ConsoleStatus = console_status devices.console
word_read devices on_read.Sector = devices.disk.sector
word_read devices on_read.Address = devices.disk.address
word_read devices on_read.DiskStatus = disk_status devices.disk
word_read devices on_read.Entry = devices.entry

-- the devices after a read
abbrev pub after_read : DeviceState → OnRead → DeviceState
after_read devices on_read.WaitingByte = record devices { console = after_taking devices.console }
after_read devices _ = devices

-- the devices after a read, and its word
pub record ReadOutcome : Type 0 where
  pub devices : DeviceState
  pub word : Option ℕ

abbrev pub read_from : DeviceState → Option Register → ReadOutcome
read_from devices None = record { devices = devices; word = None }
read_from devices (Some register) =
    record { devices = after_read devices register.on_read; word = Some (word_read devices register.on_read) }

-- a read at an offset; what is no register has no word
unfoldable pub read_at : DeviceState → ℕ → ReadOutcome
read_at devices at = read_from devices (register_at at)

-- the devices after a write of a word
abbrev pub after_write : DeviceState → OnWrite → ℕ → DeviceState
after_write devices on_write.Ignored value = devices
after_write devices on_write.Print value = record devices { console = with_printed devices.console (value % 256) }
after_write devices on_write.Sector value = record devices { disk = with_sector devices.disk value }
after_write devices on_write.Address value = record devices { disk = with_address devices.disk value }
after_write devices on_write.Command value = record devices { disk = after_command devices.disk value }
after_write devices on_write.ClearFlags value = record devices { disk = with_flags_cleared devices.disk }
after_write devices on_write.Halt value = devices

-- what a write comes to: the run ends with this tick, with the word as its halt code, or goes on
abbrev pub write_comes_to : OnWrite → ℕ → Wrote
write_comes_to on_write.Halt value = wrote.Halt value
write_comes_to _ value = wrote.Plain

-- the devices after a write, and what it comes to
pub record WriteOutcome : Type 0 where
  pub devices : DeviceState
  pub wrote : Option Wrote

abbrev pub write_to : DeviceState → Option Register → ℕ → WriteOutcome
write_to devices None value = record { devices = devices; wrote = None }
write_to devices (Some register) value =
    record { devices = after_write devices register.on_write value; wrote = Some (write_comes_to register.on_write value) }

-- a write at an offset; what is no register takes none
unfoldable pub write_at : DeviceState → ℕ → ℕ → WriteOutcome
write_at devices at value = write_to devices (register_at at) value
