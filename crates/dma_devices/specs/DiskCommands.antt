-- The disk and its direct memory access. A command moves one sector of 512 bytes between the disk and RAM, in 16 beats of 32 bytes.
-- Source: this project's own device.
use Rattle.std.specs.Prelude.{ℕ, ◌≡◌, ◌==◌, ◌+◌, ◌-◌, ◌*◌, ◌/◌, ◌%◌, ◌<◌, ◌≤◌, Bool, true, false, not, ◌&&◌, nat_lt, nat_le, List, map, length, slice_get, Option, Some, None, is_some, IfSome, if◌then◌else◌}
use Rattle.std.specs.List.{range_with_len}
use Rattle.flat_ram.specs.Map.{ram_size}
use Rattle.flat_ram.specs.Bytes.{bytes_at, put_bytes}
use Rattle.dma_devices.specs.declared.transfers.Command.{Command}
use Rattle.dma_devices.specs.declared.transfers.Transfer.{Transfer}
use Rattle.dma_devices.specs.declared.transfers.Beat.{Beat}
use Rattle.dma_devices.specs.ConsoleBytes.{bit}

abbrev pub sector_size : ℕ
sector_size = 512

abbrev pub beat_size : ℕ
beat_size = 32

abbrev pub beats_per_sector : ℕ
beats_per_sector = 16

-- the largest disk
abbrev pub largest_disk : ℕ
largest_disk = 33554432

-- the disk at a moment
pub record DiskState : Type 0 where
  -- the bytes of the disk
  pub bytes : List ℕ
  -- the registers SECT and ADDR
  pub sector : ℕ
  pub address : ℕ
  -- how the last command ended
  pub done : Bool
  pub error : Bool
  -- whether the disk makes no beats
  pub held : Bool
  -- the command in progress
  pub command : Option Command

-- the disk of these bytes at reset
abbrev pub new_disk : List ℕ → DiskState
new_disk bytes =
    record { bytes = bytes; sector = 0; address = 0; done = false; error = false; held = false; command = None }

-- the disk's status: bit 0 says that a command is in progress, bit 1 done, bit 2 error
abbrev pub disk_status : DiskState → ℕ
disk_status disk = bit (is_some disk.command) + 2 * bit disk.done + 4 * bit disk.error

-- ---- what a command stands for

-- the beat of a command at a place in their order
abbrev pub transfer_at : Command → ℕ → Transfer
transfer_at command place =
    record {
      out = command.out;
      offset = command.sector * sector_size + beat_size * place;
      pa = command.address + beat_size * place;
    }

-- the beats of a command: which way each goes, where its bytes stand on the disk, and where in RAM
unfoldable pub transfers_of : Command → List Transfer
transfers_of command = map (transfer_at command) (range_with_len 0 beats_per_sector)

-- the disk's bytes after a beat: those from RAM stand in their place, where it goes out of RAM
abbrev pub disk_after : Transfer → List ℕ → List ℕ → List ℕ
disk_after transfer disk ram =
    if transfer.out then put_bytes disk transfer.offset (bytes_at ram transfer.pa beat_size) else disk

-- RAM after a beat: the bytes from the disk stand in their place, where it goes into RAM
abbrev pub ram_after : Transfer → List ℕ → List ℕ → List ℕ
ram_after transfer disk ram =
    if transfer.out then ram else put_bytes ram transfer.pa (bytes_at disk transfer.offset beat_size)

-- ---- the start of a command

-- the sector of SECT is a whole sector of the disk, and the 512 bytes from ADDR on lie in RAM
abbrev pub can_start : DiskState → Bool
can_start disk = nat_lt disk.sector (length disk.bytes / sector_size) && nat_le (disk.address + sector_size) ram_size

-- a command with the registers' values, of which no beat is made
abbrev pub command_of : DiskState → Bool → Command
command_of disk out = record { out = out; sector = disk.sector; address = disk.address; made = 0 }

-- the disk after a command was given: it is in progress, or done with an error at once where it can't start
abbrev pub started : DiskState → Bool → DiskState
started disk out =
    if can_start disk then record disk { done = false; error = false; command = Some (command_of disk out) }
    else record disk { done = true; error = true }

-- the disk after a write of CMD: 1 is a command from the disk to RAM, 2 one from RAM to the disk; other values, and all
-- while a command is in progress, change nothing
abbrev pub after_command : DiskState → ℕ → DiskState
after_command disk value =
    if is_some disk.command then disk
    else if value == 1 then started disk false
    else if value == 2 then started disk true
    else disk

-- ---- the other registers

-- the disk after a write of SECT
abbrev pub with_sector : DiskState → ℕ → DiskState
with_sector disk value = record disk { sector = value }

-- the disk after a write of ADDR, whose low 5 bits are cleared
abbrev pub with_address : DiskState → ℕ → DiskState
with_address disk value = record disk { address = value - value % beat_size }

-- the disk after a write of DSTAT
abbrev pub with_flags_cleared : DiskState → DiskState
with_flags_cleared disk = record disk { done = false; error = false }

-- the disk after it was held or let go
abbrev pub with_hold : DiskState → Bool → DiskState
with_hold disk held = record disk { held = held }

-- ---- a beat

-- the disk and RAM after a beat was due, and the beat where one was made
pub record BeatOutcome : Type 0 where
  pub disk : DiskState
  pub ram : List ℕ
  pub beat : Option Beat

-- no beat is made
abbrev pub no_beat : DiskState → List ℕ → BeatOutcome
no_beat disk ram = record { disk = disk; ram = ram; beat = None }

-- the command after its next beat was made: it goes on while beats are left
abbrev pub gone_on : DiskState → Command → DiskState
gone_on disk command =
    if nat_lt (command.made + 1) (length (transfers_of command))
    then record disk { command = Some (record command { made = command.made + 1 }) }
    else record disk { command = None; done = true }

-- a beat of a command is made
abbrev pub made_beat : DiskState → List ℕ → Command → Option Transfer → BeatOutcome
made_beat disk ram command None = no_beat disk ram
made_beat disk ram command (Some transfer) =
    record {
      disk = gone_on (record disk { bytes = disk_after transfer disk.bytes ram }) command;
      ram = ram_after transfer disk.bytes ram;
      beat = Some (record { out = transfer.out; pa = transfer.pa });
    }

-- the next beat of the command in progress
abbrev pub next_beat : DiskState → List ℕ → Option Command → BeatOutcome
next_beat disk ram None = no_beat disk ram
next_beat disk ram (Some command) = made_beat disk ram command (slice_get (transfers_of command) command.made)

-- a beat can be made: a command is in progress, and the disk is not held
abbrev pub can_beat : DiskState → Bool
can_beat disk = is_some disk.command && not disk.held

-- a beat is due: the next one of the command in progress is made, where there is one and the disk is not held
unfoldable pub beat_of : DiskState → List ℕ → BeatOutcome
beat_of disk ram = if disk.held then no_beat disk ram else next_beat disk ram disk.command

-- ---- what a disk keeps

-- a command in progress: its sector is on the disk, its bytes lie in RAM on a multiple of 32, and a beat is left
pub record IsInProgress (size : ℕ) (command : Command) : Type 0 where
  pub on_disk : command.sector * sector_size + sector_size ≤ size
  pub in_ram : command.address + sector_size ≤ ram_size
  pub aligned : command.address % beat_size ≡ 0
  pub left : command.made < beats_per_sector

-- what is kept of a disk
pub record IsDisk (size address : ℕ) (command : Option Command) : Type 0 where
  pub small : size ≤ largest_disk
  pub aligned : address % beat_size ≡ 0
  pub command_fits : IfSome command (IsInProgress size)
