-- Memory without caches: RAM is one list of bytes, which every access to RAM reads or writes, whatever its attribute. The attribute
-- of an access decides bus errors alone: a cached one reaches nothing but RAM. The PROM, the devices and the physical map are those of
-- every machine of this project.
-- Source: this project's own; the memory of the MIPS R4000 Microprocessor User's Manual, 2nd edition (Heinrich), as a program sees it
-- that keeps its caches in order.
use Rattle.std.specs.Prelude.{ℕ, Bool, ◌==◌, ◌-◌, ◌/◌, ◌%◌, ◌^◌, ◌&&◌, slice_index, Option, Some, None, if◌then◌else◌}
use Rattle.std.specs.Int.{bytes_high_first}
use Rattle.flat_ram.specs.Bytes.{number_at, number_in_words, put_bytes}
use Rattle.flat_ram.specs.Map.{prom_base, device_base, spot_of}
use Rattle.flat_ram.specs.declared.map.Spot.{Spot}
use Rattle.flat_ram.specs.declared.map.Spot.TheVariants.{Ram, Prom, Device, Empty}
use Rattle.dma_devices.specs.DeviceSet.{DeviceState, DueBeat, due_beat, ReadOutcome, read_at, WriteOutcome, write_at, levels_of}
use Rattle.dma_devices.specs.RecordedInputs.{applied}
use Rattle.dma_devices.specs.declared.transfers.Beat.{Beat}
use Rattle.dma_devices.specs.declared.register_file.Wrote.{Wrote}
use Rattle.dma_devices.specs.declared.register_file.Wrote.TheVariants as wrote
use Rattle.flat_machine.specs.declared.flat_memory.FlatMemory.{FlatMemory}
use Rattle.mips3_exec.specs.declared.talk.Access.{Access}
use Rattle.mips3_exec.specs.declared.talk.Request.{Request}
use Rattle.mips3_exec.specs.declared.talk.Request.TheVariants as request
use Rattle.mips3_exec.specs.declared.talk.Reply.{Reply}
use Rattle.mips3_exec.specs.declared.talk.Reply.TheVariants as reply
use Rattle.mips3_exec.specs.Talk.{Outcome}

-- a reply that leaves memory as it is
abbrev pub replied : FlatMemory → Reply → Outcome FlatMemory
replied memory answer = record { memory = memory; reply = answer }

-- the memory with these devices; the inputs that are still to come stay
abbrev pub with_devices : FlatMemory → DeviceState → FlatMemory
with_devices memory devices = record memory { devices = record memory.devices { devices = devices } }

-- ---- what an access reaches

-- of what stands at an address, RAM alone
abbrev pub ram_alone : Spot → Spot
ram_alone Ram = Ram
ram_alone _ = Empty

-- what stands at the address of an access: for a cached one there is RAM and nothing else
abbrev pub reached_by : Access → Spot
reached_by access = if access.cached then ram_alone (spot_of access.pa) else spot_of access.pa

-- ---- devices

-- a device register is reached as one aligned word
abbrev pub is_word : ℕ → ℕ → Bool
is_word pa size = (size == 4) && (pa % 4 == 0)

-- the reply to a read of a register; what is no register is a bus error
abbrev pub word_reply : Option ℕ → Reply
word_reply (Some word) = reply.Value word
word_reply None = reply.BusError

abbrev pub register_read : FlatMemory → ReadOutcome → Outcome FlatMemory
register_read memory read = record { memory = with_devices memory read.devices; reply = word_reply read.word }

-- the reply to a write of a register; what is no register is a bus error
abbrev pub wrote_reply : Option Wrote → Reply
wrote_reply (Some wrote.Plain) = reply.Stored
wrote_reply (Some (wrote.Halt code)) = reply.Halt code
wrote_reply None = reply.BusError

abbrev pub register_written : FlatMemory → WriteOutcome → Outcome FlatMemory
register_written memory write = record { memory = with_devices memory write.devices; reply = wrote_reply write.wrote }

-- the reply to a beat that was due: which way it went, and where in RAM
abbrev pub beat_reply : Option Beat → Reply
beat_reply (Some beat) = reply.Moved beat.out beat.pa
beat_reply None = reply.Done

abbrev pub beat_made : FlatMemory → DueBeat → Outcome FlatMemory
beat_made memory due = record { memory = record (with_devices memory due.devices) { ram = due.ram }; reply = beat_reply due.beat }

-- ---- fetches, loads and stores

-- the word at an address; no instruction is fetched from a device
abbrev pub fetched_from : FlatMemory → ℕ → Spot → Reply
fetched_from memory pa Ram = reply.Value (number_at memory.ram pa 4)
fetched_from memory pa Prom = reply.Value (slice_index memory.prom.words ((pa - prom_base) / 4))
fetched_from memory pa _ = reply.BusError

-- so many bytes at an address
abbrev pub loaded_from : FlatMemory → ℕ → ℕ → Spot → Outcome FlatMemory
loaded_from memory pa size Ram = replied memory (reply.Value (number_at memory.ram pa size))
loaded_from memory pa size Prom = replied memory (reply.Value (number_in_words memory.prom.words (pa - prom_base) size))
loaded_from memory pa size Device =
    if is_word pa size then register_read memory (read_at memory.devices.devices (pa - device_base)) else replied memory reply.BusError
loaded_from memory pa size Empty = replied memory reply.BusError

-- a value in so many bytes at an address; the PROM takes none
abbrev pub stored_to : FlatMemory → ℕ → ℕ → ℕ → Spot → Outcome FlatMemory
stored_to memory pa size value Ram =
    record { memory = record memory { ram = put_bytes memory.ram pa (bytes_high_first size value) }; reply = reply.Stored }
stored_to memory pa size value Device =
    if is_word pa size then register_written memory (write_at memory.devices.devices (pa - device_base) (value % 2 ^ 32))
    else replied memory reply.BusError
stored_to memory pa size value _ = replied memory reply.BusError

-- ---- all requests

-- What memory does at a request. A cache operation has nothing to work on, and leaves TagLo as it was.
unfoldable pub flat_ask : FlatMemory → Request → Outcome FlatMemory
flat_ask memory (request.Inputs tick) = record { memory = record memory { devices = applied memory.devices tick }; reply = reply.Done }
flat_ask memory request.Beat = beat_made memory (due_beat memory.devices.devices memory.ram)
flat_ask memory request.Levels = replied memory (reply.Levels (levels_of memory.devices.devices))
flat_ask memory (request.Fetch access) = replied memory (fetched_from memory access.pa (reached_by access))
flat_ask memory (request.Load access size) = loaded_from memory access.pa size (reached_by access)
flat_ask memory (request.Store access size value) = stored_to memory access.pa size value (reached_by access)
flat_ask memory (request.Cache access code tag) = replied memory (reply.Tag tag)
