-- The pause of a flat machine: what it does where a machine with a secondary cache takes a virtual coherency exception and its handler
-- runs. The ticks, and the processor as the handler leaves it, are those of any memory (mips3_exec/specs/Pausing.antt).
-- Source: this project's own.
use Rattle.std.specs.Prelude.{ℕ, zero, suc, Bool}
use Rattle.mips3_exec.specs.Pausing.{pause_talk, handled}
pub use Rattle.mips3_exec.specs.Pausing.{pause_length}
use Rattle.mips3_exec.specs.Talk.{Held, hold}
use Rattle.flat_machine.specs.declared.flat_memory.FlatMemory.{FlatMemory}
use Rattle.flat_machine.specs.declared.flat_state.Flat.{Flat}
use Rattle.flat_machine.specs.FlatMemory.{flat_ask}

-- what a talk with flat memory comes to, as a flat machine
abbrev pub flat_of : Held FlatMemory → Flat
flat_of held = record { cpu = held.cpu; memory = held.memory }

-- a pause tick of a flat machine
unfoldable pub pause_tick : Flat → Flat
pause_tick flat = flat_of (hold flat_ask flat.memory (pause_talk flat.cpu))

-- so many of them
unfoldable pub pause_ticks : ℕ → Flat → Flat
pause_ticks zero flat = flat
pause_ticks (suc n) flat = pause_ticks n (pause_tick flat)

-- the flat machine with the processor as the handler leaves it
abbrev pub handled_flat : Bool → ℕ → Flat → Flat
handled_flat fetch va flat = record flat { cpu = handled fetch va flat.cpu }

-- the pause at an address, of a fetch or of an access to data
unfoldable pub pause_of : Bool → ℕ → Flat → Flat
pause_of fetch va flat = handled_flat fetch va (pause_ticks (pause_length fetch) flat)
