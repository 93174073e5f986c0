-- Runs of the flat machine: one of ticks alone, and one that is paused at the ticks of a list.
-- Source: this project's own.
use Rattle.std.specs.Prelude.{ℕ, ◌==◌, Bool, true, nat_le, List, [], ◌++◌, Option, Some, None, if◌then◌else◌}
use Rattle.std.specs.List.{find}
use Rattle.flat_machine.specs.declared.flat_state.Flat.{Flat}
use Rattle.mips3_exec.specs.Run.{Moved, stays, run_of}
use Rattle.mips3_exec.specs.Run as runs
use Rattle.flat_machine.specs.FlatMemory.{flat_ask}
use Rattle.flat_machine.specs.FlatMachine.{Reached, reached, beside_memory, flat_tick_of}
use Rattle.flat_machine.specs.Pause.{pause_of}
use Rattle.flat_machine.specs.Reads.{Read, tick_reads}

-- ---- ticks alone

-- the end of a run of at most so many ticks, held with flat memory
unfoldable pub flat_run_of : ℕ → Flat → Reached
flat_run_of n flat = reached (run_of flat_ask n (beside_memory flat))

-- ---- with pauses

-- a pause of a run: the tick at which it begins, whether it is one of a fetch, and its address
pub record Pause : Type 0 where
  pub tick : ℕ
  pub fetch : Bool
  pub va : ℕ

-- the pause that begins at a tick: the first of the list that does
abbrev pub pause_at : List Pause → ℕ → Option Pause
pause_at pauses tick = find (λ (pause : Pause). pause.tick == tick) pauses

-- a flat machine, and what was read on the way to it
pub record ReadTo : Type 0 where
  pub flat : Flat
  pub reads : List Read

-- one move of a run: the pause, in which nothing is read, or a tick
abbrev pub move : Flat → Option Pause → ReadTo
move flat (Some pause) = record { flat = pause_of pause.fetch pause.va flat; reads = [] }
move flat None = record { flat = (flat_tick_of flat).flat; reads = tick_reads flat_ask flat.memory flat.cpu }

abbrev pub move_of : List Pause → Flat → ReadTo
move_of pauses flat = move flat (pause_at pauses flat.cpu.ticks)

-- reads that come before others
abbrev pub read_before : List Read → ReadTo → ReadTo
read_before reads rest = record { flat = rest.flat; reads = reads ++ rest.reads }

-- a run has ended at a halt, and once its ticks are made
abbrev pub has_ended : ℕ → Flat → Option ℕ → Bool
has_ended ticks flat (Some code) = true
has_ended ticks flat None = nat_le ticks flat.cpu.ticks

-- a move after which the run may go on, of which the reads are gathered
abbrev pub going : ReadTo → Moved Flat (Unit {0}) Read
going to = record { state = to.flat; gathered = to.reads; end = None }

-- one move, unless the run has ended
abbrev pub move_unless_ended : ℕ → List Pause → Flat → Moved Flat (Unit {0}) Read
move_unless_ended ticks pauses flat = if has_ended ticks flat flat.cpu.halt then stays flat (Some tt) else going (move_of pauses flat)

-- the flat machine after some moves, and what was read in them
abbrev pub read_to : Moved Flat (Unit {0}) Read → ReadTo
read_to moved = record { flat = moved.state; reads = moved.gathered }

-- the run in so many moves, which ends at a halt or once so many ticks are made
unfoldable pub moves_of : ℕ → ℕ → List Pause → Flat → ReadTo
moves_of n ticks pauses flat = read_to (runs.moves_of (move_unless_ended ticks pauses) n flat)

-- The run that makes a pause at each tick where one of the list begins and a tick at all others, up to a halt or so many ticks. Every
-- move makes a tick at least, so it needs no more moves than ticks.
unfoldable pub paused_run_of : List Pause → ℕ → Flat → ReadTo
paused_run_of pauses ticks flat = moves_of ticks ticks pauses flat
