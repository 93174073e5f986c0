-- The reads of a run: what each fetch and each load that a step carries out has read. They are defined over any memory system, so
-- that those of two machines can be compared.
-- Source: this project's own.
use Rattle.std.specs.Prelude.{ℕ, List, [], ◌∷◌, ◌++◌, Option, Some, None}
use Rattle.mips3_exec.specs.declared.processor.Cpu.{Cpu}
use Rattle.mips3_exec.specs.declared.talk.Access.{Access}
use Rattle.mips3_exec.specs.declared.talk.Request.{Request}
use Rattle.mips3_exec.specs.declared.talk.Request.TheVariants.{Fetch, Load}
use Rattle.mips3_exec.specs.declared.talk.Reply.{Reply}
use Rattle.mips3_exec.specs.declared.talk.Reply.TheVariants.{Value}
use Rattle.mips3_exec.specs.Talk.{Talk, Done, Ask, Outcome}
use Rattle.mips3_exec.specs.Tick.{tick_talk}

-- the tick of a read, the virtual address of its lowest byte, how many bytes, and their value, the first one highest
pub record Read : Type 0 where
  pub tick : ℕ
  pub va : ℕ
  pub size : ℕ
  pub value : ℕ

-- an access that was replied with a value is a read; one that took an exception is none
abbrev pub if_value : ℕ → Access → ℕ → Reply → List Read
if_value tick access size (Value value) = record { tick = tick; va = access.va; size = size; value = value } ∷ []
if_value tick access size _ = []

-- what was read by a request and its reply
abbrev pub read_by : ℕ → Request → Reply → List Read
read_by tick (Fetch access) reply = if_value tick access 4 reply
read_by tick (Load access size) reply = if_value tick access size reply
read_by tick _ reply = []

-- the reads of a talk with a memory system, in order
abbrev pub talk_reads : {M : Type 0} → (M → Request → Outcome M) → M → ℕ → Talk → List Read
talk_reads ask memory tick (Done cpu end) = []
talk_reads ask memory tick (Ask request next) =
    read_by tick request (ask memory request).reply
    ++ talk_reads ask (ask memory request).memory tick (next (ask memory request).reply)

-- those of the next tick of a processor over a memory system; one that has halted reads nothing
abbrev pub reads_unless_halted : {M : Type 0} → (M → Request → Outcome M) → M → Cpu → Option ℕ → List Read
reads_unless_halted ask memory cpu (Some code) = []
reads_unless_halted ask memory cpu None = talk_reads ask memory cpu.ticks (tick_talk cpu)

unfoldable pub tick_reads : {M : Type 0} → (M → Request → Outcome M) → M → Cpu → List Read
tick_reads ask memory cpu = reads_unless_halted ask memory cpu cpu.halt
