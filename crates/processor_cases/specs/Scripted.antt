-- The memory system of a case: the replies that the case names, whatever the address. It keeps the last fetch and the last access to
-- data, so that a case can tell which were made.
use Rattle.std.specs.Prelude.{ℕ, ◌%◌, ◌^◌, Some}
use Rattle.mips3_exec.specs.declared.talk.Request.{Request}
use Rattle.mips3_exec.specs.declared.talk.Request.TheVariants.{Inputs, Beat, Levels, Fetch, Load, Store, Cache}
use Rattle.mips3_exec.specs.declared.talk.Reply.{Reply}
use Rattle.mips3_exec.specs.declared.talk.Reply.TheVariants as reply
use Rattle.mips3_exec.specs.Talk.{Outcome}
use Rattle.processor_cases.specs.declared.scripted.Manner.{Manner}
use Rattle.processor_cases.specs.declared.scripted.Manner.TheVariants.{Serves, Refuses, Surprises, Ends}
use Rattle.processor_cases.specs.declared.scripted.Scripted.{Scripted}

-- the reply to a fetch or a load in a manner; none ends the run, so that a memory that ends runs serves it
abbrev pub read_in : Manner → ℕ → Reply
read_in Serves value = reply.Value value
read_in Refuses value = reply.BusError
read_in Surprises value = reply.Coherency
read_in (Ends code) value = reply.Value value

-- the reply to a store in a manner
abbrev pub stored_in : Manner → Reply
stored_in Serves = reply.Stored
stored_in Refuses = reply.BusError
stored_in Surprises = reply.Coherency
stored_in (Ends code) = reply.Halt code

-- the memory system after an access to data, and its reply
abbrev pub touched_by : Scripted → Request → Reply → Outcome Scripted
touched_by memory request answer = record { memory = record memory { touched = Some request }; reply = answer }

-- what it does at a request; a cache operation leaves TagLo as it was, in every manner
unfoldable pub scripted_ask : Scripted → Request → Outcome Scripted
scripted_ask memory (Inputs tick) = record { memory = memory; reply = reply.Done }
scripted_ask memory Beat = record { memory = memory; reply = reply.Done }
scripted_ask memory Levels = record { memory = memory; reply = reply.Levels (memory.levels % 32) }
scripted_ask memory (Fetch access) =
    record { memory = record memory { fetched = Some access }; reply = read_in memory.fetching memory.word }
scripted_ask memory (Load access size) = touched_by memory (Load access size) (read_in memory.touching (memory.bytes % 256 ^ size))
scripted_ask memory (Store access size value) = touched_by memory (Store access size value) (stored_in memory.touching)
scripted_ask memory (Cache access code tag) = touched_by memory (Cache access code tag) (reply.Tag tag)
