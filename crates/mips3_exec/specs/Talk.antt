-- A processor's talk with a memory system. What a processor does in a tick is said without any memory: it is done,
-- or it asks one request and goes on with the reply. A memory system is a type with a function from what it is and
-- a request to what it is then and its reply. This is the free-monad form of an instruction set's semantics, as Sail
-- has it for its models.
use Rattle.std.specs.Prelude.{ℕ, Bool, true, ◌≡◌, ◌==◌, ◌&&◌, nat_lt, nat_le, ◌<◌, ◌+◌, ◌%◌, ◌^◌}
use Rattle.mips3_exec.specs.declared.processor.Cpu.{Cpu}
use Rattle.mips3_exec.specs.declared.talk.Access.{Access}
use Rattle.mips3_exec.specs.declared.talk.StepEnd.{StepEnd}
use Rattle.mips3_exec.specs.declared.talk.Request.{Request}
use Rattle.mips3_exec.specs.declared.talk.Request.TheVariants.{Inputs, Beat, Levels, Fetch, Load, Store, Cache}
use Rattle.mips3_exec.specs.declared.talk.Reply.{Reply}
use Rattle.mips3_exec.specs.declared.talk.Reply.TheVariants as reply

-- a talk: done with this processor, and how it ended, or one request and how it goes on
pub data Talk : Type 0 where
  Done : Cpu → StepEnd → Talk
  Ask : Request → (Reply → Talk) → Talk

-- what a memory system is after a request, and its reply
pub record Outcome (M : Type 0) : Type 0 where
  pub memory : M
  pub reply : Reply

-- what a talk comes to: the processor and the memory system afterwards, and how it ended
pub record Held (M : Type 0) : Type 0 where
  pub cpu : Cpu
  pub end : StepEnd
  pub memory : M

-- a talk held with one memory system
abbrev pub hold : {M : Type 0} → (M → Request → Outcome M) → M → Talk → Held M
hold ask memory (Done cpu end) = record { cpu = cpu; end = end; memory = memory }
hold ask memory (Ask request next) = hold ask (ask memory request).memory (next (ask memory request).reply)

-- a talk, and what comes after it, by the processor and the end that it has then
abbrev pub and_then : Talk → (Cpu → StepEnd → Talk) → Talk
and_then (Done cpu end) more = more cpu end
and_then (Ask request next) more = Ask request (λ reply. and_then (next reply) more)

-- the bytes of an access lie in one aligned doubleword, at a physical address of 36 bits whose place in its page is the
-- virtual one's
abbrev pub is_access : Access → ℕ → Bool
is_access access size =
    (access.va % 4096 == access.pa % 4096) && (nat_lt access.pa (2 ^ 36) && (nat_le 1 size && nat_le (access.pa % 8 + size) 8))

-- the requests that a processor makes
abbrev pub is_asked : Request → Bool
is_asked (Inputs tick) = true
is_asked Beat = true
is_asked Levels = true
is_asked (Fetch access) = is_access access 4 && (access.pa % 4 == 0)
is_asked (Load access size) = is_access access size
is_asked (Store access size value) = is_access access size && nat_lt value (256 ^ size)
is_asked (Cache access code tag) = is_access access 1 && nat_lt code 32

pub record IsAsked (request : Request) : Type 0 where
  pub is : is_asked request ≡ true

-- ---- the replies that each kind of request may have

-- the inputs are applied
abbrev pub IsInputsReply : Reply → Type 0
IsInputsReply reply.Done = Unit {0}
IsInputsReply _ = ⊥

-- a beat is made, or none is due
abbrev pub IsBeatReply : Reply → Type 0
IsBeatReply reply.Done = Unit {0}
IsBeatReply (reply.Moved out pa) = Unit {0}
IsBeatReply _ = ⊥

-- the levels of five lines
abbrev pub IsLevelsReply : Reply → Type 0
IsLevelsReply (reply.Levels levels) = levels < 32
IsLevelsReply _ = ⊥

-- a fetch or a load: a value below a bound, or an exception of memory
abbrev pub IsReadReply : ℕ → Reply → Type 0
IsReadReply bound (reply.Value value) = value < bound
IsReadReply bound reply.BusError = Unit {0}
IsReadReply bound reply.Coherency = Unit {0}
IsReadReply bound _ = ⊥

-- a store: it was made, as the last one of the run too, or an exception of memory
abbrev pub IsStoreReply : Reply → Type 0
IsStoreReply reply.Stored = Unit {0}
IsStoreReply (reply.Halt code) = Unit {0}
IsStoreReply reply.BusError = Unit {0}
IsStoreReply reply.Coherency = Unit {0}
IsStoreReply _ = ⊥

-- a cache operation: the value of TagLo. Memory makes no exception of it.
abbrev pub IsCacheReply : Reply → Type 0
IsCacheReply (reply.Tag tag) = Unit {0}
IsCacheReply _ = ⊥

-- a reply that a request may have: it is of a kind that answers the request, and its numbers are in range
abbrev pub IsAnswer : Request → Reply → Type 0
IsAnswer (Inputs tick) answer = IsInputsReply answer
IsAnswer Beat answer = IsBeatReply answer
IsAnswer Levels answer = IsLevelsReply answer
IsAnswer (Fetch access) answer = IsReadReply (2 ^ 32) answer
IsAnswer (Load access size) answer = IsReadReply (256 ^ size) answer
IsAnswer (Store access size value) answer = IsStoreReply answer
IsAnswer (Cache access code tag) answer = IsCacheReply answer
