-- A run over any memory system: it makes moves from a state on, up to one that ends it or a bound on their number, and gathers
-- something of each. A machine, a flat machine and a bench run by this one definition.
-- Source: this project's own; that a run goes on from the state that its last move left is the usual small-step semantics.
use Rattle.std.specs.Prelude.{ℕ, zero, suc, List, [], ◌++◌, Option, Some, None}
use Rattle.mips3_exec.specs.declared.processor.Cpu.{Cpu}
use Rattle.mips3_exec.specs.declared.talk.Request.{Request}
use Rattle.mips3_exec.specs.declared.ticking.Tick.{Tick}
use Rattle.mips3_exec.specs.declared.ticking.Tick.TheVariants.{Ran, Trapped, Halted}
use Rattle.mips3_exec.specs.Talk.{Outcome}
use Rattle.mips3_exec.specs.Tick.{Ticked, tick_of}

-- ---- moves

-- what one move or several come to: the state that they leave, what is gathered of them, and how the run ends with them, if it does
pub record Moved (S E X : Type 0) : Type 0 where
  pub state : S
  pub gathered : List X
  pub end : Option E

-- no move more is made
abbrev pub stays : {S E X : Type 0} → S → Option E → Moved S E X
stays state end = record { state = state; gathered = []; end = end }

-- moves, with what was gathered before them
abbrev pub gathered_before : {S E X : Type 0} → List X → Moved S E X → Moved S E X
gathered_before before moved = record { state = moved.state; gathered = before ++ moved.gathered; end = moved.end }

-- the rest of a run after a move: it goes on from the state that the move left, and where the move ended the run there is none
abbrev pub rest_of : {S E X : Type 0} → (S → Moved S E X) → S → Option E → Moved S E X
rest_of next state None = next state
rest_of next state (Some end) = stays state (Some end)

-- at most so many moves from a state on
unfoldable pub moves_of : {S E X : Type 0} → (S → Moved S E X) → ℕ → S → Moved S E X
moves_of move zero state = stays state None
moves_of move (suc n) state = gathered_before (move state).gathered (rest_of (moves_of move n) (move state).state (move state).end)

-- ---- ticks

-- a processor beside a memory system
pub record State (M : Type 0) : Type 0 where
  pub cpu : Cpu
  pub memory : M

-- the processor and the memory system after a tick
abbrev pub left_by : {M : Type 0} → Ticked M → State M
left_by ticked = record { cpu = ticked.cpu; memory = ticked.memory }

-- the next tick of a state
abbrev pub tick_from : {M : Type 0} → (M → Request → Outcome M) → State M → Ticked M
tick_from ask state = tick_of ask state.memory state.cpu

-- the halt code with which a run ends after a tick, where it does not go on
abbrev pub halt_by : Tick → Option ℕ
halt_by Ran = None
halt_by (Trapped code) = None
halt_by (Halted code) = Some code

-- the tick as a move of which something is gathered, by the state before it
abbrev pub tick_move : {M X : Type 0} → (M → Request → Outcome M) → (State M → List X) → State M → Moved (State M) ℕ X
tick_move ask told state =
    record { state = left_by (tick_from ask state); gathered = told state; end = halt_by (tick_from ask state).answer }

-- what is gathered in a run of at most so many ticks: of each tick what is told of the state before it, as its events or its reads
unfoldable pub gathered : {M X : Type 0} → (M → Request → Outcome M) → (State M → List X) → ℕ → State M → List X
gathered ask told n state = (moves_of (tick_move ask told) n state).gathered

-- a run of which nothing is gathered
abbrev pub nothing : {M : Type 0} → State M → List (Unit {0})
nothing state = []

-- the answer of a run: it ran, or it has ended with a halt code
abbrev pub answer_by : Option ℕ → Tick
answer_by None = Ran
answer_by (Some code) = Halted code

-- the end of a run, with its answer
abbrev pub ended : {M X : Type 0} → Moved (State M) ℕ X → Ticked M
ended moved = record { cpu = moved.state.cpu; memory = moved.state.memory; answer = answer_by moved.end }

-- the end of a run of at most so many ticks, up to one that halts
unfoldable pub run_of : {M : Type 0} → (M → Request → Outcome M) → ℕ → State M → Ticked M
run_of ask n state = ended (moves_of (tick_move ask nothing) n state)
