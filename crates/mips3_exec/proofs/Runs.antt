-- How a run goes on, and what every state of it keeps. These laws look at no instruction.
use Rattle.std.proofs.Common.{◌≡◌, ◌<◌, ◌+◌, ◌∙◌, ℕ, zero, suc, true, false, refl, ap, sym, arith, List, [], ◌++◌, Option, Some, None}
use Rattle.mips3_exec.specs.declared.processor.Cpu.{Cpu}
use Rattle.mips3_exec.specs.declared.talk.Request.{Request}
use Rattle.mips3_exec.specs.declared.ticking.Tick.{Tick}
use Rattle.mips3_exec.specs.declared.ticking.Tick.TheVariants.{Ran, Trapped, Halted}
use Rattle.mips3_exec.specs.Talk.{Outcome}
use Rattle.mips3_exec.specs.Tick.{Ticked, goes_on, tick_of}
use Rattle.mips3_exec.specs.Run.{Moved, stays, gathered_before, rest_of, moves_of, State, left_by, tick_from, halt_by, tick_move, gathered, nothing, ended, run_of}

-- ---- moves

module _ {S E X : Type 0} (move : S → Moved S E X) where
  -- no move is left
  pub moves_none : (n : ℕ) (state : S) → n ≡ 0 → moves_of move n state ≡ stays state None
  unfolding moves_of
  moves_none zero state e = refl
  moves_none (suc n) state e = absurd (omega arith)

  -- the run goes on after the first move
  pub moves_on : (n k : ℕ) (state : S) → n ≡ k + 1 → (move state).end ≡ None
      → moves_of move n state ≡ gathered_before (move state).gathered (moves_of move k (move state).state)
  unfolding moves_of
  moves_on zero k state e on = absurd (omega arith)
  moves_on (suc n) k state e on =
      let same : n ≡ k = omega arith in
      ap (λ end. gathered_before (move state).gathered (rest_of (moves_of move n) (move state).state end)) on
      ∙ ap (λ j. gathered_before (move state).gathered (moves_of move j (move state).state)) same

  -- the first move ends it
  pub moves_end : (n : ℕ) (state : S) (end : E) → 0 < n → (move state).end ≡ Some end
      → moves_of move n state ≡ gathered_before (move state).gathered (stays (move state).state (Some end))
  unfolding moves_of
  moves_end zero state end lt is = absurd (omega arith)
  moves_end (suc n) state end lt is = ap (λ end. gathered_before (move state).gathered (rest_of (moves_of move n) (move state).state end)) is

  rest_keeps : (P : S → Type 0) (next : S → Moved S E X) → ((state : S) → P state → P (next state).state) → (state : S) (end : Option E) → P state
      → P (rest_of next state end).state
  rest_keeps P next keeps state None p = keeps state p
  rest_keeps P next keeps state (Some end) p = p

  -- what each move keeps, a run keeps
  pub moves_keep : (P : S → Type 0) → ((state : S) → P state → P (move state).state) → (n : ℕ) (state : S) → P state → P (moves_of move n state).state
  unfolding moves_of
  moves_keep P keeps zero state p = p
  moves_keep P keeps (suc n) state p = rest_keeps P (moves_of move n) (moves_keep P keeps n) (move state).state (move state).end (keeps state p)

-- ---- ticks

-- a tick after which a run goes on does not end it
pub goes_with : (answer : Tick) → goes_on answer ≡ true → halt_by answer ≡ None
goes_with Ran on = refl
goes_with (Trapped code) on = refl
goes_with (Halted code) on = absurd cc

-- and another one does, with its halt code
pub record HaltsWith (answer : Tick) : Type 0 where
  pub code : ℕ
  pub is : answer ≡ Halted code

pub halts_with : (answer : Tick) → goes_on answer ≡ false → HaltsWith answer
halts_with Ran off = absurd cc
halts_with (Trapped code) off = absurd cc
halts_with (Halted code) off = record { code = code; is = refl }

-- the parts of two ends that are the same
pub same_answer : {M : Type 0} (one other : Ticked M) → one ≡ other → one.answer ≡ other.answer
same_answer {M = M} one other is = ap (λ (t : Ticked M). t.answer) is

pub same_cpu : {M : Type 0} (one other : Ticked M) → one ≡ other → one.cpu ≡ other.cpu
same_cpu {M = M} one other is = ap (λ (t : Ticked M). t.cpu) is

pub same_memory : {M : Type 0} (one other : Ticked M) → one ≡ other → one.memory ≡ other.memory
same_memory {M = M} one other is = ap (λ (t : Ticked M). t.memory) is

module _ {M : Type 0} (ask : M → Request → Outcome M) where
  -- no tick is left
  pub run_none : (n : ℕ) (state : State M) → n ≡ 0 → run_of ask n state ≡ record { cpu = state.cpu; memory = state.memory; answer = Ran }
  unfolding run_of
  run_none n state e = ap ended (moves_none (tick_move ask nothing) n state e)

  -- the run goes on after the first tick
  pub run_ran : (n k : ℕ) (state : State M) → n ≡ k + 1 → goes_on (tick_from ask state).answer ≡ true
      → run_of ask n state ≡ run_of ask k (left_by (tick_from ask state))
  unfolding run_of
  run_ran n k state e on = ap ended (moves_on (tick_move ask nothing) n k state e (goes_with (tick_from ask state).answer on))

  -- the first tick is the last
  pub run_stopped : (n : ℕ) (state : State M) → 0 < n → goes_on (tick_from ask state).answer ≡ false → run_of ask n state ≡ tick_from ask state
  unfolding run_of
  run_stopped n state lt off =
      let ticked : Ticked M = tick_from ask state in
      let halts : HaltsWith ticked.answer = halts_with ticked.answer off in
      ap ended (moves_end (tick_move ask nothing) n state halts.code lt (ap halt_by halts.is))
      ∙ ap (λ answer. record { cpu = ticked.cpu; memory = ticked.memory; answer = answer }) (sym halts.is)

  -- what is known of a processor, a memory system and an answer after a tick
  pub record HasTicked (cpu : Cpu) (memory : M) (cpu-after : Cpu) (memory-after : M) (answer : Tick) : Type 0 where
    pub cpu_is : cpu-after ≡ (tick_of ask memory cpu).cpu
    pub memory_is : memory-after ≡ (tick_of ask memory cpu).memory
    pub answer_is : answer ≡ (tick_of ask memory cpu).answer

  -- the run goes on from there, or has come to its end
  pub runs_from : (n k : ℕ) (cpu cpu-after : Cpu) (memory memory-after : M) (answer : Tick) → HasTicked cpu memory cpu-after memory-after answer → n ≡ k + 1
      → goes_on answer ≡ true → run_of ask n (record { cpu = cpu; memory = memory }) ≡ run_of ask k (record { cpu = cpu-after; memory = memory-after })
  runs_from n k cpu cpu-after memory memory-after answer is e on =
      run_ran n k (record { cpu = cpu; memory = memory }) e (ap goes_on (sym is.answer_is) ∙ on)
      ∙ ap (λ (c : Cpu). run_of ask k (record { cpu = c; memory = (tick_of ask memory cpu).memory })) (sym is.cpu_is)
      ∙ ap (λ (m : M). run_of ask k (record { cpu = cpu-after; memory = m })) (sym is.memory_is)

  pub ends_there : (n : ℕ) (cpu cpu-after : Cpu) (memory memory-after : M) (answer : Tick) → HasTicked cpu memory cpu-after memory-after answer → 0 < n
      → goes_on answer ≡ false → run_of ask n (record { cpu = cpu; memory = memory }) ≡ record { cpu = cpu-after; memory = memory-after; answer = answer }
  ends_there n cpu cpu-after memory memory-after answer is lt off =
      run_stopped n (record { cpu = cpu; memory = memory }) lt (ap goes_on (sym is.answer_is) ∙ off)
      ∙ ap (λ (c : Cpu). record { cpu = c; memory = (tick_of ask memory cpu).memory; answer = (tick_of ask memory cpu).answer }) (sym is.cpu_is)
      ∙ ap (λ (m : M). record { cpu = cpu-after; memory = m; answer = (tick_of ask memory cpu).answer }) (sym is.memory_is)
      ∙ ap (λ (a : Tick). record { cpu = cpu-after; memory = memory-after; answer = a }) (sym is.answer_is)

  module _ {X : Type 0} (told : State M → List X) where
    pub gathered_none : (n : ℕ) (state : State M) → n ≡ 0 → gathered ask told n state ≡ []
    unfolding gathered
    gathered_none n state e = ap (λ (moved : Moved (State M) ℕ X). moved.gathered) (moves_none (tick_move ask told) n state e)

    pub gathered_ran : (n k : ℕ) (state : State M) → n ≡ k + 1 → goes_on (tick_from ask state).answer ≡ true
        → gathered ask told n state ≡ told state ++ gathered ask told k (left_by (tick_from ask state))
    unfolding gathered
    gathered_ran n k state e on =
        ap (λ (moved : Moved (State M) ℕ X). moved.gathered) (moves_on (tick_move ask told) n k state e (goes_with (tick_from ask state).answer on))

    rest_same : (one : State M → Moved (State M) ℕ X) (other : State M → Moved (State M) ℕ (Unit {0})) → ((state : State M) → ended (one state) ≡ ended (other state))
        → (state : State M) (end : Option ℕ) → ended (rest_of one state end) ≡ ended (rest_of other state end)
    rest_same one other same state None = same state
    rest_same one other same state (Some code) = refl

    -- what is gathered does not change the run
    pub same_run : (n : ℕ) (state : State M) → ended (moves_of (tick_move ask told) n state) ≡ run_of ask n state
    unfolding run_of moves_of
    same_run zero state = refl
    same_run (suc n) state =
        rest_same (moves_of (tick_move ask told) n) (moves_of (tick_move ask nothing) n) (same_run n) (left_by (tick_from ask state)) (halt_by (tick_from ask state).answer)
