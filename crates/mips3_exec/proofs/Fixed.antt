-- No instruction changes what is fixed: each change of CP0 is a word of another number or a write under the mask of its register, and
-- a write to register 0 is lost. So a tick keeps it, and a run.
use Rattle.std.proofs.Common.{◌≡◌, refl, ◌∙◌, sym, ap, subst, ℕ, zero, suc, ◌<◌, ◌^◌, Bool, true, false, List, [], ◌∷◌, Option, Some, None, arith}
use Rattle.std.specs.Prelude.{◌==◌, ◌≢◌, ◌%◌, nat_lt, slice_index, slice_set, if◌then◌else◌}
use Rattle.mips3_table.specs.declared.instruction.Inst.{Inst}
use Rattle.mips3_table.specs.declared.operations.Operation.{Operation}
use Rattle.mips3_table.specs.declared.operations.Operation.TheVariants as operation
use Rattle.mips3_code.specs.Coding.{decoded}
use Rattle.mips3_alu.specs.declared.registers.Regs.{Regs}
use Rattle.mips3_alu.specs.Registers.{register, with_register, low_word}
use Rattle.cp0_regs.specs.Fixed as system
use Rattle.cp0_regs.specs.Moves.{written}
use Rattle.cp0_regs.specs.Modes.{takes_interrupt}
use Rattle.cp0_regs.specs.Registers.{random}
use Rattle.cp0_regs.specs.State.{word}
use Rattle.tlb_model.specs.declared.pairs.Pair.{Pair}
use Rattle.cp0_regs.proofs.Fixed as kept
use Rattle.cp0_exceptions.specs.declared.raising.Raised.{Raised}
use Rattle.cp0_exceptions.proofs.Fixed.{raised_keeps, left_keeps}
use Rattle.mips3_exec.specs.declared.processor.Cpu.{Cpu}
use Rattle.mips3_exec.specs.declared.effects.Effect.{Effect}
use Rattle.mips3_exec.specs.declared.effects.Effect.TheVariants as effect
use Rattle.mips3_exec.specs.declared.effects.Touch.{Touch}
use Rattle.mips3_exec.specs.declared.effects.Touch.TheVariants as touch
use Rattle.mips3_exec.specs.declared.routes.Route.{Route}
use Rattle.mips3_exec.specs.declared.routes.Route.TheVariants.{To, Fault}
use Rattle.mips3_exec.specs.declared.references.Reference.{Reference}
use Rattle.mips3_exec.specs.declared.talk.StepEnd.{StepEnd}
use Rattle.mips3_exec.specs.declared.talk.Request.{Request}
use Rattle.mips3_exec.specs.declared.talk.Reply.{Reply}
use Rattle.mips3_exec.specs.declared.talk.Reply.TheVariants as reply
use Rattle.mips3_exec.specs.Accesses.{is_aligned}
use Rattle.mips3_exec.specs.Effects.{operation_of, effect_of}
use Rattle.mips3_exec.specs.Fixed.{HasFixed}
use Rattle.mips3_exec.specs.Processor.{reset_cpu, taken, branched}
use Rattle.mips3_exec.specs.References.{linked, loaded, load_by, load, succeeded, stored, store_by, store, gives_up, operated, operate_by, operate, refer_by}
use Rattle.mips3_exec.specs.Routes.{route_of, address_error}
use Rattle.mips3_exec.specs.Run.{State, tick_move, nothing, run_of}
use Rattle.mips3_exec.specs.Step.{perform, refusal_of, unless_refused, carry_out_found, carry_out, fetched, fetch_by, fetch, step}
use Rattle.mips3_exec.specs.SystemControl.{controlled, with_entry, entry_at, indexed, probed, search}
use Rattle.mips3_exec.specs.Talk.{Talk, Done, Ask, Outcome, hold, and_then}
use Rattle.mips3_exec.specs.Tick.{with_levels, opened, closed, tick_talk, unless_halted, tick_of}
use Rattle.mips3_exec.proofs.Runs.{moves_keep}

module _ (value : ℕ) where
  -- a talk that ends with what is fixed, whatever is replied
  abbrev KeepsTalk : Talk → Type 0
  KeepsTalk (Done cpu end) = HasFixed value cpu
  KeepsTalk (Ask request next) = (reply : Reply) → KeepsTalk (next reply)

  held_fixed : {M : Type 0} (ask : M → Request → Outcome M) (memory : M) (talk : Talk) → KeepsTalk talk → HasFixed value (hold ask memory talk).cpu
  held_fixed ask memory (Done cpu end) keeps = keeps
  held_fixed ask memory (Ask request next) keeps = held_fixed ask (ask memory request).memory (next (ask memory request).reply) (keeps (ask memory request).reply)

  then_fixed : (talk : Talk) (more : Cpu → StepEnd → Talk) → ((cpu : Cpu) (end : StepEnd) → HasFixed value cpu → KeepsTalk (more cpu end)) → KeepsTalk talk
      → KeepsTalk (and_then talk more)
  then_fixed (Done cpu end) more goes keeps = goes cpu end keeps
  then_fixed (Ask request next) more goes keeps = λ reply. then_fixed (next reply) more goes (keeps reply)

  if_talk : (test : Bool) (one other : Talk) → KeepsTalk one → KeepsTalk other → KeepsTalk (if test then one else other)
  if_talk true one other of_one of_other = of_one
  if_talk false one other of_one of_other = of_other

  -- ---- the registers

  register_set : (registers : List ℕ) (at number : ℕ) → (at == 0) ≡ false → slice_index (slice_set registers at number) 0 ≡ slice_index registers 0
  register_set [] at number some = refl
  register_set (first ∷ rest) zero number some = absurd cc
  register_set (first ∷ rest) (suc at) number some = refl

  register_by : (regs : Regs) (at number : ℕ) (test : Bool) → (at == 0) ≡ test
      → register (if test then regs else record regs { r = slice_set regs.r at number }) 0 ≡ register regs 0
  register_by regs at number true is = refl
  register_by regs at number false is = register_set regs.r at number is

  pub register_stays : (regs : Regs) (at number : ℕ) → register (with_register regs at number) 0 ≡ register regs 0
  register_stays regs at number = register_by regs at number (at == 0) refl

  of_parts : (old new : Cpu) → register new.regs 0 ≡ register old.regs 0 → system.KeepsFixed old.cp0 new.cp0 → HasFixed value old → HasFixed value new
  of_parts old new zero-stays system-stays fixed = record {
    zero = zero-stays ∙ fixed.zero;
    system = kept.fixed_kept value old.cp0 new.cp0 system-stays fixed.system;
  }

  -- ---- exceptions

  taken_fixed : (cpu : Cpu) (what : Raised) → HasFixed value cpu → HasFixed value (taken cpu what)
  taken_fixed cpu what = of_parts cpu (taken cpu what) refl (raised_keeps cpu.cp0 what cpu.pc cpu.slot)

  -- ---- loads, stores and cache operations

  linked_fixed : (cpu : Cpu) (kind : Touch) (pa : ℕ) → HasFixed value cpu → HasFixed value (linked cpu kind pa)
  linked_fixed cpu touch.Link pa fixed = of_parts cpu (linked cpu touch.Link pa) refl (kept.word_keeps cpu.cp0 17 _ (λ same. omega arith) (λ same. omega arith)) fixed
  linked_fixed cpu touch.Load pa fixed = fixed
  linked_fixed cpu touch.Store pa fixed = fixed
  linked_fixed cpu touch.Cond pa fixed = fixed
  linked_fixed cpu touch.Cache pa fixed = fixed

  set_fixed : (cpu : Cpu) (at number : ℕ) → HasFixed value cpu → HasFixed value (record cpu { regs = with_register cpu.regs at number })
  set_fixed cpu at number = of_parts cpu (record cpu { regs = with_register cpu.regs at number }) (register_stays cpu.regs at number) (kept.kept_refl cpu.cp0)

  -- what differs elsewhere has what is fixed
  elsewhere : (old new : Cpu) → new.regs ≡ old.regs → new.cp0 ≡ old.cp0 → HasFixed value old → HasFixed value new
  elsewhere old new same-regs same-cp0 fixed = record {
    zero = ap (λ regs. register regs 0) same-regs ∙ fixed.zero;
    system = subst (system.HasFixed value) (sym same-cp0) fixed.system;
  }

  loaded_fixed : (cpu : Cpu) (inst : Inst) (r : Reference) (pa : ℕ) → HasFixed value cpu → (reply : Reply) → KeepsTalk (loaded cpu inst r pa reply)
  unfolding loaded
  loaded_fixed cpu inst r pa fixed (reply.Value bytes) =
      let before : Cpu = linked cpu r.kind pa in
      elsewhere (record before { regs = with_register before.regs r.reg _ }) _ refl refl (set_fixed before r.reg _ (linked_fixed cpu r.kind pa fixed))
  loaded_fixed cpu inst r pa fixed reply.Coherency = taken_fixed cpu _ fixed
  loaded_fixed cpu inst r pa fixed reply.Done = fixed
  loaded_fixed cpu inst r pa fixed (reply.Moved out at) = fixed
  loaded_fixed cpu inst r pa fixed (reply.Levels levels) = fixed
  loaded_fixed cpu inst r pa fixed reply.Stored = fixed
  loaded_fixed cpu inst r pa fixed (reply.Halt code) = fixed
  loaded_fixed cpu inst r pa fixed (reply.Tag tag) = fixed
  loaded_fixed cpu inst r pa fixed reply.BusError = taken_fixed cpu _ fixed

  load_by_fixed : (cpu : Cpu) (inst : Inst) (r : Reference) → HasFixed value cpu → (route : Route) → KeepsTalk (load_by cpu inst r route)
  load_by_fixed cpu inst r fixed (To pa cached) = loaded_fixed cpu inst r pa fixed
  load_by_fixed cpu inst r fixed (Fault what) = taken_fixed cpu what fixed

  load_fixed : (cpu : Cpu) (inst : Inst) (r : Reference) → HasFixed value cpu → KeepsTalk (load cpu inst r)
  unfolding load
  load_fixed cpu inst r fixed =
      if_talk (is_aligned (operation_of inst) r.va) _ _ (load_by_fixed cpu inst r fixed (route_of cpu false r.first r.va)) (taken_fixed cpu (address_error false r.va) fixed)

  succeeded_fixed : (cpu : Cpu) (kind : Touch) (reg : ℕ) → HasFixed value cpu → HasFixed value (succeeded cpu kind reg)
  succeeded_fixed cpu touch.Cond reg fixed = set_fixed cpu reg 1 fixed
  succeeded_fixed cpu touch.Load reg fixed = fixed
  succeeded_fixed cpu touch.Store reg fixed = fixed
  succeeded_fixed cpu touch.Link reg fixed = fixed
  succeeded_fixed cpu touch.Cache reg fixed = fixed

  stored_fixed : (cpu : Cpu) (r : Reference) → HasFixed value cpu → (reply : Reply) → KeepsTalk (stored cpu r reply)
  unfolding stored
  stored_fixed cpu r fixed reply.Stored = elsewhere (succeeded cpu r.kind r.reg) _ refl refl (succeeded_fixed cpu r.kind r.reg fixed)
  stored_fixed cpu r fixed (reply.Halt code) = elsewhere (succeeded cpu r.kind r.reg) _ refl refl (succeeded_fixed cpu r.kind r.reg fixed)
  stored_fixed cpu r fixed reply.Coherency = taken_fixed cpu _ fixed
  stored_fixed cpu r fixed (reply.Value bytes) = fixed
  stored_fixed cpu r fixed reply.Done = fixed
  stored_fixed cpu r fixed (reply.Moved out at) = fixed
  stored_fixed cpu r fixed (reply.Levels levels) = fixed
  stored_fixed cpu r fixed (reply.Tag tag) = fixed
  stored_fixed cpu r fixed reply.BusError = taken_fixed cpu _ fixed

  store_by_fixed : (cpu : Cpu) (inst : Inst) (r : Reference) → HasFixed value cpu → (route : Route) → KeepsTalk (store_by cpu inst r route)
  store_by_fixed cpu inst r fixed (To pa cached) =
      if_talk (gives_up cpu r.kind) _ _ (elsewhere (record cpu { regs = with_register cpu.regs r.reg 0 }) _ refl refl (set_fixed cpu r.reg 0 fixed)) (stored_fixed cpu r fixed)
  store_by_fixed cpu inst r fixed (Fault what) = taken_fixed cpu what fixed

  store_fixed : (cpu : Cpu) (inst : Inst) (r : Reference) → HasFixed value cpu → KeepsTalk (store cpu inst r)
  unfolding store
  store_fixed cpu inst r fixed =
      if_talk (is_aligned (operation_of inst) r.va) _ _ (store_by_fixed cpu inst r fixed (route_of cpu true r.first r.va)) (taken_fixed cpu (address_error true r.va) fixed)

  operated_fixed : (cpu : Cpu) → HasFixed value cpu → (reply : Reply) → KeepsTalk (operated cpu reply)
  unfolding operated
  operated_fixed cpu fixed (reply.Tag tag) = of_parts cpu _ refl (kept.word_keeps cpu.cp0 28 tag (λ same. omega arith) (λ same. omega arith)) fixed
  operated_fixed cpu fixed reply.Coherency = fixed
  operated_fixed cpu fixed (reply.Value bytes) = fixed
  operated_fixed cpu fixed reply.Done = fixed
  operated_fixed cpu fixed (reply.Moved out at) = fixed
  operated_fixed cpu fixed (reply.Levels levels) = fixed
  operated_fixed cpu fixed reply.Stored = fixed
  operated_fixed cpu fixed (reply.Halt code) = fixed
  operated_fixed cpu fixed reply.BusError = fixed

  operate_by_fixed : (cpu : Cpu) (r : Reference) → HasFixed value cpu → (route : Route) → KeepsTalk (operate_by cpu r route)
  operate_by_fixed cpu r fixed (To pa cached) = operated_fixed cpu fixed
  operate_by_fixed cpu r fixed (Fault what) = taken_fixed cpu what fixed

  operate_fixed : (cpu : Cpu) (r : Reference) → HasFixed value cpu → KeepsTalk (operate cpu r)
  unfolding operate
  operate_fixed cpu r fixed = operate_by_fixed cpu r fixed (route_of cpu false r.va r.va)

  refer_fixed : (cpu : Cpu) (inst : Inst) (r : Reference) → HasFixed value cpu → (kind : Touch) → KeepsTalk (refer_by cpu inst r kind)
  refer_fixed cpu inst r fixed touch.Load = load_fixed cpu inst r fixed
  refer_fixed cpu inst r fixed touch.Link = load_fixed cpu inst r fixed
  refer_fixed cpu inst r fixed touch.Store = store_fixed cpu inst r fixed
  refer_fixed cpu inst r fixed touch.Cond = store_fixed cpu inst r fixed
  refer_fixed cpu inst r fixed touch.Cache = operate_fixed cpu r fixed

  -- ---- the instructions of coprocessor 0

  prid_small : (cp0 : List ℕ) → system.HasFixed value cp0 → slice_index cp0 15 < 2 ^ 32
  prid_small cp0 fixed = let is : slice_index cp0 15 ≡ 0x400 = fixed.prid in omega (arith, is)

  written_fixed : (cpu : Cpu) (number moved : ℕ) → HasFixed value cpu → HasFixed value (record cpu { cp0 = written cpu.cp0 number moved })
  written_fixed cpu number moved fixed =
      of_parts cpu (record cpu { cp0 = written cpu.cp0 number moved }) refl (kept.written_keeps cpu.cp0 number moved (prid_small cpu.cp0 fixed.system)) fixed

  cp0_word_fixed : (cpu : Cpu) (number moved : ℕ) → 15 ≢ number → 16 ≢ number → HasFixed value cpu → HasFixed value (record cpu { cp0 = slice_set cpu.cp0 number moved })
  cp0_word_fixed cpu number moved not_prid not_config =
      of_parts cpu (record cpu { cp0 = slice_set cpu.cp0 number moved }) refl (kept.word_keeps cpu.cp0 number moved not_prid not_config)

  entry_fixed : (cpu : Cpu) (at : ℕ) (test : Bool) (tlb : Cpu) → HasFixed value cpu → HasFixed value tlb → HasFixed value (if test then tlb else cpu)
  entry_fixed cpu at true tlb fixed of_tlb = of_tlb
  entry_fixed cpu at false tlb fixed of_tlb = fixed

  with_entry_fixed : (cpu : Cpu) (at : ℕ) → HasFixed value cpu → HasFixed value (with_entry cpu at)
  with_entry_fixed cpu at fixed = entry_fixed cpu at (nat_lt at 48) _ fixed (elsewhere cpu _ refl refl fixed)

  controlled_fixed : (cpu : Cpu) (inst : Inst) → HasFixed value cpu → (kind : Operation) → HasFixed value (controlled cpu inst kind)
  unfolding controlled
  controlled_fixed cpu inst fixed (operation.MoveFromCp0 width) = elsewhere (record cpu { regs = with_register cpu.regs inst.rt _ }) _ refl refl (set_fixed cpu inst.rt _ fixed)
  controlled_fixed cpu inst fixed (operation.MoveToCp0 width) =
      elsewhere (record cpu { cp0 = written cpu.cp0 inst.rd (low_word cpu.regs inst.rt) }) _ refl refl (written_fixed cpu inst.rd (low_word cpu.regs inst.rt) fixed)
  controlled_fixed cpu inst fixed operation.ReadTlb =
      let pair : Pair = entry_at cpu.tlb (indexed cpu) in
      let mask : Cpu = record cpu { cp0 = slice_set cpu.cp0 5 pair.mask } in
      let hi : Cpu = record mask { cp0 = slice_set mask.cp0 10 pair.hi } in
      let lo0 : Cpu = record hi { cp0 = slice_set hi.cp0 2 pair.lo0 } in
      let lo1 : Cpu = record lo0 { cp0 = slice_set lo0.cp0 3 pair.lo1 } in
      elsewhere lo1 _ refl refl
      (cp0_word_fixed lo0 3 pair.lo1 (λ same. omega arith) (λ same. omega arith)
      (cp0_word_fixed hi 2 pair.lo0 (λ same. omega arith) (λ same. omega arith)
      (cp0_word_fixed mask 10 pair.hi (λ same. omega arith) (λ same. omega arith)
      (cp0_word_fixed cpu 5 pair.mask (λ same. omega arith) (λ same. omega arith) fixed))))
  controlled_fixed cpu inst fixed operation.WriteIndexedTlb = elsewhere (with_entry cpu (indexed cpu)) _ refl refl (with_entry_fixed cpu (indexed cpu) fixed)
  controlled_fixed cpu inst fixed operation.WriteRandomTlb = elsewhere (with_entry cpu (word cpu.cp0 random)) _ refl refl (with_entry_fixed cpu (word cpu.cp0 random) fixed)
  controlled_fixed cpu inst fixed operation.ProbeTlb =
      elsewhere (record cpu { cp0 = slice_set cpu.cp0 0 (probed (search cpu)) }) _ refl refl
      (cp0_word_fixed cpu 0 (probed (search cpu)) (λ same. omega arith) (λ same. omega arith) fixed)
  controlled_fixed cpu inst fixed operation.ReturnFromException =
      of_parts cpu _ refl (left_keeps cpu.cp0) fixed
  controlled_fixed cpu inst fixed _ = elsewhere cpu _ refl refl fixed

  -- ---- the step

  branched_by : (cpu : Cpu) (taken likely : Bool) (target : ℕ) → HasFixed value cpu → HasFixed value (branched cpu taken likely target)
  branched_by cpu true likely target fixed = elsewhere cpu _ refl refl fixed
  branched_by cpu false true target fixed = elsewhere cpu _ refl refl fixed
  branched_by cpu false false target fixed = elsewhere cpu _ refl refl fixed

  performed_fixed : (cpu : Cpu) (inst : Inst) → HasFixed value cpu → (kind : Effect) → KeepsTalk (perform cpu inst kind)
  unfolding perform
  performed_fixed cpu inst fixed effect.Nothing = elsewhere cpu _ refl refl fixed
  performed_fixed cpu inst fixed (effect.Set reg number) = elsewhere (record cpu { regs = with_register cpu.regs reg number }) _ refl refl (set_fixed cpu reg number fixed)
  performed_fixed cpu inst fixed (effect.HiLo hi lo) = of_parts cpu _ refl (kept.kept_refl cpu.cp0) fixed
  performed_fixed cpu inst fixed (effect.Jump taken likely target link number) =
      branched_by (record cpu { regs = with_register cpu.regs link number }) taken likely target (set_fixed cpu link number fixed)
  performed_fixed cpu inst fixed (effect.Touch kind va first size reg) =
      refer_fixed cpu inst (record { kind = kind; va = va; first = first; size = size; reg = reg }) fixed kind
  performed_fixed cpu inst fixed (effect.System row) = controlled_fixed cpu inst fixed (operation_of inst)
  performed_fixed cpu inst fixed (effect.Raise code unit) = taken_fixed cpu _ fixed

  refused_fixed : (cpu : Cpu) (inst : Inst) → HasFixed value cpu → (refusal : Option Raised) → KeepsTalk (unless_refused cpu inst refusal)
  refused_fixed cpu inst fixed (Some what) = taken_fixed cpu what fixed
  refused_fixed cpu inst fixed None = performed_fixed cpu inst fixed (effect_of inst cpu.regs cpu.pc)

  found_fixed : (cpu : Cpu) → HasFixed value cpu → (found : Option Inst) → KeepsTalk (carry_out_found cpu found)
  found_fixed cpu fixed None = taken_fixed cpu _ fixed
  found_fixed cpu fixed (Some inst) = refused_fixed cpu inst fixed (refusal_of cpu inst)

  carried_fixed : (cpu : Cpu) (code : ℕ) → HasFixed value cpu → KeepsTalk (carry_out cpu code)
  unfolding carry_out
  carried_fixed cpu code fixed = found_fixed cpu fixed (decoded code)

  fetched_fixed : (cpu : Cpu) → HasFixed value cpu → (reply : Reply) → KeepsTalk (fetched cpu reply)
  fetched_fixed cpu fixed (reply.Value code) = carried_fixed cpu code fixed
  fetched_fixed cpu fixed reply.Coherency = taken_fixed cpu _ fixed
  fetched_fixed cpu fixed reply.BusError = taken_fixed cpu _ fixed
  fetched_fixed cpu fixed _ = fixed

  fetch_by_fixed : (cpu : Cpu) → HasFixed value cpu → (route : Route) → KeepsTalk (fetch_by cpu route)
  fetch_by_fixed cpu fixed (To pa cached) = fetched_fixed cpu fixed
  fetch_by_fixed cpu fixed (Fault what) = taken_fixed cpu what fixed

  fetch_fixed : (cpu : Cpu) → HasFixed value cpu → KeepsTalk (fetch cpu)
  unfolding fetch
  fetch_fixed cpu fixed =
      if_talk (cpu.pc % 4 == 0) _ _ (fetch_by_fixed cpu fixed (route_of cpu false cpu.pc cpu.pc)) (taken_fixed cpu (address_error false cpu.pc) fixed)

  step_fixed : (cpu : Cpu) → HasFixed value cpu → KeepsTalk (step cpu)
  unfolding step
  step_fixed cpu fixed = if_talk (takes_interrupt cpu.cp0) _ _ (taken_fixed cpu _ fixed) (fetch_fixed cpu fixed)

  -- ---- the tick and the run

  levels_fixed : (cpu : Cpu) → HasFixed value cpu → (reply : Reply) → HasFixed value (with_levels cpu reply)
  levels_fixed cpu fixed (reply.Levels levels) = of_parts cpu _ refl (kept.lines_keep cpu.cp0 levels) fixed
  levels_fixed cpu fixed _ = fixed

  closed_fixed : (cpu : Cpu) (end : StepEnd) → HasFixed value cpu → KeepsTalk (closed cpu end)
  closed_fixed cpu end fixed levels =
      let shown : Cpu = with_levels cpu levels in
      of_parts shown _ refl (kept.counted_keeps shown.cp0 _) (levels_fixed cpu fixed levels)

  opened_fixed : (cpu : Cpu) → HasFixed value cpu → KeepsTalk (opened cpu)
  opened_fixed cpu fixed inputs beat levels = step_fixed (with_levels cpu levels) (levels_fixed cpu fixed levels)

  talk_fixed : (cpu : Cpu) → HasFixed value cpu → KeepsTalk (tick_talk cpu)
  unfolding tick_talk
  talk_fixed cpu fixed = then_fixed (opened cpu) closed closed_fixed (opened_fixed cpu fixed)

  -- the parts of a tick keep what is fixed
  pub held_opened_fixed : {M : Type 0} (ask : M → Request → Outcome M) (memory : M) (cpu : Cpu) → HasFixed value cpu
      → HasFixed value (hold ask memory (opened cpu)).cpu
  held_opened_fixed ask memory cpu fixed = held_fixed ask memory (opened cpu) (opened_fixed cpu fixed)

  pub held_closed_fixed : {M : Type 0} (ask : M → Request → Outcome M) (memory : M) (cpu : Cpu) (end : StepEnd) → HasFixed value cpu
      → HasFixed value (hold ask memory (closed cpu end)).cpu
  held_closed_fixed ask memory cpu end fixed = held_fixed ask memory (closed cpu end) (closed_fixed cpu end fixed)

  -- and so does the talk of a tick
  pub held_talk_fixed : {M : Type 0} (ask : M → Request → Outcome M) (memory : M) (cpu : Cpu) → HasFixed value cpu
      → HasFixed value (hold ask memory (tick_talk cpu)).cpu
  held_talk_fixed ask memory cpu fixed = held_fixed ask memory (tick_talk cpu) (talk_fixed cpu fixed)

  ticked_fixed : {M : Type 0} (ask : M → Request → Outcome M) (memory : M) (cpu : Cpu) → HasFixed value cpu → (halt : Option ℕ)
      → HasFixed value (unless_halted ask memory cpu halt).cpu
  ticked_fixed ask memory cpu fixed (Some code) = fixed
  ticked_fixed ask memory cpu fixed None = held_talk_fixed ask memory cpu fixed

  -- a tick keeps what is fixed
  pub tick_fixed : {M : Type 0} (ask : M → Request → Outcome M) (memory : M) (cpu : Cpu) → HasFixed value cpu → HasFixed value (tick_of ask memory cpu).cpu
  unfolding tick_of
  tick_fixed ask memory cpu fixed = ticked_fixed ask memory cpu fixed cpu.halt

  -- and so does a run
  pub run_fixed : {M : Type 0} (ask : M → Request → Outcome M) (n : ℕ) (state : State M) → HasFixed value state.cpu → HasFixed value (run_of ask n state).cpu
  unfolding run_of
  run_fixed {M = M} ask n state fixed =
      moves_keep (tick_move ask nothing) (λ (s : State M). HasFixed value s.cpu) (λ (s : State M) has. tick_fixed ask s.memory s.cpu has) n state fixed

  -- the processor at reset has it
  pub reset_fixed : HasFixed value (reset_cpu value)
  unfolding reset_cpu
  reset_fixed = record { zero = refl; system = kept.reset_has value }
