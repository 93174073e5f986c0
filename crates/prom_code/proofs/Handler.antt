-- The handler of coherency exceptions, tick by tick, over any memory that serves its words.
use Rattle.std.proofs.Common.{◌≡◌, ◌==◌, ◌+◌, ◌*◌, ◌%◌, ◌^◌, ◌<◌, ◌∙◌, ℕ, Bool, true, false, not, if◌then◌else◌, List, length, refl, ap, sym, subst, arith}
use Rattle.std.specs.Prelude.{slice_index, slice_set, bit_and, bit_xor}
use Rattle.std.proofs.lemmas.Bool.{cond_both}
use Rattle.std.proofs.lemmas.List.{get_or-set_other, set-set, set_comm, length-set}
use Rattle.r4_words.specs.Words.{sext32}
use Rattle.mips3_alu.specs.declared.registers.Regs.{Regs}
use Rattle.mips3_alu.specs.Registers.{register, with_register}
use Rattle.cp0_regs.specs.Bits.{field}
use Rattle.cp0_regs.specs.Counting.{with_lines}
use Rattle.cp0_regs.specs.Counting as system
use Rattle.cp0_regs.specs.Fields.{exc_code, exl, asid, k0, timer_line}
use Rattle.cp0_regs.specs.Modes.{is_kernel}
use Rattle.cp0_regs.specs.State.{value_of, with_value}
use Rattle.ll_sc.specs.Linking.{unlinked}
use Rattle.mips3_exec.specs.declared.processor.Cpu.{Cpu}
use Rattle.mips3_exec.specs.declared.talk.Request.{Request}
use Rattle.mips3_exec.specs.declared.talk.Request.TheVariants.{Inputs}
use Rattle.mips3_exec.specs.declared.talk.StepEnd.TheVariants.{Went}
use Rattle.mips3_exec.specs.Pausing.{due, due_with}
use Rattle.mips3_exec.specs.Processor.{counted, with_result, branched, advanced, gone_to}
use Rattle.mips3_exec.specs.References.{went}
use Rattle.mips3_exec.specs.Step.{carry_out}
use Rattle.mips3_exec.specs.Talk.{Outcome, hold}
use Rattle.mips3_exec.specs.Tick.{tick_talk}
use Rattle.prom_code.proofs.Frames.{lines_other, counted_other}
use Rattle.prom_code.proofs.Handling.{IsHandling, lined_handles, counted_handles}
use Rattle.prom_code.proofs.AnyTick.{waited, lined, paused}
use Rattle.prom_code.proofs.Due.{due_ticked, lines_code, counted_code}
use Rattle.prom_code.proofs.Serving.{Serves, Stands, IsInHandler, plain_at}

-- ---- the state

-- What holds of CP0 in the handler of an exception at an address, from a processor that took it.
pub record IsSystem (base : Cpu) (fetch : Bool) (va : ℕ) (cp0 : List ℕ) : Type 0 where
  pub handling : IsHandling cp0
  pub full : length cp0 ≡ 32
  pub code : value_of cp0 exc_code ≡ (if fetch then 14 else 31)
  pub bad : slice_index cp0 8 ≡ va
  pub asid_is : value_of cp0 asid ≡ value_of base.cp0 asid
  pub k0_is : value_of cp0 k0 ≡ value_of base.cp0 k0

-- What holds of the processor, at an instruction of the handler, with a fact of its registers.
pub record InHandler (base : Cpu) (fetch : Bool) (va pc npc : ℕ) (slot : Bool) (P : Regs → Type 0) (cpu : Cpu) : Type 0 where
  pub pc_is : cpu.pc ≡ pc
  pub npc_is : cpu.npc ≡ npc
  pub slot_is : cpu.slot ≡ slot
  pub system_is : IsSystem base fetch va cpu.cp0
  pub tlb_is : cpu.tlb ≡ base.tlb
  pub zero_is : register cpu.regs 0 ≡ 0
  pub registers : length cpu.regs.r ≡ 32
  pub has : P cpu.regs

pub in_full : (cp0 : List ℕ) (n : ℕ) → length cp0 ≡ 32 → n < 32 → n < length cp0
in_full cp0 n full lt = omega arith

system_lined : (base : Cpu) (fetch : Bool) (va : ℕ) (cp0 : List ℕ) (level : ℕ) → IsSystem base fetch va cp0 → IsSystem base fetch va (with_lines cp0 level)
system_lined base fetch va cp0 level s = record {
  handling = lined_handles cp0 level s.handling;
  full = length-set cp0 13 _ ∙ s.full;
  code = lines_code cp0 level (in_full cp0 13 s.full (omega arith)) ∙ s.code;
  bad = lines_other cp0 level 8 (omega arith) ∙ s.bad;
  asid_is = ap (λ w. field w 7 0) (lines_other cp0 level 10 (omega arith)) ∙ s.asid_is;
  k0_is = ap (λ w. field w 2 0) (lines_other cp0 level 16 (omega arith)) ∙ s.k0_is;
}

length_counted : (cp0 : List ℕ) (wrote : Bool) → length (system.counted cp0 wrote) ≡ length cp0
unfolding system.counted
length_counted cp0 wrote = length-set (system.with_timer (system.with_count cp0)) 1 _ ∙ timed ∙ length-set cp0 9 _
  where
    timed : length (system.with_timer (system.with_count cp0)) ≡ length (system.with_count cp0)
    timed = cond_both (slice_index (system.with_count cp0) 9 == slice_index (system.with_count cp0) 11) (with_value (system.with_count cp0) timer_line 1) (system.with_count cp0)
        (λ (now : List ℕ). length now ≡ length (system.with_count cp0)) (λ _. length-set (system.with_count cp0) 13 _) (λ _. refl)

system_counted : (base : Cpu) (fetch : Bool) (va : ℕ) (cp0 : List ℕ) → IsSystem base fetch va cp0 → IsSystem base fetch va (system.counted cp0 false)
system_counted base fetch va cp0 s = record {
  handling = counted_handles cp0 false s.handling;
  full = length_counted cp0 false ∙ s.full;
  code = counted_code cp0 false (in_full cp0 13 s.full (omega arith)) ∙ s.code;
  bad = counted_other cp0 false 8 (omega arith) (omega arith) (omega arith) ∙ s.bad;
  asid_is = ap (λ w. field w 7 0) (counted_other cp0 false 10 (omega arith) (omega arith) (omega arith)) ∙ s.asid_is;
  k0_is = ap (λ w. field w 2 0) (counted_other cp0 false 16 (omega arith) (omega arith) (omega arith)) ∙ s.k0_is;
}

module _ (base : Cpu) (fetch : Bool) (va : ℕ) where
  pub inside_lined : (pc npc : ℕ) (slot : Bool) (P : Regs → Type 0) (cpu : Cpu) (level : ℕ) → InHandler base fetch va pc npc slot P cpu → InHandler base fetch va pc npc slot P (lined cpu level)
  inside_lined pc npc slot P cpu level i = record {
    pc_is = i.pc_is;
    npc_is = i.npc_is;
    slot_is = i.slot_is;
    system_is = system_lined base fetch va cpu.cp0 level i.system_is;
    tlb_is = i.tlb_is;
    zero_is = i.zero_is;
    registers = i.registers;
    has = i.has;
  }

  pub inside_counted : (pc npc : ℕ) (slot : Bool) (P : Regs → Type 0) (cpu : Cpu) → InHandler base fetch va pc npc slot P cpu → InHandler base fetch va pc npc slot P (counted cpu false)
  inside_counted pc npc slot P cpu i = record {
    pc_is = i.pc_is;
    npc_is = i.npc_is;
    slot_is = i.slot_is;
    system_is = system_counted base fetch va cpu.cp0 i.system_is;
    tlb_is = i.tlb_is;
    zero_is = i.zero_is;
    registers = i.registers;
    has = i.has;
  }

  -- a fact of the registers gives way to one that follows from it
  pub inside_with : (pc npc : ℕ) (slot : Bool) (P Q : Regs → Type 0) (cpu : Cpu) → ((regs : Regs) → P regs → Q regs) → InHandler base fetch va pc npc slot P cpu → InHandler base fetch va pc npc slot Q cpu
  inside_with pc npc slot P Q cpu follows i = record {
    pc_is = i.pc_is;
    npc_is = i.npc_is;
    slot_is = i.slot_is;
    system_is = i.system_is;
    tlb_is = i.tlb_is;
    zero_is = i.zero_is;
    registers = i.registers;
    has = follows cpu.regs i.has;
  }

  -- ---- an instruction

  -- What an instruction of the handler leaves: the next one, and what is due.
  pub record Goes (pc npc : ℕ) (slot : Bool) (P : Regs → Type 0) (cpu after : Cpu) : Type 0 where
    pub inside : InHandler base fetch va pc npc slot P after
    pub same : due after ≡ due cpu

  -- a value goes to k0 or k1
  pub k0_goes : (pc npc next : ℕ) (slot : Bool) (P Q : Regs → Type 0) (cpu : Cpu) (value : ℕ) → InHandler base fetch va pc npc slot P cpu → (npc + 4) % 2 ^ 32 ≡ next
      → Q (with_register cpu.regs 26 value) → Goes npc next false Q cpu (with_result cpu 26 value)
  unfolding due
  k0_goes pc npc next slot P Q cpu value i e q = record {
    inside = record {
      pc_is = i.npc_is;
      npc_is = ap (λ n. (n + 4) % 2 ^ 32) i.npc_is ∙ e;
      slot_is = refl;
      system_is = i.system_is;
      tlb_is = i.tlb_is;
      zero_is = get_or-set_other cpu.regs.r 26 0 value 0 (omega arith) ∙ i.zero_is;
      registers = length-set cpu.regs.r 26 value ∙ i.registers;
      has = q;
    };
    same = ap (λ r. due_with (record cpu { regs = record cpu.regs { r = r } }) (not (value_of cpu.cp0 exc_code == 31)) (slice_index cpu.cp0 8) (with_value cpu.cp0 exl 0) (slice_index cpu.cp0 14)) refl
        ∙ ap (λ r. gone_to (record cpu { regs = record cpu.regs { r = slice_set r 27 (if not (value_of cpu.cp0 exc_code == 31) then 0x44 else 0) }; cp0 = with_value cpu.cp0 exl 0; link = unlinked }) (slice_index cpu.cp0 14))
        (set-set cpu.regs.r 26 value (sext32 (slice_index cpu.cp0 8)));
  }

  pub k1_goes : (pc npc next : ℕ) (slot : Bool) (P Q : Regs → Type 0) (cpu : Cpu) (value : ℕ) → InHandler base fetch va pc npc slot P cpu → (npc + 4) % 2 ^ 32 ≡ next
      → Q (with_register cpu.regs 27 value) → Goes npc next false Q cpu (with_result cpu 27 value)
  unfolding due
  k1_goes pc npc next slot P Q cpu value i e q =
      let y : ℕ = if not (value_of cpu.cp0 exc_code == 31) then 0x44 else 0 in
      let x : ℕ = sext32 (slice_index cpu.cp0 8) in
      record {
        inside = record {
          pc_is = i.npc_is;
          npc_is = ap (λ n. (n + 4) % 2 ^ 32) i.npc_is ∙ e;
          slot_is = refl;
          system_is = i.system_is;
          tlb_is = i.tlb_is;
          zero_is = get_or-set_other cpu.regs.r 27 0 value 0 (omega arith) ∙ i.zero_is;
          registers = length-set cpu.regs.r 27 value ∙ i.registers;
          has = q;
        };
        same = ap (λ r. gone_to (record cpu { regs = record cpu.regs { r = r }; cp0 = with_value cpu.cp0 exl 0; link = unlinked }) (slice_index cpu.cp0 14))
            (ap (λ r. slice_set r 27 y) (set_comm cpu.regs.r 27 26 value x (omega arith)) ∙ set-set (slice_set cpu.regs.r 26 x) 27 value y);
      }

  -- on to the next instruction, or to the target of a branch with the delay slot before it
  moved_goes : (pc npc pc' npc' : ℕ) (slot slot' : Bool) (P : Regs → Type 0) (cpu : Cpu) → InHandler base fetch va pc npc slot P cpu
      → Goes pc' npc' slot' P cpu (record cpu { pc = pc'; npc = npc'; slot = slot' })
  unfolding due
  moved_goes pc npc pc' npc' slot slot' P cpu i = record {
    inside = record { pc_is = refl; npc_is = refl; slot_is = refl; system_is = i.system_is; tlb_is = i.tlb_is; zero_is = i.zero_is; registers = i.registers; has = i.has };
    same = refl;
  }

  pub advanced_goes : (pc npc next : ℕ) (slot : Bool) (P : Regs → Type 0) (cpu : Cpu) → InHandler base fetch va pc npc slot P cpu → (npc + 4) % 2 ^ 32 ≡ next → Goes npc next false P cpu (advanced cpu)
  advanced_goes pc npc next slot P cpu i e =
      subst (Goes npc next false P cpu) (λ j. record cpu { pc = (sym i.npc_is) j; npc = (sym (ap (λ n. (n + 4) % 2 ^ 32) i.npc_is ∙ e)) j; slot = false }) (moved_goes pc npc npc next slot false P cpu i)

  pub taken_goes : (pc npc target : ℕ) (slot : Bool) (P : Regs → Type 0) (cpu : Cpu) (at : ℕ) (b : Bool) → InHandler base fetch va pc npc slot P cpu → at ≡ target → b ≡ true
      → Goes npc target true P cpu (branched cpu b false at)
  taken_goes pc npc target slot P cpu at b i e so =
      subst (λ c. Goes npc target true P cpu (branched cpu c false at)) (sym so)
      (subst (Goes npc target true P cpu) (λ j. record cpu { pc = (sym i.npc_is) j; npc = (sym e) j; slot = true }) (moved_goes pc npc npc target slot true P cpu i))

  pub passed_goes : (pc npc next : ℕ) (slot : Bool) (P : Regs → Type 0) (cpu : Cpu) (at : ℕ) (b : Bool) → InHandler base fetch va pc npc slot P cpu → (npc + 4) % 2 ^ 32 ≡ next → b ≡ false
      → Goes npc next true P cpu (branched cpu b false at)
  passed_goes pc npc next slot P cpu at b i e not_so =
      subst (λ c. Goes npc next true P cpu (branched cpu c false at)) (sym not_so)
      (subst (Goes npc next true P cpu) (λ j. record cpu { pc = (sym i.npc_is) j; npc = (sym (ap (λ n. (n + 4) % 2 ^ 32) i.npc_is ∙ e)) j; slot = true }) (moved_goes pc npc npc next slot true P cpu i))

  -- ---- what is known of k0 and k1

  abbrev pub code4 : ℕ
  code4 = (if fetch then 14 else 31) * 4

  abbrev pub told : ℕ
  told = if fetch then 0x44 else 0

  abbrev pub Anything : Regs → Type 0
  Anything regs = Unit {0}

  abbrev pub HasCause : Regs → Type 0
  HasCause regs = bit_and (register regs 26) 0x7c ≡ code4

  abbrev pub HasCode : Regs → Type 0
  HasCode regs = register regs 26 ≡ code4

  abbrev pub HasTold : Regs → Type 0
  HasTold regs = (register regs 26 ≡ code4) × (register regs 27 ≡ told)

  abbrev pub HasK1 : Regs → Type 0
  HasK1 regs = register regs 27 ≡ told

  abbrev pub HasRest : Regs → Type 0
  HasRest regs = (register regs 26 ≡ bit_xor code4 0x38) × (register regs 27 ≡ told)

  abbrev pub HasAddress : Regs → Type 0
  HasAddress regs = (register regs 26 ≡ sext32 va) × (register regs 27 ≡ told)

  -- ---- the memory

  module _ {M : Type 0} (ask : M → Request → Outcome M) (Has : M → Type 0) (level : M → ℕ) (words : ℕ → ℕ) (serves : Serves ask Has level words) where
    -- What a tick of the handler comes to.
    pub record TickGoes (m : M) (cpu : Cpu) (pc npc : ℕ) (slot : Bool) (P : Regs → Type 0) (later : M) : Type 0 where
      pub after : Cpu
      pub held : hold ask m (tick_talk cpu) ≡ record { cpu = after; end = Went; memory = later }
      pub inside : InHandler base fetch va pc npc slot P after
      pub due_is : due after ≡ paused (due cpu) (level (waited ask m cpu.ticks))
      pub ticks_is : after.ticks ≡ cpu.ticks + 1

    pub waited_has : (m : M) (tick : ℕ) → Has m → Has (waited ask m tick)
    waited_has m tick has = serves.beat (ask m (Inputs tick)).memory (serves.inputs m tick has)

    pub tick_goes : (m : M) (cpu : Cpu) (pc npc : ℕ) (slot : Bool) (P : Regs → Type 0) (code : ℕ) (does : Cpu → Cpu) (pc' npc' : ℕ) (slot' : Bool) (Q : Regs → Type 0)
        → Has m → InHandler base fetch va pc npc slot P cpu → IsInHandler pc → words (pc % 2 ^ 29) ≡ code
        → ((c : Cpu) → is_kernel c.cp0 ≡ true → carry_out c code ≡ went (does c))
        → ((c : Cpu) → (does c).ticks ≡ c.ticks)
        → ((c : Cpu) → InHandler base fetch va pc npc slot P c → Goes pc' npc' slot' Q c (does c))
        → TickGoes m cpu pc' npc' slot' Q (waited ask m cpu.ticks)
    tick_goes m cpu pc npc slot P code does pc' npc' slot' Q has i at word_is carried timed goes =
        let w : M = waited ask m cpu.ticks in
        let l : ℕ = level w in
        let c : Cpu = lined cpu l in
        let g : Goes pc' npc' slot' Q c (does c) = goes c (inside_lined pc npc slot P cpu l i) in
        let stands : Stands pc npc slot cpu = record { pc_is = i.pc_is; npc_is = i.npc_is; slot_is = i.slot_is; handling = i.system_is.handling; registers = i.registers } in
        record {
          after = counted (lined (does c) l) false;
          held = plain_at ask Has level words serves m cpu pc npc slot code does has stands at word_is carried;
          inside = inside_counted pc' npc' slot' Q (lined (does c) l) (inside_lined pc' npc' slot' Q (does c) l g.inside);
          due_is = due_ticked cpu (does c) l (in_full cpu.cp0 13 i.system_is.full (omega arith)) (in_full (does c).cp0 13 g.inside.system_is.full (omega arith)) g.same;
          ticks_is = ap (λ n. n + 1) (timed c);
        }
