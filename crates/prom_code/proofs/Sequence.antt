-- The instructions of the handler in their order, and what the last of them leaves: what was due, after so many ticks without a step.
use Rattle.std.proofs.Common.{◌≡◌, ◌==◌, ◌+◌, ◌-◌, ◌*◌, ◌%◌, ◌^◌, ◌<◌, ◌≤◌, ◌∙◌, ℕ, Bool, true, false, not, if◌then◌else◌, List, length, refl, ap, sym, subst, arith}
use Rattle.std.specs.Prelude.{slice_index, slice_set, bit_and, bit_xor, nat_lt}
use Rattle.std.proofs.lemmas.Bool.{eq-eqb, cond_both}
use Rattle.std.proofs.lemmas.List.{get_or-set_same, get_or-set_other, set-get_or, length-set}
use Rattle.r4_words.specs.Words.{sext32}
use Rattle.mips3_code.specs.Targets.{branch_target}
use Rattle.mips3_alu.specs.declared.registers.Regs.{Regs}
use Rattle.mips3_alu.specs.Registers.{register, with_register}
use Rattle.cp0_regs.specs.Fields.{exc_code, exl, erl}
use Rattle.cp0_regs.specs.Modes.{is_kernel, is_set}
use Rattle.cp0_regs.specs.Registers.{tag_lo}
use Rattle.cp0_regs.specs.State.{value_of, with_value, word}
use Rattle.tlb_model.specs.Segments.{range_of}
use Rattle.mips3_exec.specs.declared.routes.Route.TheVariants.{To}
use Rattle.mips3_exec.specs.declared.talk.Access.{Access}
use Rattle.mips3_exec.specs.declared.talk.Request.TheVariants.{Cache}
use Rattle.mips3_exec.specs.declared.talk.Reply.TheVariants as reply
use Rattle.mips3_exec.specs.Routes.{route_of, access_of}
use Rattle.cp0_exceptions.specs.Leaving.{left, return_of}
use Rattle.ll_sc.specs.Linking.{unlinked}
use Rattle.mips3_exec.specs.declared.processor.Cpu.{Cpu}
use Rattle.mips3_exec.specs.declared.talk.Request.{Request}
use Rattle.mips3_exec.specs.declared.talk.StepEnd.TheVariants.{Went}
use Rattle.mips3_exec.specs.Pausing.{due}
use Rattle.mips3_exec.specs.Processor.{counted, with_result, branched, advanced, gone_back, gone_to}
use Rattle.mips3_exec.specs.References.{operated, operate_by}
use Rattle.mips3_exec.specs.Step.{carry_out}
use Rattle.mips3_exec.specs.Talk.{Ask, Outcome, Held, hold}
use Rattle.mips3_exec.specs.Tick.{tick_talk}
use Rattle.prom_code.proofs.CauseBits.{code_of_cause}
use Rattle.prom_code.proofs.Instructions.{mfc0_cause, andi_k0, xori_k1, beq_k1, xori_k0, beq_k0, nop, mfc0_bad, eret, cache_k0, aimed}
use Rattle.prom_code.proofs.Handling.{in_kernel, no_interrupt, kseg1_route}
use Rattle.prom_code.proofs.CacheTick.{cache_tick}
use Rattle.prom_code.proofs.AnyTick.{waited, lined, paused}
use Rattle.prom_code.proofs.Due.{due_lined, lined_twice, due_ticked}
use Rattle.prom_code.proofs.Serving.{Serves, Stands, plain_at}
use Rattle.prom_code.proofs.Handler as handler
use Rattle.prom_code.proofs.Handler.{InHandler, in_full, inside_lined, inside_counted, Goes, k0_goes, k1_goes, advanced_goes, taken_goes, passed_goes, TickGoes, tick_goes, waited_has}

full_set : (xs ys : List ℕ) → length ys ≡ length xs → 13 < length xs → 13 < length ys
full_set xs ys same full = omega arith

due_full : (cpu : Cpu) → 13 < length cpu.cp0 → 13 < length (due cpu).cp0
unfolding due
due_full cpu full = full_set cpu.cp0 _ (length-set cpu.cp0 12 _) full

module _ (base : Cpu) (fetch : Bool) (va : ℕ) where
  -- the value of k0 or k1 after it was given
  pub k0_read : (pc npc : ℕ) (slot : Bool) (P : Regs → Type 0) (cpu : Cpu) (value : ℕ) → InHandler base fetch va pc npc slot P cpu → register (with_register cpu.regs 26 value) 26 ≡ value
  k0_read pc npc slot P cpu value i = get_or-set_same cpu.regs.r 26 value 0 (in_full cpu.regs.r 26 i.registers (omega arith))

  k1_read : (pc npc : ℕ) (slot : Bool) (P : Regs → Type 0) (cpu : Cpu) (value : ℕ) → InHandler base fetch va pc npc slot P cpu → register (with_register cpu.regs 27 value) 27 ≡ value
  k1_read pc npc slot P cpu value i = get_or-set_same cpu.regs.r 27 value 0 (in_full cpu.regs.r 27 i.registers (omega arith))

  pub k1_kept : (cpu : Cpu) (value : ℕ) → register (with_register cpu.regs 26 value) 27 ≡ register cpu.regs 27
  k1_kept cpu value = get_or-set_other cpu.regs.r 26 27 value 0 (omega arith)

  k0_kept : (cpu : Cpu) (value : ℕ) → register (with_register cpu.regs 27 value) 26 ≡ register cpu.regs 26
  k0_kept cpu value = get_or-set_other cpu.regs.r 27 26 value 0 (omega arith)

  -- mfc0 k0,Cause
  goes_380 : (P : Regs → Type 0) (cpu : Cpu) → InHandler base fetch va 0xbfc00380 0xbfc00384 false P cpu
      → Goes base fetch va 0xbfc00384 0xbfc00388 false (handler.HasCause base fetch va) cpu (with_result cpu 26 (sext32 (slice_index cpu.cp0 13)))
  goes_380 P cpu i =
      k0_goes base fetch va 0xbfc00380 0xbfc00384 0xbfc00388 false P (handler.HasCause base fetch va) cpu (sext32 (slice_index cpu.cp0 13)) i refl
      (ap (λ n. bit_and n 0x7c) (k0_read 0xbfc00380 0xbfc00384 false P cpu (sext32 (slice_index cpu.cp0 13)) i) ∙ code_of_cause (slice_index cpu.cp0 13) ∙ ap (λ n. n * 4) i.system_is.code)

  -- andi k0,k0,0x7c
  goes_384 : (cpu : Cpu) → InHandler base fetch va 0xbfc00384 0xbfc00388 false (handler.HasCause base fetch va) cpu
      → Goes base fetch va 0xbfc00388 0xbfc0038c false (handler.HasCode base fetch va) cpu (with_result cpu 26 (bit_and (register cpu.regs 26) 0x7c))
  goes_384 cpu i =
      k0_goes base fetch va 0xbfc00384 0xbfc00388 0xbfc0038c false (handler.HasCause base fetch va) (handler.HasCode base fetch va) cpu (bit_and (register cpu.regs 26) 0x7c) i refl
      (k0_read 0xbfc00384 0xbfc00388 false (handler.HasCause base fetch va) cpu (bit_and (register cpu.regs 26) 0x7c) i ∙ i.has)

  told_is : (b : Bool) → bit_xor ((if b then 14 else 31) * 4) 0x7c ≡ (if b then 0x44 else 0)
  told_is true = refl
  told_is false = refl

  -- xori k1,k0,0x7c
  goes_388 : (cpu : Cpu) → InHandler base fetch va 0xbfc00388 0xbfc0038c false (handler.HasCode base fetch va) cpu
      → Goes base fetch va 0xbfc0038c 0xbfc00390 false (handler.HasTold base fetch va) cpu (with_result cpu 27 (bit_xor (register cpu.regs 26) 0x7c))
  goes_388 cpu i =
      k1_goes base fetch va 0xbfc00388 0xbfc0038c 0xbfc00390 false (handler.HasCode base fetch va) (handler.HasTold base fetch va) cpu (bit_xor (register cpu.regs 26) 0x7c) i refl (
        k0_kept cpu (bit_xor (register cpu.regs 26) 0x7c) ∙ i.has,
        k1_read 0xbfc00388 0xbfc0038c false (handler.HasCode base fetch va) cpu (bit_xor (register cpu.regs 26) 0x7c) i ∙ (ap (λ n. bit_xor n 0x7c) i.has ∙ told_is fetch),
      )

  -- mfc0 k0,BadVAddr
  goes_3ac : (cpu : Cpu) → InHandler base fetch va 0xbfc003ac 0xbfc003b0 false (handler.HasK1 base fetch va) cpu
      → Goes base fetch va 0xbfc003b0 0xbfc003b4 false (handler.HasAddress base fetch va) cpu (with_result cpu 26 (sext32 (slice_index cpu.cp0 8)))
  goes_3ac cpu i =
      k0_goes base fetch va 0xbfc003ac 0xbfc003b0 0xbfc003b4 false (handler.HasK1 base fetch va) (handler.HasAddress base fetch va) cpu (sext32 (slice_index cpu.cp0 8)) i refl
      (k0_read 0xbfc003ac 0xbfc003b0 false (handler.HasK1 base fetch va) cpu (sext32 (slice_index cpu.cp0 8)) i ∙ ap sext32 i.system_is.bad, k1_kept cpu (sext32 (slice_index cpu.cp0 8)) ∙ i.has)

  -- eret leaves what is due
  back_is_due : (cpu : Cpu) → InHandler base fetch va 0xbfc003b4 0xbfc003b8 false (handler.HasAddress base fetch va) cpu → gone_back cpu ≡ due cpu
  unfolding left return_of due
  back_is_due cpu i =
      let clear : is_set cpu.cp0 erl ≡ false = ap (λ n. n == 1) i.system_is.handling.erl in
      let kind : (not (value_of cpu.cp0 exc_code == 31)) ≡ fetch = ap (λ n. not (n == 31)) i.system_is.code ∙ kind_of fetch in
      let x : ℕ = sext32 (slice_index cpu.cp0 8) in
      let x_is : x ≡ slice_index cpu.regs.r 26 = ap sext32 i.system_is.bad ∙ sym i.has.0 in
      let y_is : (if not (value_of cpu.cp0 exc_code == 31) then 0x44 else 0) ≡ slice_index cpu.regs.r 27 = ap (λ b. if b then 0x44 else 0) kind ∙ sym i.has.1 in
      let same : cpu.regs.r ≡ slice_set (slice_set cpu.regs.r 26 x) 27 (if not (value_of cpu.cp0 exc_code == 31) then 0x44 else 0) =
      sym (ap (λ v. slice_set (slice_set cpu.regs.r 26 v) 27 (if not (value_of cpu.cp0 exc_code == 31) then 0x44 else 0)) x_is
      ∙ ap (λ r. slice_set r 27 (if not (value_of cpu.cp0 exc_code == 31) then 0x44 else 0)) (set-get_or cpu.regs.r 26 0)
      ∙ ap (slice_set cpu.regs.r 27) y_is
      ∙ set-get_or cpu.regs.r 27 0) in
      ap (λ b. gone_to (record cpu { cp0 = if b then with_value cpu.cp0 erl 0 else with_value cpu.cp0 exl 0; link = unlinked }) (if b then slice_index cpu.cp0 30 else slice_index cpu.cp0 14)) clear
      ∙ ap (λ r. gone_to (record cpu { regs = record cpu.regs { r = r }; cp0 = with_value cpu.cp0 exl 0; link = unlinked }) (slice_index cpu.cp0 14)) same
    where
      kind_of : (b : Bool) → (not ((if b then 14 else 31) == 31)) ≡ b
      kind_of true = refl
      kind_of false = refl

  -- ---- the ticks

  module _ {M : Type 0} (ask : M → Request → Outcome M) (Has : M → Type 0) (level : M → ℕ) (words : ℕ → ℕ) (serves : Serves ask Has level words) where
    abbrev pub Next : M → Cpu → ℕ → ℕ → Bool → (Regs → Type 0) → Type 0
    Next m cpu pc npc slot P = TickGoes base fetch va ask Has level words serves m cpu pc npc slot P (waited ask m cpu.ticks)

    abbrev pub At : ℕ → ℕ → Bool → (Regs → Type 0) → Cpu → Type 0
    At pc npc slot P cpu = InHandler base fetch va pc npc slot P cpu

    pub tick_380 : (m : M) (cpu : Cpu) (P : Regs → Type 0) → Has m → At 0xbfc00380 0xbfc00384 false P cpu → words 0x1fc00380 ≡ 0x401a6800 → Next m cpu 0xbfc00384 0xbfc00388 false (handler.HasCause base fetch va)
    tick_380 m cpu P has i word_is =
        tick_goes base fetch va ask Has level words serves m cpu 0xbfc00380 0xbfc00384 false P 0x401a6800 (λ c. with_result c 26 (sext32 (slice_index c.cp0 13))) 0xbfc00384 0xbfc00388 false (handler.HasCause base fetch va)
        has i (record { range = refl; aligned = refl; from = omega arith; below = omega arith }) word_is mfc0_cause (λ c. refl) (goes_380 P)

    pub tick_384 : (m : M) (cpu : Cpu) → Has m → At 0xbfc00384 0xbfc00388 false (handler.HasCause base fetch va) cpu → words 0x1fc00384 ≡ 0x335a007c → Next m cpu 0xbfc00388 0xbfc0038c false (handler.HasCode base fetch va)
    tick_384 m cpu has i word_is =
        tick_goes base fetch va ask Has level words serves m cpu 0xbfc00384 0xbfc00388 false (handler.HasCause base fetch va) 0x335a007c (λ c. with_result c 26 (bit_and (register c.regs 26) 0x7c)) 0xbfc00388 0xbfc0038c false (handler.HasCode base fetch va)
        has i (record { range = refl; aligned = refl; from = omega arith; below = omega arith }) word_is andi_k0 (λ c. refl) goes_384

    pub tick_388 : (m : M) (cpu : Cpu) → Has m → At 0xbfc00388 0xbfc0038c false (handler.HasCode base fetch va) cpu → words 0x1fc00388 ≡ 0x3b5b007c → Next m cpu 0xbfc0038c 0xbfc00390 false (handler.HasTold base fetch va)
    tick_388 m cpu has i word_is =
        tick_goes base fetch va ask Has level words serves m cpu 0xbfc00388 0xbfc0038c false (handler.HasCode base fetch va) 0x3b5b007c (λ c. with_result c 27 (bit_xor (register c.regs 26) 0x7c)) 0xbfc0038c 0xbfc00390 false (handler.HasTold base fetch va)
        has i (record { range = refl; aligned = refl; from = omega arith; below = omega arith }) word_is xori_k1 (λ c. refl) goes_388

    pub tick_3ac : (m : M) (cpu : Cpu) → Has m → At 0xbfc003ac 0xbfc003b0 false (handler.HasK1 base fetch va) cpu → words 0x1fc003ac ≡ 0x401a4000 → Next m cpu 0xbfc003b0 0xbfc003b4 false (handler.HasAddress base fetch va)
    tick_3ac m cpu has i word_is =
        tick_goes base fetch va ask Has level words serves m cpu 0xbfc003ac 0xbfc003b0 false (handler.HasK1 base fetch va) 0x401a4000 (λ c. with_result c 26 (sext32 (slice_index c.cp0 8))) 0xbfc003b0 0xbfc003b4 false (handler.HasAddress base fetch va)
        has i (record { range = refl; aligned = refl; from = omega arith; below = omega arith }) word_is mfc0_bad (λ c. refl) goes_3ac

    -- What the last tick comes to: what was due, after a tick without a step.
    pub record Returns (m : M) (cpu : Cpu) : Type 0 where
      pub held : hold ask m (tick_talk cpu) ≡ record { cpu = paused (due cpu) (level (waited ask m cpu.ticks)); end = Went; memory = waited ask m cpu.ticks }

    pub tick_3b4 : (m : M) (cpu : Cpu) → Has m → At 0xbfc003b4 0xbfc003b8 false (handler.HasAddress base fetch va) cpu → words 0x1fc003b4 ≡ 0x42000018 → Returns m cpu
    tick_3b4 m cpu has i word_is =
        let w : M = waited ask m cpu.ticks in
        let l : ℕ = level w in
        let c : Cpu = lined cpu l in
        let full : 13 < length cpu.cp0 = in_full cpu.cp0 13 i.system_is.full (omega arith) in
        let stands : Stands 0xbfc003b4 0xbfc003b8 false cpu = record { pc_is = i.pc_is; npc_is = i.npc_is; slot_is = i.slot_is; handling = i.system_is.handling; registers = i.registers } in
        let back : gone_back c ≡ due c = back_is_due c (inside_lined base fetch va 0xbfc003b4 0xbfc003b8 false (handler.HasAddress base fetch va) cpu l i) in
        let end : counted (lined (gone_back c) l) false ≡ paused (due cpu) l =
        ap (λ d. counted (lined d l) false) (back ∙ due_lined cpu l full) ∙ ap (λ d. counted d false) (lined_twice (due cpu) l (due_full cpu full)) in
        record {
          held = plain_at ask Has level words serves m cpu 0xbfc003b4 0xbfc003b8 false 0x42000018 gone_back has stands (record { range = refl; aligned = refl; from = omega arith; below = omega arith }) word_is eret
              ∙ ap {B = Held M} (λ d. record { cpu = d; end = Went; memory = w }) end;
        }

-- ---- the ways through the branches

module _ (base : Cpu) (va : ℕ) {M : Type 0} (ask : M → Request → Outcome M) (Has : M → Type 0) (level : M → ℕ) (words : ℕ → ℕ) (serves : Serves ask Has level words) where
  target_is : (cpu : Cpu) (pc : ℕ) (imm target : ℕ) → cpu.pc ≡ pc → branch_target pc imm ≡ target → branch_target cpu.pc imm ≡ target
  target_is cpu pc imm target at e = ap (λ p. branch_target p imm) at ∙ e

  to_3ac : branch_target 0xbfc0038c 7 ≡ 0xbfc003ac
  unfolding branch_target
  to_3ac = refl

  from_394 : branch_target 0xbfc00394 5 ≡ 0xbfc003ac
  unfolding branch_target
  from_394 = refl

  same_number : (a b : ℕ) → a ≡ b → (a == b) ≡ true
  same_number a b e = eq-eqb a b e

  -- a load or a store: beq k1,zero is taken, and xori k0 stands in its slot
  pub data_38c : (m : M) (cpu : Cpu) → Has m → At base false va ask Has level words serves 0xbfc0038c 0xbfc00390 false (handler.HasTold base false va) cpu → words 0x1fc0038c ≡ 0x13600007
      → Next base false va ask Has level words serves m cpu 0xbfc00390 0xbfc003ac true (handler.HasTold base false va)
  data_38c m cpu has i word_is =
      tick_goes base false va ask Has level words serves m cpu 0xbfc0038c 0xbfc00390 false (handler.HasTold base false va) 0x13600007 (λ c. branched c (register c.regs 27 == register c.regs 0) false (branch_target c.pc 7)) 0xbfc00390 0xbfc003ac true (handler.HasTold base false va)
      has i (record { range = refl; aligned = refl; from = omega arith; below = omega arith }) word_is beq_k1 (λ c. branch_ticks c (register c.regs 27 == register c.regs 0) (branch_target c.pc 7))
      (λ c j. taken_goes base false va 0xbfc0038c 0xbfc00390 0xbfc003ac false (handler.HasTold base false va) c (branch_target c.pc 7) (register c.regs 27 == register c.regs 0) j (target_is c 0xbfc0038c 7 0xbfc003ac j.pc_is to_3ac)
      (same_number (register c.regs 27) (register c.regs 0) (j.has.1 ∙ sym j.zero_is)))
    where
      branch_ticks : (c : Cpu) (b : Bool) (at : ℕ) → (branched c b false at).ticks ≡ c.ticks
      branch_ticks c true at = refl
      branch_ticks c false at = refl

  pub data_390 : (m : M) (cpu : Cpu) → Has m → At base false va ask Has level words serves 0xbfc00390 0xbfc003ac true (handler.HasTold base false va) cpu → words 0x1fc00390 ≡ 0x3b5a0038
      → Next base false va ask Has level words serves m cpu 0xbfc003ac 0xbfc003b0 false (handler.HasK1 base false va)
  data_390 m cpu has i word_is =
      tick_goes base false va ask Has level words serves m cpu 0xbfc00390 0xbfc003ac true (handler.HasTold base false va) 0x3b5a0038 (λ c. with_result c 26 (bit_xor (register c.regs 26) 0x38)) 0xbfc003ac 0xbfc003b0 false (handler.HasK1 base false va)
      has i (record { range = refl; aligned = refl; from = omega arith; below = omega arith }) word_is xori_k0 (λ c. refl)
      (λ c j. k0_goes base false va 0xbfc00390 0xbfc003ac 0xbfc003b0 true (handler.HasTold base false va) (handler.HasK1 base false va) c (bit_xor (register c.regs 26) 0x38) j refl
      (k1_kept base false va c (bit_xor (register c.regs 26) 0x38) ∙ j.has.1))

  -- a fetch: beq k1,zero is not taken, and beq k0,zero is
  pub fetch_38c : (m : M) (cpu : Cpu) → Has m → At base true va ask Has level words serves 0xbfc0038c 0xbfc00390 false (handler.HasTold base true va) cpu → words 0x1fc0038c ≡ 0x13600007
      → Next base true va ask Has level words serves m cpu 0xbfc00390 0xbfc00394 true (handler.HasTold base true va)
  fetch_38c m cpu has i word_is =
      tick_goes base true va ask Has level words serves m cpu 0xbfc0038c 0xbfc00390 false (handler.HasTold base true va) 0x13600007 (λ c. branched c (register c.regs 27 == register c.regs 0) false (branch_target c.pc 7)) 0xbfc00390 0xbfc00394 true (handler.HasTold base true va)
      has i (record { range = refl; aligned = refl; from = omega arith; below = omega arith }) word_is beq_k1 (λ c. branch_ticks c (register c.regs 27 == register c.regs 0) (branch_target c.pc 7))
      (λ c j. passed_goes base true va 0xbfc0038c 0xbfc00390 0xbfc00394 false (handler.HasTold base true va) c (branch_target c.pc 7) (register c.regs 27 == register c.regs 0) j refl
      (ap (λ n. n == register c.regs 0) j.has.1 ∙ ap (λ n. 0x44 == n) j.zero_is))
    where
      branch_ticks : (c : Cpu) (b : Bool) (at : ℕ) → (branched c b false at).ticks ≡ c.ticks
      branch_ticks c true at = refl
      branch_ticks c false at = refl

  pub fetch_390 : (m : M) (cpu : Cpu) → Has m → At base true va ask Has level words serves 0xbfc00390 0xbfc00394 true (handler.HasTold base true va) cpu → words 0x1fc00390 ≡ 0x3b5a0038
      → Next base true va ask Has level words serves m cpu 0xbfc00394 0xbfc00398 false (handler.HasRest base true va)
  fetch_390 m cpu has i word_is =
      tick_goes base true va ask Has level words serves m cpu 0xbfc00390 0xbfc00394 true (handler.HasTold base true va) 0x3b5a0038 (λ c. with_result c 26 (bit_xor (register c.regs 26) 0x38)) 0xbfc00394 0xbfc00398 false (handler.HasRest base true va)
      has i (record { range = refl; aligned = refl; from = omega arith; below = omega arith }) word_is xori_k0 (λ c. refl)
      (λ c j. k0_goes base true va 0xbfc00390 0xbfc00394 0xbfc00398 true (handler.HasTold base true va) (handler.HasRest base true va) c (bit_xor (register c.regs 26) 0x38) j refl
      (k0_read base true va 0xbfc00390 0xbfc00394 true (handler.HasTold base true va) c (bit_xor (register c.regs 26) 0x38) j ∙ ap (λ n. bit_xor n 0x38) j.has.0, k1_kept base true va c (bit_xor (register c.regs 26) 0x38) ∙ j.has.1))

  pub fetch_394 : (m : M) (cpu : Cpu) → Has m → At base true va ask Has level words serves 0xbfc00394 0xbfc00398 false (handler.HasRest base true va) cpu → words 0x1fc00394 ≡ 0x13400005
      → Next base true va ask Has level words serves m cpu 0xbfc00398 0xbfc003ac true (handler.HasRest base true va)
  fetch_394 m cpu has i word_is =
      tick_goes base true va ask Has level words serves m cpu 0xbfc00394 0xbfc00398 false (handler.HasRest base true va) 0x13400005 (λ c. branched c (register c.regs 26 == register c.regs 0) false (branch_target c.pc 5)) 0xbfc00398 0xbfc003ac true (handler.HasRest base true va)
      has i (record { range = refl; aligned = refl; from = omega arith; below = omega arith }) word_is beq_k0 (λ c. branch_ticks c (register c.regs 26 == register c.regs 0) (branch_target c.pc 5))
      (λ c j. taken_goes base true va 0xbfc00394 0xbfc00398 0xbfc003ac false (handler.HasRest base true va) c (branch_target c.pc 5) (register c.regs 26 == register c.regs 0) j (target_is c 0xbfc00394 5 0xbfc003ac j.pc_is from_394)
      (same_number (register c.regs 26) (register c.regs 0) (j.has.0 ∙ sym j.zero_is)))
    where
      branch_ticks : (c : Cpu) (b : Bool) (at : ℕ) → (branched c b false at).ticks ≡ c.ticks
      branch_ticks c true at = refl
      branch_ticks c false at = refl

  pub fetch_398 : (m : M) (cpu : Cpu) → Has m → At base true va ask Has level words serves 0xbfc00398 0xbfc003ac true (handler.HasRest base true va) cpu → words 0x1fc00398 ≡ 0
      → Next base true va ask Has level words serves m cpu 0xbfc003ac 0xbfc003b0 false (handler.HasRest base true va)
  fetch_398 m cpu has i word_is =
      tick_goes base true va ask Has level words serves m cpu 0xbfc00398 0xbfc003ac true (handler.HasRest base true va) 0 advanced 0xbfc003ac 0xbfc003b0 false (handler.HasRest base true va)
      has i (record { range = refl; aligned = refl; from = omega arith; below = omega arith }) word_is nop (λ c. refl)
      (λ c j. advanced_goes base true va 0xbfc00398 0xbfc003ac 0xbfc003b0 true (handler.HasRest base true va) c j refl)

-- ---- the CACHE

module _ (base : Cpu) (fetch : Bool) (va : ℕ) {M : Type 0} (ask : M → Request → Outcome M) (Has : M → Type 0) (level : M → ℕ) (words : ℕ → ℕ) (serves : Serves ask Has level words) where
  -- the address in k0, as the CACHE forms it
  formed : (v : ℕ) → v < 2 ^ 32 → (sext32 v + 0) % 2 ^ 32 ≡ v
  formed v small = cond_both (nat_lt v (2 ^ 31)) v (v + (2 ^ 64 - 2 ^ 32)) (λ n. (n + 0) % 2 ^ 32 ≡ v) (λ _. omega arith) (λ _. omega arith)

  -- The tick of the CACHE: the memory carries out the operation 23 on the address where that leads; the processor goes on.
  pub tick_3b0 : (m later : M) (cpu : Cpu) (pa : ℕ) (cached : Bool) → Has m → At base fetch va ask Has level words serves 0xbfc003b0 0xbfc003b4 false (handler.HasAddress base fetch va) cpu → words 0x1fc003b0 ≡ 0xbf570000
      → va < 2 ^ 32
      → ((c : Cpu) → InHandler base fetch va 0xbfc003b0 0xbfc003b4 false (handler.HasAddress base fetch va) c → route_of c false va va ≡ To pa cached)
      → ((c : Cpu) (tag : ℕ) → InHandler base fetch va 0xbfc003b0 0xbfc003b4 false (handler.HasAddress base fetch va) c → ask (waited ask m cpu.ticks) (Cache (access_of c va pa cached) 23 tag) ≡ record { memory = later; reply = reply.Tag tag })
      → level later ≡ level (waited ask m cpu.ticks)
      → TickGoes base fetch va ask Has level words serves m cpu 0xbfc003b4 0xbfc003b8 false (handler.HasAddress base fetch va) later
  tick_3b0 m later cpu pa cached has i word_is small leads done same_level =
      let w : M = waited ask m cpu.ticks in
      let l : ℕ = level w in
      let c : Cpu = lined cpu l in
      let j = inside_lined base fetch va 0xbfc003b0 0xbfc003b4 false (handler.HasAddress base fetch va) cpu l i in
      let kernel : is_kernel c.cp0 ≡ true = in_kernel c.cp0 j.system_is.handling in
      let at : (register c.regs 26 + 0) % 2 ^ 32 ≡ va = ap (λ n. (n + 0) % 2 ^ 32) j.has.0 ∙ formed va small in
      let pa_is : cpu.pc % 2 ^ 29 ≡ 0x1fc003b0 = ap (λ n. n % 2 ^ 29) i.pc_is in
      let access : Access = access_of c cpu.pc (cpu.pc % 2 ^ 29) false in
      let served = serves.fetch w access (waited_has base fetch va ask Has level words serves m cpu.ticks has) refl (subst (λ n. 0x1fc00380 ≤ n) (sym pa_is) (omega arith)) (subst (λ n. n < 0x1fc003b8) (sym pa_is) (omega arith)) in
      let asks : carry_out c 0xbf570000 ≡ Ask (Cache (access_of c va pa cached) 23 (word c.cp0 tag_lo)) (operated c) =
      cache_k0 c kernel ∙ ap (λ n. operate_by c (aimed c kernel n) (route_of c false n n)) at ∙ ap (operate_by c (aimed c kernel va)) (leads c j) in
      let g : Goes base fetch va 0xbfc003b4 0xbfc003b8 false (handler.HasAddress base fetch va) c (advanced c) =
      advanced_goes base fetch va 0xbfc003b0 0xbfc003b4 0xbfc003b8 false (handler.HasAddress base fetch va) c j refl in
      record {
        after = counted (lined (advanced c) l) false;
        held = cache_tick ask m later cpu l (cpu.pc % 2 ^ 29) 0xbf570000 (access_of c va pa cached) (serves.levels w)
            (served ∙ ap {B = Outcome M} (λ n. record { memory = w; reply = reply.Value n }) (ap words pa_is ∙ word_is))
            (no_interrupt c.cp0 j.system_is.handling)
            (ap (λ n. n % 4 == 0) i.pc_is)
            (kseg1_route c cpu.pc kernel (ap range_of i.pc_is))
            asks
            (done c (word c.cp0 tag_lo) j)
            (serves.levels later ∙ ap {B = Outcome M} (λ n. record { memory = later; reply = reply.Levels n }) same_level);
        inside = inside_counted base fetch va 0xbfc003b4 0xbfc003b8 false (handler.HasAddress base fetch va) (lined (advanced c) l) (inside_lined base fetch va 0xbfc003b4 0xbfc003b8 false (handler.HasAddress base fetch va) (advanced c) l g.inside);
        due_is = due_ticked cpu (advanced c) l (in_full cpu.cp0 13 i.system_is.full (omega arith)) (in_full (advanced c).cp0 13 g.inside.system_is.full (omega arith)) g.same;
        ticks_is = refl;
      }
