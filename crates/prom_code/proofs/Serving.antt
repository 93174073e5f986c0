-- A memory system that serves the words of the handler, and a tick at an instruction of it that asks for nothing.
use Rattle.std.proofs.Common.{◌≡◌, ◌==◌, ◌%◌, ◌^◌, ◌<◌, ◌≤◌, ◌∙◌, ℕ, Bool, true, false, length, refl, ap, sym, subst, arith}
use Rattle.cp0_regs.specs.Counting.{counted}
use Rattle.cp0_regs.specs.Modes.{is_kernel}
use Rattle.tlb_model.specs.Segments.{Kseg1, range_of}
use Rattle.mips3_exec.specs.declared.processor.Cpu.{Cpu}
use Rattle.mips3_exec.specs.declared.talk.Access.{Access}
use Rattle.mips3_exec.specs.declared.talk.Request.{Request}
use Rattle.mips3_exec.specs.declared.talk.Request.TheVariants.{Inputs, Beat, Levels, Fetch}
use Rattle.mips3_exec.specs.declared.talk.Reply.TheVariants as reply
use Rattle.mips3_exec.specs.declared.talk.StepEnd.TheVariants.{Went}
use Rattle.mips3_exec.specs.Processor as cpus
use Rattle.mips3_exec.specs.References.{went}
use Rattle.mips3_exec.specs.Routes.{access_of}
use Rattle.mips3_exec.specs.Step.{carry_out}
use Rattle.mips3_exec.specs.Talk.{Outcome, hold}
use Rattle.mips3_exec.specs.Tick.{tick_talk}
use Rattle.prom_code.proofs.AnyTick.{waited, lined, plain_tick}
use Rattle.prom_code.proofs.Handling.{IsHandling, in_kernel, no_interrupt, lined_handles, kseg1_route}

-- A memory system that serves these words past the caches, while it has a fact.
pub record Serves {M : Type 0} (ask : M → Request → Outcome M) (Has : M → Type 0) (level : M → ℕ) (words : ℕ → ℕ) : Type 0 where
  pub inputs : (m : M) (tick : ℕ) → Has m → Has (ask m (Inputs tick)).memory
  pub beat : (m : M) → Has m → Has (ask m Beat).memory
  pub levels : (m : M) → ask m Levels ≡ record { memory = m; reply = reply.Levels (level m) }
  pub fetch : (m : M) (access : Access) → Has m → access.cached ≡ false → 0x1fc00380 ≤ access.pa → access.pa < 0x1fc003b8
      → ask m (Fetch access) ≡ record { memory = m; reply = reply.Value (words access.pa) }

-- The processor stands at an instruction of the handler.
pub record Stands (pc npc : ℕ) (slot : Bool) (cpu : Cpu) : Type 0 where
  pub pc_is : cpu.pc ≡ pc
  pub npc_is : cpu.npc ≡ npc
  pub slot_is : cpu.slot ≡ slot
  pub handling : IsHandling cpu.cp0
  pub registers : length cpu.regs.r ≡ 32

-- An address of the handler.
pub record IsInHandler (pc : ℕ) : Type 0 where
  pub range : range_of pc ≡ Kseg1
  pub aligned : (pc % 4 == 0) ≡ true
  pub from : 0x1fc00380 ≤ pc % 2 ^ 29
  pub below : pc % 2 ^ 29 < 0x1fc003b8

module _ {M : Type 0} (ask : M → Request → Outcome M) (Has : M → Type 0) (level : M → ℕ) (words : ℕ → ℕ) (serves : Serves ask Has level words) where
  -- the processor after a tick whose instruction does this
  abbrev pub ticked : M → Cpu → (Cpu → Cpu) → Cpu
  ticked m cpu does = cpus.counted (lined (does (lined cpu (level (waited ask m cpu.ticks)))) (level (waited ask m cpu.ticks))) false

  pub plain_at : (m : M) (cpu : Cpu) (pc npc : ℕ) (slot : Bool) (code : ℕ) (does : Cpu → Cpu) → Has m → Stands pc npc slot cpu → IsInHandler pc → words (pc % 2 ^ 29) ≡ code
      → ((c : Cpu) → is_kernel c.cp0 ≡ true → carry_out c code ≡ went (does c))
      → hold ask m (tick_talk cpu) ≡ record { cpu = ticked m cpu does; end = Went; memory = waited ask m cpu.ticks }
  plain_at m cpu pc npc slot code does has stands inside word_is carried =
      let w : M = waited ask m cpu.ticks in
      let l : ℕ = level w in
      let c : Cpu = lined cpu l in
      let handling : IsHandling c.cp0 = lined_handles cpu.cp0 l stands.handling in
      let pa_is : cpu.pc % 2 ^ 29 ≡ pc % 2 ^ 29 = ap (λ at. at % 2 ^ 29) stands.pc_is in
      let access : Access = access_of c cpu.pc (cpu.pc % 2 ^ 29) false in
      let served = serves.fetch w access (serves.beat (ask m (Inputs cpu.ticks)).memory (serves.inputs m cpu.ticks has)) refl (subst (λ at. 0x1fc00380 ≤ at) (sym pa_is) inside.from) (subst (λ at. at < 0x1fc003b8) (sym pa_is) inside.below) in
      let code_is : words (cpu.pc % 2 ^ 29) ≡ code = ap words pa_is ∙ word_is in
      plain_tick ask m cpu (does c) l (cpu.pc % 2 ^ 29) code (serves.levels w)
      (served ∙ ap {B = Outcome M} (λ at. record { memory = w; reply = reply.Value at }) code_is)
      (no_interrupt c.cp0 handling)
      (ap (λ at. at % 4 == 0) stands.pc_is ∙ inside.aligned)
      (kseg1_route c cpu.pc (in_kernel c.cp0 handling) (ap range_of stands.pc_is ∙ inside.range))
      (carried c (in_kernel c.cp0 handling))
