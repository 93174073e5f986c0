-- A tick of an instruction that is fetched past the caches and asks nothing.
use Rattle.std.proofs.Common.{◌≡◌, ◌==◌, ◌%◌, ◌∙◌, ℕ, true, false, if◌then◌else◌, ap}
use Rattle.cp0_regs.specs.Counting.{with_lines}
use Rattle.cp0_regs.specs.Modes.{takes_interrupt}
use Rattle.mips3_exec.specs.declared.processor.Cpu.{Cpu}
use Rattle.mips3_exec.specs.declared.routes.Route.TheVariants.{To}
use Rattle.mips3_exec.specs.declared.talk.Request.{Request}
use Rattle.mips3_exec.specs.declared.talk.Request.TheVariants.{Inputs, Beat, Levels, Fetch}
use Rattle.mips3_exec.specs.declared.talk.Reply.TheVariants as reply
use Rattle.mips3_exec.specs.declared.talk.StepEnd.TheVariants.{Went}
use Rattle.mips3_exec.specs.Pausing.{pause_talk}
use Rattle.mips3_exec.specs.Processor.{counted}
use Rattle.mips3_exec.specs.References.{went, trapped}
use Rattle.mips3_exec.specs.Routes.{plain, address_error, route_of, access_of}
use Rattle.mips3_exec.specs.Step.{step, fetch, fetch_by, fetched, carry_out}
use Rattle.mips3_exec.specs.Talk.{Ask, Outcome, Held, hold, and_then}
use Rattle.mips3_exec.specs.Tick.{tick_talk, closed, with_levels}

-- the processor with the lines of a level
abbrev pub lined : Cpu → ℕ → Cpu
lined cpu level = record cpu { cp0 = with_lines cpu.cp0 level }

-- the processor after a tick without a step, at a level of the lines
abbrev pub paused : Cpu → ℕ → Cpu
paused cpu level = counted (lined cpu level) false

-- a step that takes no interrupt and fetches past the caches
pub step_fetches : (cpu : Cpu) (pa : ℕ) → takes_interrupt cpu.cp0 ≡ false → (cpu.pc % 4 == 0) ≡ true → route_of cpu false cpu.pc cpu.pc ≡ To pa false
    → step cpu ≡ Ask (Fetch (access_of cpu cpu.pc pa false)) (fetched cpu)
unfolding step fetch
step_fetches cpu pa calm aligned route =
    ap (λ b. if b then trapped cpu (plain 0) else fetch cpu) calm
    ∙ ap (λ b. if b then fetch_by cpu (route_of cpu false cpu.pc cpu.pc) else trapped cpu (address_error false cpu.pc)) aligned
    ∙ ap (fetch_by cpu) route

module _ {M : Type 0} (ask : M → Request → Outcome M) where
  -- the memory system after the inputs and the beat of a tick
  abbrev pub waited : M → ℕ → M
  waited m tick = (ask (ask m (Inputs tick)).memory Beat).memory

  -- a tick without a step
  pub pause_tick : (m : M) (cpu : Cpu) (level : ℕ) → ask (waited m cpu.ticks) Levels ≡ record { memory = waited m cpu.ticks; reply = reply.Levels level }
      → hold ask m (pause_talk cpu) ≡ record { cpu = paused cpu level; end = Went; memory = waited m cpu.ticks }
  unfolding pause_talk
  pause_tick m cpu level levels = ap {B = Held M} (λ (o : Outcome M). record { cpu = counted (with_levels cpu o.reply) false; end = Went; memory = o.memory }) levels

  module _ (m : M) (cpu after : Cpu) (level pa code : ℕ)
      (levels : ask (waited m cpu.ticks) Levels ≡ record { memory = waited m cpu.ticks; reply = reply.Levels level })
      (word : ask (waited m cpu.ticks) (Fetch (access_of (lined cpu level) cpu.pc pa false)) ≡ record { memory = waited m cpu.ticks; reply = reply.Value code })
      (calm : takes_interrupt (lined cpu level).cp0 ≡ false)
      (aligned : (cpu.pc % 4 == 0) ≡ true)
      (route : route_of (lined cpu level) false cpu.pc cpu.pc ≡ To pa false)
      (does : carry_out (lined cpu level) code ≡ went after) where
    pub plain_tick : hold ask m (tick_talk cpu) ≡ record { cpu = counted (lined after level) false; end = Went; memory = waited m cpu.ticks }
    unfolding tick_talk
    plain_tick =
        let w : M = waited m cpu.ticks in
        let c : Cpu = lined cpu level in
        ap (λ (o : Outcome M). hold ask o.memory (and_then (step (with_levels cpu o.reply)) closed)) levels
        ∙ ap (λ talk. hold ask w (and_then talk closed)) (step_fetches c pa calm aligned route)
        ∙ ap (λ (o : Outcome M). hold ask o.memory (and_then (fetched c o.reply) closed)) word
        ∙ ap (λ talk. hold ask w (and_then talk closed)) does
        ∙ ap {B = Held M} (λ (o : Outcome M). record { cpu = counted (with_levels after o.reply) false; end = Went; memory = o.memory }) levels
