-- The tick of the handler's CACHE.
use Rattle.std.proofs.Common.{◌≡◌, ◌==◌, ◌+◌, ◌%◌, ◌^◌, ◌∙◌, ℕ, Bool, true, false, List, ap}
use Rattle.std.proofs.lemmas.List.{set-get_or}
use Rattle.mips3_alu.specs.Registers.{register}
use Rattle.cp0_regs.specs.Modes.{is_kernel, takes_interrupt}
use Rattle.cp0_regs.specs.Registers.{tag_lo}
use Rattle.cp0_regs.specs.State.{word}
use Rattle.mips3_exec.specs.declared.processor.Cpu.{Cpu}
use Rattle.mips3_exec.specs.declared.routes.Route.TheVariants.{To}
use Rattle.mips3_exec.specs.declared.talk.Access.{Access}
use Rattle.mips3_exec.specs.declared.talk.Request.{Request}
use Rattle.mips3_exec.specs.declared.talk.Request.TheVariants.{Levels, Fetch, Cache}
use Rattle.mips3_exec.specs.declared.talk.Reply.TheVariants as reply
use Rattle.mips3_exec.specs.declared.talk.StepEnd.TheVariants.{Went}
use Rattle.mips3_exec.specs.Processor.{counted, advanced}
use Rattle.mips3_exec.specs.References.{went, operated, operate_by}
use Rattle.mips3_exec.specs.Routes.{route_of, access_of}
use Rattle.mips3_exec.specs.Step.{step, fetched, carry_out}
use Rattle.mips3_exec.specs.Talk.{Ask, Outcome, Held, hold, and_then}
use Rattle.mips3_exec.specs.Tick.{tick_talk, closed, with_levels}
use Rattle.prom_code.proofs.AnyTick.{waited, lined, step_fetches}
use Rattle.prom_code.proofs.Instructions.{aimed, cache_k0}

-- TagLo as it was leaves the processor as it was
pub operated_same : (cpu : Cpu) → operated cpu (reply.Tag (word cpu.cp0 tag_lo)) ≡ went (advanced cpu)
unfolding operated
operated_same cpu = ap (λ (now : List ℕ). went (advanced (record cpu { cp0 = now }))) (set-get_or cpu.cp0 28 0)

-- the CACHE asks for Hit Writeback Invalidate SD of its address
pub cache_asks : (cpu : Cpu) (pa : ℕ) (cached : Bool) → is_kernel cpu.cp0 ≡ true
    → route_of cpu false ((register cpu.regs 26 + 0) % 2 ^ 32) ((register cpu.regs 26 + 0) % 2 ^ 32) ≡ To pa cached
    → carry_out cpu 0xbf570000 ≡ Ask (Cache (access_of cpu ((register cpu.regs 26 + 0) % 2 ^ 32) pa cached) 23 (word cpu.cp0 tag_lo)) (operated cpu)
cache_asks cpu pa cached kernel leads = cache_k0 cpu kernel ∙ ap (operate_by cpu (aimed cpu kernel ((register cpu.regs 26 + 0) % 2 ^ 32))) leads

module _ {M : Type 0} (ask : M → Request → Outcome M) (m later : M) (cpu : Cpu) (level pa code : ℕ) (access : Access)
    (levels : ask (waited ask m cpu.ticks) Levels ≡ record { memory = waited ask m cpu.ticks; reply = reply.Levels level })
    (fetches : ask (waited ask m cpu.ticks) (Fetch (access_of (lined cpu level) cpu.pc pa false)) ≡ record { memory = waited ask m cpu.ticks; reply = reply.Value code })
    (calm : takes_interrupt (lined cpu level).cp0 ≡ false)
    (aligned : (cpu.pc % 4 == 0) ≡ true)
    (route : route_of (lined cpu level) false cpu.pc cpu.pc ≡ To pa false)
    (does : carry_out (lined cpu level) code ≡ Ask (Cache access 23 (word (lined cpu level).cp0 tag_lo)) (operated (lined cpu level)))
    (done : ask (waited ask m cpu.ticks) (Cache access 23 (word (lined cpu level).cp0 tag_lo)) ≡ record { memory = later; reply = reply.Tag (word (lined cpu level).cp0 tag_lo) })
    (levels_later : ask later Levels ≡ record { memory = later; reply = reply.Levels level }) where
  pub cache_tick : hold ask m (tick_talk cpu) ≡ record { cpu = counted (lined (advanced (lined cpu level)) level) false; end = Went; memory = later }
  unfolding tick_talk
  cache_tick =
      let w : M = waited ask m cpu.ticks in
      let c : Cpu = lined cpu level in
      ap (λ (o : Outcome M). hold ask o.memory (and_then (step (with_levels cpu o.reply)) closed)) levels
      ∙ ap (λ talk. hold ask w (and_then talk closed)) (step_fetches c pa calm aligned route)
      ∙ ap (λ (o : Outcome M). hold ask o.memory (and_then (fetched c o.reply) closed)) fetches
      ∙ ap (λ talk. hold ask w (and_then talk closed)) does
      ∙ ap (λ (o : Outcome M). hold ask o.memory (and_then (operated c o.reply) closed)) done
      ∙ ap (λ talk. hold ask later (and_then talk closed)) (operated_same c)
      ∙ ap {B = Held M} (λ (o : Outcome M). record { cpu = counted (with_levels (advanced c) o.reply) false; end = Went; memory = o.memory }) levels_later
