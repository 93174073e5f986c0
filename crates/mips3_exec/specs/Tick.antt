-- One tick over any memory system: the inputs recorded for it, at most one beat of the disk, one step of the processor, then
-- the counts of CP0. The lines IP2 to IP6 are looked at before the step and after it, so that Cause shows them at every moment.
-- This order, and that a halted machine stands still, are this project's own.
use Rattle.std.specs.Prelude.{ℕ, Bool, true, false, Option, Some, None}
use Rattle.cp0_regs.specs.Counting.{with_lines}
use Rattle.mips3_exec.specs.declared.processor.Cpu.{Cpu}
use Rattle.mips3_exec.specs.declared.talk.StepEnd.{StepEnd}
use Rattle.mips3_exec.specs.declared.talk.StepEnd.TheVariants.{WroteWired, Trapped}
use Rattle.mips3_exec.specs.declared.talk.Reply.{Reply}
use Rattle.mips3_exec.specs.declared.talk.Reply.TheVariants as reply
use Rattle.mips3_exec.specs.declared.talk.Request.{Request}
use Rattle.mips3_exec.specs.declared.talk.Request.TheVariants.{Inputs, Beat, Levels}
use Rattle.mips3_exec.specs.declared.ticking.Tick.{Tick}
use Rattle.mips3_exec.specs.declared.ticking.Tick.TheVariants as tick
use Rattle.mips3_exec.specs.Processor.{counted}
use Rattle.mips3_exec.specs.Talk.{Talk, Done, Ask, Outcome, Held, hold, and_then}
use Rattle.mips3_exec.specs.Step.{step}

-- Cause shows the levels of the lines; no memory system replies anything else
abbrev pub with_levels : Cpu → Reply → Cpu
with_levels cpu (reply.Levels levels) = record cpu { cp0 = with_lines cpu.cp0 levels }
with_levels cpu _ = cpu

-- the inputs, a beat, and the step, for which the lines are as these left them
abbrev pub opened : Cpu → Talk
opened cpu = Ask (Inputs cpu.ticks) (λ inputs. Ask Beat (λ beat. Ask Levels (λ levels. step (with_levels cpu levels))))

-- the step wrote Wired
abbrev pub wrote_wired : StepEnd → Bool
wrote_wired WroteWired = true
wrote_wired _ = false

-- the lines as the step left them, and the counts of CP0
abbrev pub closed : Cpu → StepEnd → Talk
closed cpu end = Ask Levels (λ levels. Done (counted (with_levels cpu levels) (wrote_wired end)) end)

-- the tick of a machine that has not halted
unfoldable pub tick_talk : Cpu → Talk
tick_talk cpu = and_then (opened cpu) closed

-- what a tick comes to
pub record Ticked (M : Type 0) : Type 0 where
  pub cpu : Cpu
  pub memory : M
  pub answer : Tick

-- the answer: the code of an exception or an interrupt that was taken, or that the run has ended with this tick
abbrev pub answer_of : StepEnd → Option ℕ → Tick
answer_of (Trapped code) halt = tick.Trapped code
answer_of _ (Some code) = tick.Halted code
answer_of _ None = tick.Ran

-- the run goes on after a tick with this answer
abbrev pub goes_on : Tick → Bool
goes_on tick.Ran = true
goes_on (tick.Trapped code) = true
goes_on (tick.Halted code) = false

-- what a talk of a tick comes to, as a tick
abbrev pub ticked : {M : Type 0} → Held M → Ticked M
ticked held = record { cpu = held.cpu; memory = held.memory; answer = answer_of held.end held.cpu.halt }

-- a machine that has halted stands still
abbrev pub unless_halted : {M : Type 0} → (M → Request → Outcome M) → M → Cpu → Option ℕ → Ticked M
unless_halted ask memory cpu (Some code) = record { cpu = cpu; memory = memory; answer = tick.Halted code }
unless_halted ask memory cpu None = ticked (hold ask memory (tick_talk cpu))

-- the tick
unfoldable pub tick_of : {M : Type 0} → (M → Request → Outcome M) → M → Cpu → Ticked M
tick_of ask memory cpu = unless_halted ask memory cpu cpu.halt
