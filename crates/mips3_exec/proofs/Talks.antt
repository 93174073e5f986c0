-- Laws of talks, which look at no instruction.
use Rattle.std.proofs.Common.{◌≡◌, refl, ap, sym, ◌∙◌}
use Rattle.mips3_exec.specs.declared.processor.Cpu.{Cpu}
use Rattle.mips3_exec.specs.declared.talk.StepEnd.{StepEnd}
use Rattle.mips3_exec.specs.declared.talk.Request.{Request}
use Rattle.mips3_exec.specs.Talk.{Talk, Done, Ask, Outcome, hold, and_then}
use Rattle.mips3_exec.specs.Tick.{tick_talk, opened, closed}

-- a talk and what comes after it are held one after the other
pub hold_and_then : {M : Type 0} (ask : M → Request → Outcome M) (m : M) (talk : Talk) (more : Cpu → StepEnd → Talk)
    → hold ask m (and_then talk more) ≡ hold ask (hold ask m talk).memory (more (hold ask m talk).cpu (hold ask m talk).end)
hold_and_then ask m (Done cpu end) more = refl
hold_and_then ask m (Ask request next) more = hold_and_then ask (ask m request).memory (next (ask m request).reply) more

-- a tick is its opening and then its closing
pub tick_is : {M : Type 0} (ask : M → Request → Outcome M) (m n : M) (cpu after : Cpu) (end : StepEnd)
    → after ≡ (hold ask m (opened cpu)).cpu → end ≡ (hold ask m (opened cpu)).end → n ≡ (hold ask m (opened cpu)).memory
    → hold ask n (closed after end) ≡ hold ask m (tick_talk cpu)
unfolding tick_talk
tick_is ask m n cpu after end is_cpu is_end is_memory =
    ap (λ w. hold ask w (closed after end)) is_memory
    ∙ ap (λ w. hold ask (hold ask m (opened cpu)).memory (closed w end)) is_cpu
    ∙ ap (λ w. hold ask (hold ask m (opened cpu)).memory (closed (hold ask m (opened cpu)).cpu w)) is_end
    ∙ sym (hold_and_then ask m (opened cpu) closed)
