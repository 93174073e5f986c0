use Rattle.std.proofs.Common.{◌∙◌, ap, subst, sym}
use Rattle.mips3_exec.specs.Fixed.{HasFixed}
use Rattle.mips3_exec.specs.Talk.{Held}
use Rattle.mips3_exec.proofs.Fixed.{held_talk_fixed}
use Rattle.mips3_exec.proofs.Talks.{tick_is}
use Rattle.mips3_exec.proofs.ticking.talk.Goals as goal

pub returns-clause-end : goal.returns-clause-end
returns-clause-end g c = c.close.ensures.end ∙ ap (λ (h : Held _). h.end) (tick_is g.M.MemorySystem.ask_gives c.args.memory.now _ c.args.cpu.now _ _ c.open-end.ensures.cpu c.open-end.ensures.end c.open-end.ensures.memory)

pub returns-clause-cpu : goal.returns-clause-cpu
returns-clause-cpu g c = c.close.ensures.cpu ∙ ap (λ (h : Held _). h.cpu) (tick_is g.M.MemorySystem.ask_gives c.args.memory.now _ c.args.cpu.now _ _ c.open-end.ensures.cpu c.open-end.ensures.end c.open-end.ensures.memory)

pub returns-clause-memory : goal.returns-clause-memory
returns-clause-memory g c = c.close.ensures.memory ∙ ap (λ (h : Held _). h.memory) (tick_is g.M.MemorySystem.ask_gives c.args.memory.now _ c.args.cpu.now _ _ c.open-end.ensures.cpu c.open-end.ensures.end c.open-end.ensures.memory)

pub returns-clause-fixed : goal.returns-clause-fixed
returns-clause-fixed g c = λ config fixed. subst (HasFixed config) (sym (returns-clause-cpu g c)) (held_talk_fixed config g.M.MemorySystem.ask_gives c.args.memory.now c.args.cpu.now fixed)
