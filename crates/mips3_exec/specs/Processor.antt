-- The architectural state of the processor, and the ways on from an instruction.
-- Source: MIPS R4000 Microprocessor User's Manual, 2nd edition (Heinrich): the CPU registers (chapter 1), CP0 (chapters 4 and
-- 5), the TLB (chapter 4), the link bit (appendix A, LL and SC), and the branch delay slot (chapter 3). The number of ticks and
-- the halt code are this project's own.
use Rattle.std.specs.Prelude.{ℕ, Bool, ◌+◌, ◌%◌, ◌^◌, true, false, if◌then◌else◌, None}
use Rattle.mips3_alu.specs.Registers.{with_register, zero_registers}
use Rattle.cp0_regs.specs.Registers.{reset_cp0}
use Rattle.cp0_regs.specs.Counting as system
use Rattle.cp0_exceptions.specs.declared.raising.Raised.{Raised}
use Rattle.cp0_exceptions.specs.Raising.{raised, vector_of}
use Rattle.cp0_exceptions.specs.Leaving.{left, return_of}
use Rattle.ll_sc.specs.Linking.{unlinked}
use Rattle.tlb_model.specs.Pairs.{zero_pairs}
use Rattle.mips3_exec.specs.declared.processor.Cpu.{Cpu}

-- the state at reset: the processor begins at the reset vector, in no delay slot
unfoldable pub reset_cpu : ℕ → Cpu
reset_cpu config = record {
  regs = zero_registers;
  pc = 0xbfc00000;
  npc = 0xbfc00004;
  slot = false;
  link = unlinked;
  cp0 = reset_cp0 config;
  tlb = zero_pairs;
  ticks = 0;
  halt = None;
}

-- on to the next instruction, and past it
abbrev pub advanced : Cpu → Cpu
advanced cpu = record cpu { pc = cpu.npc; npc = (cpu.npc + 4) % 2 ^ 32; slot = false }

-- an instruction whose only effect is the value of a register
abbrev pub with_result : Cpu → ℕ → ℕ → Cpu
with_result cpu at value = advanced (record cpu { regs = with_register cpu.regs at value })

-- a jump or a branch: its delay slot comes next, but for a branch likely that is not taken, whose delay slot is nullified
abbrev pub branched : Cpu → Bool → Bool → ℕ → Cpu
branched cpu taken likely target =
    if taken then record cpu { pc = cpu.npc; npc = target; slot = true }
    else if likely then record cpu { pc = (cpu.npc + 4) % 2 ^ 32; npc = (cpu.npc + 8) % 2 ^ 32; slot = false }
    else record cpu { pc = cpu.npc; npc = (cpu.npc + 4) % 2 ^ 32; slot = true }

-- on from an address, in no delay slot
abbrev pub gone_to : Cpu → ℕ → Cpu
gone_to cpu pc = record cpu { pc = pc; npc = (pc + 4) % 2 ^ 32; slot = false }

-- an exception or an interrupt is taken
abbrev pub taken : Cpu → Raised → Cpu
taken cpu what = gone_to (record cpu { cp0 = raised cpu.cp0 what cpu.pc cpu.slot }) (vector_of cpu.cp0 what.refill)

-- the return from an exception, which also clears the link
abbrev pub gone_back : Cpu → Cpu
gone_back cpu = gone_to (record cpu { cp0 = left cpu.cp0; link = unlinked }) (return_of cpu.cp0)

-- the end of a tick: CP0 counts it, by whether it wrote Wired, and its number grows
abbrev pub counted : Cpu → Bool → Cpu
counted cpu wrote_wired = record cpu { cp0 = system.counted cpu.cp0 wrote_wired; ticks = cpu.ticks + 1 }
