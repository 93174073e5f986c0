-- The pause: what a processor does, over any memory, where it takes a virtual coherency exception and the handler of it runs. Ticks
-- pass, in which the devices and the counts of CP0 go on and the processor makes no step; then the processor is as the handler leaves
-- it, and begins its instruction anew.
-- Source: this project's own. The codes of Cause are those of VCEI and VCED in the MIPS R4000 Microprocessor User's Manual, 2nd
-- edition (Heinrich), chapter 5; the values of k0 and k1, and the numbers of ticks, are those of the handler in this project's PROM.
use Rattle.std.specs.Prelude.{ℕ, zero, suc, ◌==◌, Bool, false, not, List, if◌then◌else◌, slice_index}
use Rattle.r4_words.specs.Words.{sext32}
use Rattle.mips3_alu.specs.declared.registers.Regs.{Regs}
use Rattle.mips3_alu.specs.Registers.{with_register}
use Rattle.cp0_regs.specs.Fields.{exc_code, bd, exl}
use Rattle.cp0_regs.specs.Registers.{epc, bad_vaddr}
use Rattle.cp0_regs.specs.State.{value_of, with_word, with_value}
use Rattle.cp0_exceptions.specs.Raising.{return_address}
use Rattle.ll_sc.specs.Linking.{unlinked}
use Rattle.mips3_exec.specs.declared.processor.Cpu.{Cpu}
use Rattle.mips3_exec.specs.declared.talk.Request.{Request}
use Rattle.mips3_exec.specs.declared.talk.Request.TheVariants.{Inputs, Beat, Levels}
use Rattle.mips3_exec.specs.declared.talk.StepEnd.TheVariants.{Went}
use Rattle.mips3_exec.specs.Processor.{counted, gone_to}
use Rattle.mips3_exec.specs.Talk.{Talk, Done, Ask, Outcome, Held, hold}
use Rattle.mips3_exec.specs.Tick.{with_levels}

-- ---- the ticks

-- a tick without a step: the inputs, a beat, the lines, and the counts of CP0
unfoldable pub pause_talk : Cpu → Talk
pause_talk cpu =
    Ask (Inputs cpu.ticks) (λ inputs. Ask Beat (λ beat. Ask Levels (λ levels. Done (counted (with_levels cpu levels) false) Went)))

-- so many of them, over any memory
unfoldable pub pauses : {M : Type 0} → (M → Request → Outcome M) → ℕ → Held M → Held M
pauses ask zero at = at
pauses ask (suc n) at = pauses ask n (hold ask at.memory (pause_talk at.cpu))

-- a pause at a fetch has 11 ticks, and one at a load or a store 9
abbrev pub pause_length : Bool → ℕ
pause_length fetch = if fetch then 11 else 9

-- ---- the end

-- k0 has the address, and k1 tells a fetch from an access to data
abbrev pub handled_registers : Regs → Bool → ℕ → Regs
handled_registers regs fetch va = with_register (with_register regs 26 (sext32 va)) 27 (if fetch then 0x44 else 0)

-- EPC and BD tell the instruction that begins anew, or the branch whose delay slot it stands in
abbrev pub with_return : List ℕ → ℕ → Bool → List ℕ
with_return cp0 pc slot = with_value (with_word cp0 epc (return_address pc slot)) bd (if slot then 1 else 0)

-- beside these, ExcCode is VCEI or VCED, and BadVAddr is the address
abbrev pub handled_cp0 : List ℕ → ℕ → Bool → Bool → ℕ → List ℕ
handled_cp0 cp0 pc slot fetch va = with_word (with_value (with_return cp0 pc slot) exc_code (if fetch then 14 else 31)) bad_vaddr va

-- the processor as the handler leaves it, from the state before the exception: it goes on from EPC, in no delay slot, and the link is
-- broken
unfoldable pub handled : Bool → ℕ → Cpu → Cpu
handled fetch va cpu =
    gone_to
    (record cpu {
      regs = handled_registers cpu.regs fetch va;
      cp0 = handled_cp0 cpu.cp0 cpu.pc cpu.slot fetch va;
      link = unlinked;
    })
    (return_address cpu.pc cpu.slot)

-- ---- inside the handler

-- whether the exception came of a fetch, as ExcCode tells it
abbrev pub of_fetch : List ℕ → Bool
of_fetch cp0 = not (value_of cp0 exc_code == 31)

-- a processor in the handler, as it will be when the handler has returned: of the kind of the exception, its address, CP0 and the
-- address of return
abbrev pub due_with : Cpu → Bool → ℕ → List ℕ → ℕ → Cpu
due_with cpu fetch va cp0 pc = gone_to (record cpu { regs = handled_registers cpu.regs fetch va; cp0 = cp0; link = unlinked }) pc

-- the same, as ExcCode, BadVAddr, EPC and the other registers of CP0 tell it, but for EXL, which will be clear
unfoldable pub due : Cpu → Cpu
due cpu = due_with cpu (of_fetch cpu.cp0) (slice_index cpu.cp0 8) (with_value cpu.cp0 exl 0) (slice_index cpu.cp0 14)
