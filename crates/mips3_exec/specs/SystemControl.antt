-- The instructions of coprocessor 0: the moves from and to its registers, the operations on the TLB, and the return from an
-- exception.
-- Source: MIPS R4000 Microprocessor User's Manual, 2nd edition (Heinrich), appendix A, the pages of MFC0, MTC0, DMFC0, DMTC0,
-- TLBR, TLBWI, TLBWR, TLBP and ERET; chapter 4 for the registers of the TLB's pairs. CP0 has registers of 32 bits here, and
-- an index past the last pair writes nothing and reads zeros: both are this project's own.
use Rattle.std.specs.Prelude.{ℕ, Bool, true, false, ◌==◌, ◌%◌, ◌^◌, nat_lt, if◌then◌else◌, List, slice_index, slice_set, Option, Some, None}
use Rattle.r4_words.specs.Words.{sext32}
use Rattle.mips3_table.specs.declared.instruction.Inst.{Inst}
use Rattle.mips3_table.specs.declared.operations.Operation.{Operation}
use Rattle.mips3_table.specs.declared.operations.Operation.TheVariants.{MoveFromCp0, MoveToCp0, ReadTlb, WriteIndexedTlb, WriteRandomTlb, ProbeTlb, ReturnFromException, OperateCache}
use Rattle.mips3_alu.specs.Registers.{low_word}
use Rattle.cp0_regs.specs.Moves.{written}
use Rattle.cp0_regs.specs.Registers.{index, random, entry_lo0, entry_lo1, page_mask, wired, entry_hi}
use Rattle.cp0_regs.specs.State.{word, with_word}
use Rattle.tlb_model.specs.declared.pairs.Pair.{Pair}
use Rattle.tlb_model.specs.Pairs.{zero_pair, pair_at, stored_pair, asid_of}
use Rattle.tlb_model.specs.Translation.{first_index}
use Rattle.mips3_exec.specs.declared.processor.Cpu.{Cpu}
use Rattle.mips3_exec.specs.declared.talk.StepEnd.{StepEnd}
use Rattle.mips3_exec.specs.declared.talk.StepEnd.TheVariants.{Went, WroteWired}
use Rattle.mips3_exec.specs.Processor.{advanced, with_result, gone_back}

-- ---- the moves

-- a register of CP0 into a general one, sign-extended
abbrev pub moved_from : Cpu → Inst → Cpu
moved_from cpu inst = with_result cpu inst.rt (sext32 (slice_index cpu.cp0 inst.rd))

-- the low word of a general register into one of CP0
abbrev pub moved_to : Cpu → Inst → Cpu
moved_to cpu inst = advanced (record cpu { cp0 = written cpu.cp0 inst.rd (low_word cpu.regs inst.rt) })

-- ---- the TLB

-- the registers of CP0 with a pair in them
abbrev pub with_pair : Cpu → Pair → Cpu
with_pair cpu pair = record cpu {
  cp0 = with_word (with_word (with_word (with_word cpu.cp0 page_mask pair.mask) entry_hi pair.hi) entry_lo0 pair.lo0) entry_lo1 pair.lo1;
}

-- the pair that is stored of the registers of CP0
abbrev pub held_pair : Cpu → Pair
held_pair cpu = stored_pair (word cpu.cp0 page_mask) (word cpu.cp0 entry_hi) (word cpu.cp0 entry_lo0) (word cpu.cp0 entry_lo1)

-- the TLB with that pair at an index, where there is one of it
abbrev pub with_entry : Cpu → ℕ → Cpu
with_entry cpu at = if nat_lt at 48 then record cpu { tlb = slice_set cpu.tlb at (held_pair cpu) } else cpu

-- the pair at an index, zeros past the last
abbrev pub entry_at : List Pair → ℕ → Pair
entry_at tlb at = if nat_lt at 48 then pair_at tlb at else zero_pair

-- what Index shows of a search: the pair that was found, or P, its bit 31
abbrev pub probed : Option ℕ → ℕ
probed (Some at) = at
probed None = 2 ^ 31

-- the low six bits of Index
abbrev pub indexed : Cpu → ℕ
indexed cpu = word cpu.cp0 index % 2 ^ 6

-- the search for EntryHi
abbrev pub search : Cpu → Option ℕ
search cpu = first_index cpu.tlb (word cpu.cp0 entry_hi) (asid_of (word cpu.cp0 entry_hi))

-- ---- all of them

-- the processor after an instruction of coprocessor 0
unfoldable pub controlled : Cpu → Inst → Operation → Cpu
controlled cpu inst (MoveFromCp0 width) = moved_from cpu inst
controlled cpu inst (MoveToCp0 width) = moved_to cpu inst
controlled cpu inst ReadTlb = advanced (with_pair cpu (entry_at cpu.tlb (indexed cpu)))
controlled cpu inst WriteIndexedTlb = advanced (with_entry cpu (indexed cpu))
controlled cpu inst WriteRandomTlb = advanced (with_entry cpu (word cpu.cp0 random))
controlled cpu inst ProbeTlb = advanced (record cpu { cp0 = with_word cpu.cp0 index (probed (search cpu)) })
controlled cpu inst ReturnFromException = gone_back cpu
controlled cpu inst _ = advanced cpu

-- how it ends: a write of Wired is told, since Random stays as it made it
unfoldable pub control_end : Inst → Operation → StepEnd
control_end inst (MoveToCp0 width) = if inst.rd == wired.number then WroteWired else Went
control_end inst _ = Went

-- an instruction of coprocessor 0, the cache operation among them
abbrev pub is_privileged : Operation → Bool
is_privileged (MoveFromCp0 width) = true
is_privileged (MoveToCp0 width) = true
is_privileged ReadTlb = true
is_privileged WriteIndexedTlb = true
is_privileged WriteRandomTlb = true
is_privileged ProbeTlb = true
is_privileged ReturnFromException = true
is_privileged OperateCache = true
is_privileged _ = false
