-- MTC0: what a write by software makes of the registers.
-- Source: MIPS R4000 Microprocessor User's Manual (Heinrich, 2nd edition), chapter 4 (Random, Wired, PageMask) and chapter 5
-- (Compare, Status, Cause).
use Rattle.std.specs.Prelude.{ℕ, ◌==◌, if◌then◌else◌, List, slice_index, slice_set}
use Rattle.cp0_regs.specs.Bits.{merged}
use Rattle.cp0_regs.specs.Fields.{timer_line}
use Rattle.cp0_regs.specs.PageMasks.{longest_run}
use Rattle.cp0_regs.specs.Registers.{written_bits, random, page_mask, wired, compare}
use Rattle.cp0_regs.specs.State.{with_word, with_value}

-- what a register takes of the value: PageMask its longest run of pairs, every other the value
abbrev pub taken : ℕ → ℕ → ℕ
taken number value = if number == page_mask.number then longest_run value else value

-- what else a write does: to Wired, it sends Random to the last pair; to Compare, it takes the timer's interrupt back
abbrev pub with_effect : ℕ → List ℕ → List ℕ
with_effect number cp0 =
    if number == wired.number then with_word cp0 random 47
    else if number == compare.number then with_value cp0 timer_line 0
    else cp0

-- the registers after a write: the register's bits that MTC0 writes are those that it takes, and its others stay
unfoldable pub written : List ℕ → ℕ → ℕ → List ℕ
written cp0 number value =
    with_effect number (slice_set cp0 number (merged (written_bits number) (slice_index cp0 number) (taken number value)))
