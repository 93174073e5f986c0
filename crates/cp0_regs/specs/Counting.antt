-- What changes without software: the devices' lines, and the counters at the end of a tick.
-- Source: MIPS R4000 Microprocessor User's Manual (Heinrich, 2nd edition), chapter 4 (Random, Wired) and chapter 5 (Count,
-- Compare, Cause). One count a tick for Count and Random is this machine's own.
use Rattle.std.specs.Prelude.{ℕ, Bool, ◌==◌, ◌+◌, ◌-◌, ◌%◌, ◌^◌, ◌||◌, if◌then◌else◌, List}
use Rattle.cp0_regs.specs.Fields.{device_lines, timer_line}
use Rattle.cp0_regs.specs.Registers.{random, wired, count, compare}
use Rattle.cp0_regs.specs.State.{word, with_word, with_value}

-- the registers with these levels on the devices' lines, IP2 to IP6
abbrev pub with_lines : List ℕ → ℕ → List ℕ
with_lines cp0 levels = with_value cp0 device_lines levels

-- Count grows by one, and begins again after the last word
abbrev pub with_count : List ℕ → List ℕ
with_count cp0 = with_word cp0 count ((word cp0 count + 1) % 2 ^ 32)

-- the timer asks for an interrupt where Count is Compare
abbrev pub with_timer : List ℕ → List ℕ
with_timer cp0 = if word cp0 count == word cp0 compare then with_value cp0 timer_line 1 else cp0

-- Random falls by one, from the last pair down to Wired or 0 and again from the last pair; a tick that wrote Wired
-- leaves it there
abbrev pub next_random : List ℕ → Bool → ℕ
next_random cp0 wrote_wired =
    if wrote_wired || (word cp0 random == word cp0 wired) || (word cp0 random == 0) then 47 else word cp0 random - 1

abbrev pub with_random : List ℕ → Bool → List ℕ
with_random cp0 wrote_wired = with_word cp0 random (next_random cp0 wrote_wired)

-- the end of a tick
unfoldable pub counted : List ℕ → Bool → List ℕ
counted cp0 wrote_wired = with_random (with_timer (with_count cp0)) wrote_wired
