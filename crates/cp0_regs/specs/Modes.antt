-- What the processor reads off Status, Cause and the other registers: its mode, whether coprocessor 0 is usable, and whether
-- an interrupt is taken.
-- Source: MIPS R4000 Microprocessor User's Manual (Heinrich, 2nd edition), chapter 4, "Operating Modes", and chapter 5, "Status
-- Register" and "Interrupt Exception".
use Rattle.std.specs.Prelude.{ℕ, Bool, ◌==◌, ◌/◌, ◌%◌, ◌^◌, ◌&&◌, ◌||◌, if◌then◌else◌, List}
use Rattle.std.specs.List.{list_any, range_with_len}
use Rattle.cp0_regs.specs.declared.mode.Mode.{Mode}
use Rattle.cp0_regs.specs.declared.mode.Mode.TheVariants.{Kernel, Supervisor, User}
use Rattle.cp0_regs.specs.declared.fields.Field.{Field}
use Rattle.cp0_regs.specs.Fields.{ie, exl, erl, ksu, im, bev, cu0, ip}
use Rattle.cp0_regs.specs.State.{value_of}

-- whether a flag, a field of one bit, is set
abbrev pub is_set : List ℕ → Field → Bool
is_set cp0 flag = value_of cp0 flag == 1

abbrev pub is_clear : List ℕ → Field → Bool
is_clear cp0 flag = value_of cp0 flag == 0

-- kernel mode where KSU is 0, EXL is 1 or ERL is 1; else supervisor mode where KSU is 1; else user mode
abbrev pub is_kernel : List ℕ → Bool
is_kernel cp0 = (value_of cp0 ksu == 0) || is_set cp0 exl || is_set cp0 erl

unfoldable pub mode_of : List ℕ → Mode
mode_of cp0 = if is_kernel cp0 then Kernel else if value_of cp0 ksu == 1 then Supervisor else User

-- coprocessor 0 is usable in kernel mode, and in every mode where CU0 is 1
abbrev pub has_coprocessor_0 : List ℕ → Bool
has_coprocessor_0 cp0 = is_kernel cp0 || is_set cp0 cu0

-- a state is quiet where no exception or error is being handled and exceptions lead into the PROM
abbrev pub is_quiet : List ℕ → Bool
is_quiet cp0 = is_clear cp0 exl && is_clear cp0 erl && is_set cp0 bev

-- a line asks for an interrupt, and may interrupt
abbrev pub is_pending : List ℕ → ℕ → Bool
is_pending cp0 line = (value_of cp0 ip / 2 ^ line % 2 == 1) && (value_of cp0 im / 2 ^ line % 2 == 1)

abbrev pub has_pending : List ℕ → Bool
has_pending cp0 = list_any (is_pending cp0) (range_with_len 0 8)

-- an interrupt is taken where interrupts are enabled, no exception or error is being handled, and some line is pending
unfoldable pub takes_interrupt : List ℕ → Bool
takes_interrupt cp0 = is_set cp0 ie && is_clear cp0 exl && is_clear cp0 erl && has_pending cp0
