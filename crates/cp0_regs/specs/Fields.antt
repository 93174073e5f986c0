-- The fields of the registers, by the manual's names: the register's number, and the highest and the lowest bit.
-- Source: MIPS R4000 Microprocessor User's Manual (Heinrich, 2nd edition), chapter 4 (EntryHi, Config) and
-- chapter 5 (Context, Status, Cause). What the manual has beside these is zero here.
use Rattle.std.specs.Prelude.{ℕ, ◌+◌, List, [], ◌∷◌}
use Rattle.cp0_regs.specs.declared.fields.Field.{Field}
use Rattle.cp0_regs.specs.Bits.{bits}

abbrev pub field_at : ℕ → ℕ → ℕ → Field
field_at register high low = record { register = register; high = high; low = low }

-- ---- Context: the page of the last fault of the TLB
abbrev pub bad_vpn2 : Field
bad_vpn2 = field_at 4 22 4

-- ---- EntryHi: the pair of pages, and the number of the address space
abbrev pub vpn2 : Field
vpn2 = field_at 10 31 13

abbrev pub asid : Field
asid = field_at 10 7 0

-- ---- Status: interrupts are enabled
abbrev pub ie : Field
ie = field_at 12 0 0

-- an exception was taken
abbrev pub exl : Field
exl = field_at 12 1 1

-- an error was taken, a reset among them
abbrev pub erl : Field
erl = field_at 12 2 2

-- the mode: 0 kernel, 1 supervisor, 2 user
abbrev pub ksu : Field
ksu = field_at 12 4 3

-- the lines that may interrupt
abbrev pub im : Field
im = field_at 12 15 8

-- the hit of a cache operation in the manual, and a bit to keep here
abbrev pub ch : Field
ch = field_at 12 18 18

-- exceptions lead into the PROM
abbrev pub bev : Field
bev = field_at 12 22 22

-- coprocessor 0 is usable in every mode
abbrev pub cu0 : Field
cu0 = field_at 12 28 28

abbrev pub status_fields : List Field
status_fields = ie ∷ exl ∷ erl ∷ ksu ∷ im ∷ ch ∷ bev ∷ cu0 ∷ []

-- ---- Cause: the code of the exception
abbrev pub exc_code : Field
exc_code = field_at 13 6 2

-- the lines that ask for an interrupt: 0 and 1 are software's, 2 to 6 the devices', 7 the timer's
abbrev pub ip : Field
ip = field_at 13 15 8

abbrev pub software_lines : Field
software_lines = field_at 13 9 8

abbrev pub device_lines : Field
device_lines = field_at 13 14 10

abbrev pub timer_line : Field
timer_line = field_at 13 15 15

-- the unit of an unusable coprocessor
abbrev pub ce : Field
ce = field_at 13 29 28

-- the exception came in a delay slot
abbrev pub bd : Field
bd = field_at 13 31 31

abbrev pub cause_fields : List Field
cause_fields = exc_code ∷ ip ∷ ce ∷ bd ∷ []

-- ---- Config: the attribute of kseg0
abbrev pub k0 : Field
k0 = field_at 16 2 0

-- the bits of a field, and of several that share none
abbrev pub bits_of : Field → ℕ
bits_of field = bits field.high field.low

abbrev pub bits_of_all : List Field → ℕ
bits_of_all [] = 0
bits_of_all (field ∷ fields) = bits_of field + bits_of_all fields
