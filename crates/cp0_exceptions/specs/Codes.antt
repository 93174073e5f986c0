-- The codes of the causes, by name.
-- Source: MIPS R4000 Microprocessor User's Manual (Heinrich, 2nd edition), chapter 5, "Cause Register", the codes of its field
-- ExcCode.
use Rattle.std.specs.Prelude.{ℕ}

-- Int, an interrupt
abbrev pub interrupt : ℕ
interrupt = 0

-- Mod, a store to a page that is not dirty
abbrev pub modified : ℕ
modified = 1

-- TLBL, no page or an invalid one, at a fetch or load
abbrev pub tlb_load : ℕ
tlb_load = 2

-- TLBS, the same at a store
abbrev pub tlb_store : ℕ
tlb_store = 3

-- AdEL, an address error at a fetch or load
abbrev pub address_load : ℕ
address_load = 4

-- AdES, an address error at a store
abbrev pub address_store : ℕ
address_store = 5

-- IBE, a bus error at a fetch
abbrev pub bus_fetch : ℕ
bus_fetch = 6

-- DBE, a bus error at a load or store
abbrev pub bus_data : ℕ
bus_data = 7

-- Sys
abbrev pub system_call : ℕ
system_call = 8

-- Bp
abbrev pub breakpoint : ℕ
breakpoint = 9

-- RI
abbrev pub reserved_instruction : ℕ
reserved_instruction = 10

-- CpU, a coprocessor that is not usable
abbrev pub coprocessor_unusable : ℕ
coprocessor_unusable = 11

-- Ov
abbrev pub overflow : ℕ
overflow = 12

-- Tr
abbrev pub trap : ℕ
trap = 13

-- VCEI, a line of the secondary cache under another virtual index, at a fetch
abbrev pub coherency_fetch : ℕ
coherency_fetch = 14

-- VCED, the same at a load or store
abbrev pub coherency_data : ℕ
coherency_data = 31
