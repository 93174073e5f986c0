-- The general registers with HI and LO, as the CPU register set of the MIPS R4000 Microprocessor User's Manual
-- (chapter 1, "CPU Registers") has them: 32 registers of 64 bits, of which register 0 stays zero.
use Rattle.std.specs.Prelude.{ℕ, ◌==◌, ◌%◌, ◌^◌, slice_index, slice_set, replicate, if◌then◌else◌}
use Rattle.mips3_alu.specs.declared.registers.Regs.{Regs}

-- the register of a number
abbrev pub register : Regs → ℕ → ℕ
register regs at = slice_index regs.r at

-- the low 32 bits of a register
abbrev pub low_word : Regs → ℕ → ℕ
low_word regs at = register regs at % 2 ^ 32

-- the registers after a write; one to register 0 is lost
abbrev pub with_register : Regs → ℕ → ℕ → Regs
with_register regs at value = if at == 0 then regs else record regs { r = slice_set regs.r at value }

-- all registers zero
abbrev pub zero_registers : Regs
zero_registers = record { r = replicate 32 0; hi = 0; lo = 0 }
