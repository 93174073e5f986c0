-- What no instruction changes: register 0, PRId, and Config but for the attribute of kseg0.
-- Source: MIPS R4000 Microprocessor User's Manual, 2nd edition (Heinrich), chapter 1 (register 0 reads as zero) and chapter 4
-- (the PRId and Config registers).
use Rattle.std.specs.Prelude.{◌≡◌, ℕ}
use Rattle.mips3_alu.specs.Registers.{register}
use Rattle.cp0_regs.specs.Fixed as system
use Rattle.mips3_exec.specs.declared.processor.Cpu.{Cpu}

-- a processor in which register 0 is zero, PRId has its value, and Config the value at reset but for K0
pub record HasFixed (config_at_reset : ℕ) (cpu : Cpu) : Type 0 where
  pub zero : register cpu.regs 0 ≡ 0
  pub system : system.HasFixed config_at_reset cpu.cp0
