-- What nothing changes after reset: PRId, and Config but for the attribute of kseg0.
-- Source: MIPS R4000 Microprocessor User's Manual (Heinrich, 2nd edition), chapter 4, "Processor Revision Identifier Register"
-- and "Config Register": software reads the one, and writes K0 alone of the other.
use Rattle.std.specs.Prelude.{◌≡◌, ℕ, ◌-◌, List, bit_and}
use Rattle.cp0_regs.specs.Bits.{all_bits}
use Rattle.cp0_regs.specs.Fields.{bits_of, k0}
use Rattle.cp0_regs.specs.Registers.{prid, config}
use Rattle.cp0_regs.specs.State.{word}

-- the bits of Config beside K0
abbrev pub outside_k0 : ℕ → ℕ
outside_k0 value = bit_and value (all_bits - bits_of k0)

-- registers in which PRId has its value, and Config the value at reset but for K0
pub record HasFixed (config_at_reset : ℕ) (cp0 : List ℕ) : Type 0 where
  pub prid : word cp0 prid ≡ 0x00000400
  pub config : outside_k0 (word cp0 config) ≡ outside_k0 config_at_reset

-- a change of the registers that leaves PRId, and Config but for K0
pub record KeepsFixed (old new : List ℕ) : Type 0 where
  pub prid : word new prid ≡ word old prid
  pub config : outside_k0 (word new config) ≡ outside_k0 (word old config)
