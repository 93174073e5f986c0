-- ERET: what it makes of CP0, and where it leads.
-- Source: MIPS R4000 Microprocessor User's Manual (Heinrich, 2nd edition), appendix A, ERET.
use Rattle.std.specs.Prelude.{ℕ, if◌then◌else◌, List}
use Rattle.cp0_regs.specs.Fields.{exl, erl}
use Rattle.cp0_regs.specs.Modes.{is_set}
use Rattle.cp0_regs.specs.Registers.{epc, error_epc}
use Rattle.cp0_regs.specs.State.{word, with_value}

-- an error is left where one is being handled, else an exception
unfoldable pub left : List ℕ → List ℕ
left cp0 = if is_set cp0 erl then with_value cp0 erl 0 else with_value cp0 exl 0

-- back to where it came
unfoldable pub return_of : List ℕ → ℕ
return_of cp0 = if is_set cp0 erl then word cp0 error_epc else word cp0 epc
