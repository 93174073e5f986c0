-- What the registers that a handler leaves can have.
use Rattle.cp0_regs.proofs.Possible.{epc_possible, bd_is_free, exc_code_is_free, bad_vaddr_possible}

pub ruleset what_a_handler_leaves = (epc_possible, bd_is_free, exc_code_is_free, bad_vaddr_possible)
