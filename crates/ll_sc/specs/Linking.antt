-- The link between a load linked and a store conditional: a bit, and the physical address in LLAddr.
-- Source: MIPS R4000 Microprocessor User's Manual (Heinrich, 2nd edition), appendix A, LL, SC and ERET; chapter 4, "LLAddr
-- Register", which has bits 35:4 of the physical address.
use Rattle.std.specs.Prelude.{ℕ, ◌/◌, Bool, true, false, List}
use Rattle.cp0_regs.specs.Registers.{ll_addr}
use Rattle.cp0_regs.specs.State.{with_word}
use Rattle.ll_sc.specs.declared.Link.{Link}

abbrev pub link : Bool → Link
link set = record { set = set }

-- what a load linked makes of the link: it is set, and LLAddr shows the address
abbrev pub linked : Link
linked = link true

abbrev pub with_linked_address : List ℕ → ℕ → List ℕ
with_linked_address cp0 pa = with_word cp0 ll_addr (pa / 16)

-- the link is broken
abbrev pub unlinked : Link
unlinked = link false
