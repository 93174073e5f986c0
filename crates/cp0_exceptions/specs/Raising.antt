-- What an exception makes of CP0, and where it leads.
-- Source: MIPS R4000 Microprocessor User's Manual (Heinrich, 2nd edition), chapter 5, "Exception Processing" and "Exception
-- Vector Locations".
use Rattle.std.specs.Prelude.{ℕ, Bool, ◌+◌, ◌-◌, ◌/◌, ◌%◌, ◌^◌, ◌&&◌, if◌then◌else◌, List, Option, Some, None}
use Rattle.cp0_regs.specs.Fields.{exl, bev, exc_code, ce, bd, bad_vpn2, vpn2}
use Rattle.cp0_regs.specs.Modes.{is_set, is_clear}
use Rattle.cp0_regs.specs.Registers.{epc, bad_vaddr}
use Rattle.cp0_regs.specs.State.{with_word, with_value}
use Rattle.cp0_exceptions.specs.declared.raising.Raised.{Raised}
use Rattle.cp0_exceptions.specs.Causes.{Shown, NoAddress, Address, AddressAndPage, cause_of, shown_of, tells_unit_in}

-- the address to come back to: the instruction's, or that of the branch before it where it stands in a delay slot
abbrev pub return_address : ℕ → Bool → ℕ
return_address pc slot = if slot then (pc + (2 ^ 32 - 4)) % 2 ^ 32 else pc

-- EPC and BD, which stay while an exception is being handled
abbrev pub with_return : List ℕ → ℕ → Bool → List ℕ
with_return cp0 pc slot =
    if is_set cp0 exl then cp0
    else with_value (with_word cp0 epc (return_address pc slot)) bd (if slot then 1 else 0)

-- CE, which a coprocessor that is not usable alone changes
unfoldable pub with_unit : List ℕ → ℕ → ℕ → List ℕ
with_unit cp0 code unit = if tells_unit_in (cause_of code) then with_value cp0 ce unit else cp0

-- the pair of pages in which an address lies
abbrev pub page_pair : ℕ → ℕ
page_pair address = address / 2 ^ 13

-- BadVAddr, and Context and EntryHi, as far as the cause shows the address
abbrev pub with_shown : List ℕ → Shown → ℕ → List ℕ
with_shown cp0 NoAddress address = cp0
with_shown cp0 Address address = with_word cp0 bad_vaddr address
with_shown cp0 AddressAndPage address =
    with_value (with_value (with_word cp0 bad_vaddr address) bad_vpn2 (page_pair address)) vpn2 (page_pair address)

abbrev pub with_address : List ℕ → ℕ → Option ℕ → List ℕ
with_address cp0 code None = cp0
with_address cp0 code (Some address) = with_shown cp0 (shown_of code) address

-- CP0 after an exception
unfoldable pub raised : List ℕ → Raised → ℕ → Bool → List ℕ
raised cp0 what pc slot =
    let returning : List ℕ = with_return cp0 pc slot in
    let coded : List ℕ = with_value returning exc_code what.code in
    let told : List ℕ = with_unit coded what.code what.unit in
    with_value (with_address told what.code what.bad) exl 1

-- the vectors' base: in the PROM, or in RAM
abbrev pub vector_base : List ℕ → ℕ
vector_base cp0 = if is_set cp0 bev then 0xbfc00200 else 0x80000000

-- where an exception leads: a refill to the base, unless another exception is being handled; all else behind it
unfoldable pub vector_of : List ℕ → Bool → ℕ
vector_of cp0 refill = if refill && is_clear cp0 exl then vector_base cp0 else vector_base cp0 + 0x180
