-- Exceptions leave PRId, and Config but for K0: each change is a word of another number.
use Rattle.std.proofs.Common.{ℕ, Bool, List, Option, Some, None, arith}
use Rattle.std.specs.Prelude.{slice_set, if◌then◌else◌}
use Rattle.cp0_regs.specs.Fields.{exl, erl, exc_code, ce, bd, bad_vpn2, vpn2}
use Rattle.cp0_regs.specs.Fixed.{KeepsFixed}
use Rattle.cp0_regs.specs.Modes.{is_set}
use Rattle.cp0_regs.specs.Registers.{epc, bad_vaddr}
use Rattle.cp0_regs.specs.State.{with_word, with_value}
use Rattle.cp0_regs.proofs.Fixed.{kept_refl, kept_then, word_keeps, either_keeps}
use Rattle.cp0_exceptions.specs.declared.raising.Raised.{Raised}
use Rattle.cp0_exceptions.specs.Causes.{Shown, NoAddress, Address, AddressAndPage, cause_of, shown_of, tells_unit_in}
use Rattle.cp0_exceptions.specs.Leaving.{left}
use Rattle.cp0_exceptions.specs.Raising.{return_address, with_return, with_unit, with_shown, with_address, page_pair, raised}

epc_keeps : (cp0 : List ℕ) (value : ℕ) → KeepsFixed cp0 (with_word cp0 epc value)
epc_keeps cp0 value = word_keeps cp0 14 value (λ same. omega arith) (λ same. omega arith)

cause_keeps : (cp0 : List ℕ) (value : ℕ) → KeepsFixed cp0 (slice_set cp0 13 value)
cause_keeps cp0 value = word_keeps cp0 13 value (λ same. omega arith) (λ same. omega arith)

status_keeps : (cp0 : List ℕ) (value : ℕ) → KeepsFixed cp0 (slice_set cp0 12 value)
status_keeps cp0 value = word_keeps cp0 12 value (λ same. omega arith) (λ same. omega arith)

bad_vaddr_keeps : (cp0 : List ℕ) (value : ℕ) → KeepsFixed cp0 (slice_set cp0 8 value)
bad_vaddr_keeps cp0 value = word_keeps cp0 8 value (λ same. omega arith) (λ same. omega arith)

return_keeps : (cp0 : List ℕ) (pc : ℕ) (slot : Bool) → KeepsFixed cp0 (with_return cp0 pc slot)
return_keeps cp0 pc slot =
    let placed : List ℕ = with_word cp0 epc (return_address pc slot) in
    let told : List ℕ = with_value placed bd (if slot then 1 else 0) in
    either_keeps cp0 cp0 told (is_set cp0 exl) (kept_refl cp0) (kept_then cp0 placed told (epc_keeps cp0 _) (cause_keeps placed _))

unit_keeps : (cp0 : List ℕ) (code unit : ℕ) → KeepsFixed cp0 (with_unit cp0 code unit)
unfolding with_unit
unit_keeps cp0 code unit = either_keeps cp0 (with_value cp0 ce unit) cp0 (tells_unit_in (cause_of code)) (cause_keeps cp0 _) (kept_refl cp0)

shown_keeps : (cp0 : List ℕ) (shown : Shown) (address : ℕ) → KeepsFixed cp0 (with_shown cp0 shown address)
shown_keeps cp0 NoAddress address = kept_refl cp0
shown_keeps cp0 Address address = bad_vaddr_keeps cp0 address
shown_keeps cp0 AddressAndPage address =
    let bad : List ℕ = with_word cp0 bad_vaddr address in
    let context : List ℕ = with_value bad bad_vpn2 (page_pair address) in
    let entry : List ℕ = with_value context vpn2 (page_pair address) in
    kept_then cp0 bad entry (bad_vaddr_keeps cp0 address)
    (kept_then bad context entry (word_keeps bad 4 _ (λ same. omega arith) (λ same. omega arith)) (word_keeps context 10 _ (λ same. omega arith) (λ same. omega arith)))

address_keeps : (cp0 : List ℕ) (code : ℕ) (bad : Option ℕ) → KeepsFixed cp0 (with_address cp0 code bad)
address_keeps cp0 code None = kept_refl cp0
address_keeps cp0 code (Some address) = shown_keeps cp0 (shown_of code) address

pub raised_keeps : (cp0 : List ℕ) (what : Raised) (pc : ℕ) (slot : Bool) → KeepsFixed cp0 (raised cp0 what pc slot)
unfolding raised
raised_keeps cp0 what pc slot =
    let returning : List ℕ = with_return cp0 pc slot in
    let coded : List ℕ = with_value returning exc_code what.code in
    let told : List ℕ = with_unit coded what.code what.unit in
    let addressed : List ℕ = with_address told what.code what.bad in
    let end : List ℕ = with_value addressed exl 1 in
    kept_then cp0 returning end (return_keeps cp0 pc slot)
    (kept_then returning coded end (cause_keeps returning _)
    (kept_then coded told end (unit_keeps coded what.code what.unit)
    (kept_then told addressed end (address_keeps told what.code what.bad) (status_keeps addressed _))))

pub left_keeps : (cp0 : List ℕ) → KeepsFixed cp0 (left cp0)
unfolding left
left_keeps cp0 =
    either_keeps cp0 (with_value cp0 erl 0) (with_value cp0 exl 0) (is_set cp0 erl) (status_keeps cp0 _) (status_keeps cp0 _)
