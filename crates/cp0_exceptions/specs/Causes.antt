-- The causes of exceptions: for each its code in Cause, and what it changes beside that and the place to come back to.
-- Source: MIPS R4000 Microprocessor User's Manual (Heinrich, 2nd edition), chapter 5, "Cause Register", the codes of its field
-- ExcCode, and the section of each exception. There is no floating point, watch register or reserved code here.
use Rattle.std.specs.Prelude.{◌≡◌, ℕ, ◌==◌, ◌<◌, Bool, true, false, List, [], ◌∷◌, Option, Some, None, is_some}
use Rattle.std.specs.List.{find}
use Rattle.cp0_exceptions.specs.declared.raising.Raised.{Raised}
use Rattle.cp0_exceptions.specs.Codes as codes

-- What a cause shows of the address that it came of: nothing, the address in BadVAddr, or its page too, in Context and
-- EntryHi.
pub data Shown : Type 0 where
  NoAddress : Shown
  Address : Shown
  AddressAndPage : Shown

-- A cause: its code, what it shows, whether it can be a refill, which has a vector of its own, and whether it tells the
-- unit of a coprocessor in CE.
pub record Cause : Type 0 where
  pub code : ℕ
  pub shown : Shown
  pub can_refill : Bool
  pub tells_unit : Bool

abbrev pub cause : ℕ → Shown → Bool → Bool → Cause
cause code shown can_refill tells_unit = record { code = code; shown = shown; can_refill = can_refill; tells_unit = tells_unit }

-- a cause that changes nothing more than the code
abbrev pub code_alone : ℕ → Cause
code_alone code = cause code NoAddress false false

abbrev pub causes : List Cause
causes =
    -- Int, an interrupt
    code_alone codes.interrupt ∷
    -- Mod, a store to a page that is not dirty
    cause codes.modified AddressAndPage false false ∷
    -- TLBL and TLBS, no page or an invalid one: at a fetch or load, and at a store
    cause codes.tlb_load AddressAndPage true false ∷
    cause codes.tlb_store AddressAndPage true false ∷
    -- AdEL and AdES, an address error: at a fetch or load, and at a store
    cause codes.address_load Address false false ∷
    cause codes.address_store Address false false ∷
    -- IBE and DBE, a bus error: at a fetch, and at a load or store
    code_alone codes.bus_fetch ∷
    code_alone codes.bus_data ∷
    -- Sys, Bp and RI: a system call, a breakpoint, a reserved instruction
    code_alone codes.system_call ∷
    code_alone codes.breakpoint ∷
    code_alone codes.reserved_instruction ∷
    -- CpU, a coprocessor that is not usable
    cause codes.coprocessor_unusable NoAddress false true ∷
    -- Ov and Tr: an overflow, a trap
    code_alone codes.overflow ∷
    code_alone codes.trap ∷
    -- VCEI, a line of the secondary cache under another virtual index: at a fetch
    cause codes.coherency_fetch Address false false ∷
    -- VCED, the same at a load or store
    cause codes.coherency_data Address false false ∷ []

-- the cause of a code, None where no cause has it
abbrev pub cause_of : ℕ → Option Cause
cause_of code = find (λ cause. code == cause.code) causes

-- what the cause of a code shows, and the rest of its row; nothing where no cause has the code
abbrev pub shown_in : Option Cause → Shown
shown_in (Some cause) = cause.shown
shown_in None = NoAddress

unfoldable pub shown_of : ℕ → Shown
shown_of code = shown_in (cause_of code)

abbrev pub shows_address : Shown → Bool
shows_address NoAddress = false
shows_address Address = true
shows_address AddressAndPage = true

abbrev pub can_refill_in : Option Cause → Bool
can_refill_in (Some cause) = cause.can_refill
can_refill_in None = false

abbrev pub tells_unit_in : Option Cause → Bool
tells_unit_in (Some cause) = cause.tells_unit
tells_unit_in None = false

-- An exception as it is raised: some cause has its code; its unit is one of four; it has a bad address exactly where its
-- cause shows one; and it is a refill only where its cause can be one.
pub record IsRaised (what : Raised) : Type 0 where
  pub code : is_some (cause_of what.code) ≡ true
  pub unit : what.unit < 4
  pub bad : is_some what.bad ≡ shows_address (shown_in (cause_of what.code))
  pub refill : what.refill ≡ true → can_refill_in (cause_of what.code) ≡ true
