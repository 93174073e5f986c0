-- How the processor reaches memory: from a virtual address to a physical one, or to the exception of the address.
-- Source: MIPS R4000 Microprocessor User's Manual, 2nd edition (Heinrich), chapter 4 (the segments of each mode, and the
-- translation of a virtual address by the TLB) and chapter 5 (the address error and the TLB exceptions, and their codes).
use Rattle.std.specs.Prelude.{ℕ, Bool, true, false, Some, None, if◌then◌else◌}
use Rattle.cp0_regs.specs.Fields.{asid, k0, erl}
use Rattle.cp0_regs.specs.Modes.{mode_of, is_set, is_quiet}
use Rattle.cp0_regs.specs.State.{value_of}
use Rattle.cp0_exceptions.specs.Codes as codes
use Rattle.cp0_exceptions.specs.declared.raising.Raised.{Raised}
use Rattle.cp0_exceptions.specs.Causes.{IsRaised}
use Rattle.tlb_model.specs.declared.translation.Found.{Found}
use Rattle.tlb_model.specs.declared.translation.Found.TheVariants.{Page, Refill, Invalid, Modified}
use Rattle.tlb_model.specs.declared.segments.Seg.{Seg}
use Rattle.tlb_model.specs.declared.segments.Seg.TheVariants.{Mapped, Direct, Denied}
use Rattle.tlb_model.specs.Segments.{segment_of}
use Rattle.tlb_model.specs.Translation.{IsPlace, translated}
use Rattle.mips3_exec.specs.declared.processor.Cpu.{Cpu}
use Rattle.mips3_exec.specs.declared.routes.Route.{Route}
use Rattle.mips3_exec.specs.declared.routes.Route.TheVariants.{To, Fault}
use Rattle.mips3_exec.specs.declared.talk.Access.{Access}

-- ---- the exceptions of a step

-- one that names no address
abbrev pub plain : ℕ → Raised
plain code = record { code = code; unit = 0; bad = None; refill = false }

-- one of an address
abbrev pub at_address : ℕ → ℕ → Raised
at_address code bad = record { code = code; unit = 0; bad = Some bad; refill = false }

-- that of an address which no pair of the TLB matches
abbrev pub at_refill : ℕ → ℕ → Raised
at_refill code bad = record { code = code; unit = 0; bad = Some bad; refill = true }

-- an address error: AdEL, or AdES where something is stored
abbrev pub address_error : Bool → ℕ → Raised
address_error write bad = at_address (if write then codes.address_store else codes.address_load) bad

-- a TLB exception: TLBL, or TLBS where something is stored
abbrev pub tlb_code : Bool → ℕ
tlb_code write = if write then codes.tlb_store else codes.tlb_load

-- ---- addresses

-- by what the TLB has for an address; `bad` is the address that an exception shows
abbrev pub route_by : Bool → ℕ → Found → Route
route_by write bad (Page pa cached) = To pa cached
route_by write bad Refill = Fault (at_refill (tlb_code write) bad)
route_by write bad Invalid = Fault (at_address (tlb_code write) bad)
route_by write bad Modified = Fault (at_address codes.modified bad)

-- by the segment of an address
abbrev pub route_in : Cpu → Bool → ℕ → ℕ → Seg → Route
route_in cpu write va bad Mapped = route_by write bad (translated cpu.tlb va (value_of cpu.cp0 asid) write)
route_in cpu write va bad (Direct pa cached) = To pa cached
route_in cpu write va bad Denied = Fault (address_error write bad)

-- where an address leads
unfoldable pub route_of : Cpu → Bool → ℕ → ℕ → Route
route_of cpu write va bad = route_in cpu write va bad (segment_of va (mode_of cpu.cp0) (is_set cpu.cp0 erl) (value_of cpu.cp0 k0))

-- the reference to memory that is made then
abbrev pub access_of : Cpu → ℕ → ℕ → Bool → Access
access_of cpu va pa cached = record { cached = cached; quiet = is_quiet cpu.cp0; va = va; pa = pa }

-- what is known of every way of an address
abbrev pub IsRoute : ℕ → Route → Type 0
IsRoute va (To pa cached) = IsPlace va pa
IsRoute va (Fault what) = IsRaised what
