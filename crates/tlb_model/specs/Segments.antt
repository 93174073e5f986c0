-- The segments of the virtual addresses in each mode.
-- Source: MIPS R4000 Microprocessor User's Manual, 2nd edition (Heinrich), chapter 4, the figures and tables of the user,
-- supervisor and kernel mode segments with addresses of 32 bits; chapter 5 for ERL, under which useg is unmapped and uncached.
-- Every attribute of kseg0 other than 2 is cached: this project's own.
use Rattle.std.specs.Prelude.{ℕ, ◌==◌, ◌%◌, ◌^◌, Bool, false, not, nat_lt, if◌then◌else◌}
use Rattle.cp0_regs.specs.declared.mode.Mode.{Mode}
use Rattle.cp0_regs.specs.declared.mode.Mode.TheVariants.{Kernel, Supervisor}
use Rattle.tlb_model.specs.declared.segments.Seg.{Seg}
use Rattle.tlb_model.specs.declared.segments.Seg.TheVariants.{Mapped, Direct, Denied}
use Rattle.tlb_model.specs.Translation.{IsPlace}

-- The five ranges of addresses: useg, kseg0, kseg1, sseg (which kernel mode has too), and kseg3.
pub data Range : Type 0 where
  Useg : Range
  Kseg0 : Range
  Kseg1 : Range
  Sseg : Range
  Kseg3 : Range

abbrev pub range_of : ℕ → Range
range_of va =
    if nat_lt va 0x80000000 then Useg
    else if nat_lt va 0xa0000000 then Kseg0
    else if nat_lt va 0xc0000000 then Kseg1
    else if nat_lt va 0xe0000000 then Sseg
    else Kseg3

-- kseg0 and kseg1 show the low 512 MB of the physical addresses
abbrev pub unmapped : ℕ → Bool → Seg
unmapped va cached = Direct (va % 2 ^ 29) cached

-- Which mode has which range, and how; `erl` is ERL, and `k0` the attribute of kseg0.
abbrev pub in_mode : ℕ → Bool → ℕ → Mode → Range → Seg
in_mode va erl k0 mode Useg = if erl then Direct va false else Mapped
in_mode va erl k0 Kernel Kseg0 = unmapped va (not (k0 == 2))
in_mode va erl k0 Kernel Kseg1 = unmapped va false
in_mode va erl k0 Kernel Sseg = Mapped
in_mode va erl k0 Kernel Kseg3 = Mapped
in_mode va erl k0 Supervisor Sseg = Mapped
in_mode va erl k0 _ _ = Denied

-- the segment of an address
unfoldable pub segment_of : ℕ → Mode → Bool → ℕ → Seg
segment_of va mode erl k0 = in_mode va erl k0 mode (range_of va)

-- an unmapped address is that of a place
abbrev pub IsSegment : ℕ → Seg → Type 0
IsSegment va (Direct pa cached) = IsPlace va pa
IsSegment va _ = Unit {0}
