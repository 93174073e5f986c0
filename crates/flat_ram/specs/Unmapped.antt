-- The virtual addresses that the TLB does not map: kseg0, 0x80000000 to 0x9fffffff, and kseg1, 0xa0000000 to 0xbfffffff.
-- Each shows the low 512 MB of the physical addresses.
-- Source: MIPS R4000 Microprocessor User's Manual (Heinrich, 2nd edition), chapter 4, the 32-bit kernel mode address space.
use Rattle.std.specs.Prelude.{ℕ, ◌%◌, ◌^◌, Bool, ◌&&◌, nat_lt, nat_le}

-- an address of kseg0 or kseg1
abbrev pub is_unmapped : ℕ → Bool
is_unmapped va = nat_le 0x80000000 va && nat_lt va 0xc0000000

-- the physical address of an address of kseg0 or kseg1
abbrev pub physical : ℕ → ℕ
physical va = va % 2 ^ 29
