-- The physical address map of the machine: which part answers at an address of 36 bits.
-- Source: this machine's own memory map; the PROM stands where the R4000 fetches its reset vector, as the MIPS
-- R4000 Microprocessor User's Manual (Heinrich, 2nd edition) gives it in the exception chapter.
use Rattle.std.specs.Prelude.{ℕ, ◌+◌, Bool, ◌&&◌, nat_lt, nat_le, if◌then◌else◌}
use Rattle.flat_ram.specs.declared.map.Spot.{Spot}
use Rattle.flat_ram.specs.declared.map.Spot.TheVariants.{Ram, Prom, Device, Empty}

-- 0x00000000 to 0x007fffff
abbrev pub ram_size : ℕ
ram_size = 0x00800000

-- 0x1f000000 to 0x1f000fff
abbrev pub device_base : ℕ
device_base = 0x1f000000

abbrev pub device_size : ℕ
device_size = 0x1000

-- 0x1fc00000 to 0x1fc00fff
abbrev pub prom_base : ℕ
prom_base = 0x1fc00000

abbrev pub prom_size : ℕ
prom_size = 0x1000

-- whether an address lies in a range of so many bytes
abbrev pub is_within : ℕ → ℕ → ℕ → Bool
is_within base size pa = nat_le base pa && nat_lt pa (base + size)

-- what stands at a physical address
abbrev pub spot_of : ℕ → Spot
spot_of pa =
    if is_within 0 ram_size pa then Ram
    else if is_within device_base device_size pa then Device
    else if is_within prom_base prom_size pa then Prom
    else Empty
