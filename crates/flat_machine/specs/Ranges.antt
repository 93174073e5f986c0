-- What is known of the places that accesses reach.
use Rattle.std.specs.Prelude.{ℕ, ◌<◌, ◌≤◌, ◌+◌}
use Rattle.flat_ram.specs.Map.{ram_size, prom_base, prom_size, device_base, device_size}
use Rattle.flat_ram.specs.declared.map.Spot.{Spot}
use Rattle.flat_ram.specs.declared.map.Spot.TheVariants.{Ram, Prom, Device, Empty}

-- the address lies in the range of what stands there
abbrev pub IsPlaceIn : Spot → ℕ → Type 0
IsPlaceIn Ram pa = pa < ram_size
IsPlaceIn Prom pa = (prom_base ≤ pa) × (pa < prom_base + prom_size)
IsPlaceIn Device pa = (device_base ≤ pa) × (pa < device_base + device_size)
IsPlaceIn Empty pa = Unit {0}
