-- The addresses of a segment do not wrap, as it lies in kseg0 or kseg1 and in RAM.
use Rattle.std.proofs.Common.{◌≡◌, ◌<◌, ◌≤◌, ◌+◌, ◌^◌, ℕ, true, false, nat_le, nat_lt, List, length, arith}
use Rattle.std.proofs.lemmas.Bool.{leb-true, ltb-true, and_parts}
use Rattle.flat_ram.specs.Map.{ram_size}
use Rattle.flat_ram.specs.Unmapped.{is_unmapped, physical}
use Rattle.elf_image.specs.declared.segments.Segment.{Segment}
use Rattle.elf_image.specs.Header.{segment_at}
use Rattle.elf_image.specs.Rules.{breaks_range, is_stored, is_in_range, has_place}
use Rattle.elf_image.proofs.Stores.{in_range}

-- a segment in range ends below the end of all addresses
ends_below : (size : ℕ) (segment : Segment) → is_in_range size segment ≡ true → segment.address + segment.file_size ≤ 2 ^ 32
ends_below size segment is =
    let fills = nat_le segment.file_size segment.memory_size in
    let lies = nat_le (segment.offset + segment.file_size) size in
    let outer = and_parts _ (has_place segment.address segment.memory_size) is in
    let filled : segment.file_size ≤ segment.memory_size = leb-true _ _ (and_parts fills lies outer.0).0 in
    let place = and_parts (is_unmapped segment.address) (nat_le (physical segment.address + segment.memory_size) ram_size) outer.1 in
    let in_ram : physical segment.address + segment.memory_size ≤ ram_size = leb-true _ _ place.1 in
    let unmapped : segment.address < 0xc0000000 = ltb-true _ _ (and_parts (nat_le 0x80000000 segment.address) (nat_lt segment.address 0xc0000000) place.0).1 in
    omega (arith, filled, in_ram, unmapped)

-- so does a stored segment whose header keeps the rule of ranges
pub segment_ends : (file : List ℕ) (at : ℕ) (segment : Segment) → segment ≡ segment_at file at → breaks_range file at ≡ false → is_stored segment ≡ true → segment.address + segment.file_size ≤ 2 ^ 32
segment_ends file at segment same keeps stored = ends_below (length file) segment (in_range file at segment same keeps stored)
