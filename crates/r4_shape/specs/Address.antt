-- Where an address lies in the caches of a shape.
-- Source: MIPS R4000 Microprocessor User's Manual, 2nd edition (Heinrich), chapter 11, "Accessing the Primary Caches" and "Accessing
-- the Secondary Cache"; chapter 11, "Virtual Coherency", for PIdx, the bits 14 to 12 of the virtual address. A colour is the page
-- of a primary cache in which a virtual address lies; granule and group are this project's names for the number of a line.
use Rattle.std.specs.Prelude.{ℕ, ◌+◌, ◌*◌, ◌/◌, ◌%◌}
use Rattle.r4_shape.specs.Numbers.{Numbers, page_lines, places}

-- the index of a virtual address in a primary cache
abbrev pub index : Numbers → ℕ → ℕ
index shape va = va % shape.prim / shape.line

-- the colour of a virtual address
abbrev pub colour : Numbers → ℕ → ℕ
colour shape va = va % shape.prim / 4096

-- the bits of a virtual address that the secondary cache keeps of a line
abbrev pub pidx : ℕ → ℕ
pidx va = va / 4096 % 8

-- the number of the primary line of a physical address, and of its secondary line
abbrev pub granule : Numbers → ℕ → ℕ
granule shape pa = pa / shape.line

abbrev pub group_of : Numbers → ℕ → ℕ
group_of shape pa = pa / shape.group

-- the place of a physical address in the secondary cache
abbrev pub place : Numbers → ℕ → ℕ
place shape pa = pa % shape.size / shape.group

-- The number of a copy, of a granule at a colour, among all that there can be in a primary cache. The copies of a page have as many
-- numbers together as the cache has lines, and the number's rest by that is the index.
abbrev pub copy_of : Numbers → ℕ → ℕ → ℕ
copy_of shape granule colour =
    granule / page_lines shape * places shape + (colour * page_lines shape + granule % page_lines shape)
