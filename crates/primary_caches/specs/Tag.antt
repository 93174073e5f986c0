-- The tags of a primary cache: one for each index. The cache is direct-mapped; bits of the virtual address choose the index, and
-- the tag holds the page of the physical address, its bits 35 to 12.
-- Source: MIPS R4000 Microprocessor User's Manual, 2nd edition (Heinrich), chapter 11, "Organization of the Primary Instruction
-- Cache", "Organization of the Primary Data Cache" and "Accessing the Primary Caches". A line of an instruction cache is never
-- dirty. The manual's four states of a data line are two here, clean and dirty: the machine has one processor.
use Rattle.std.specs.Prelude.{◌≡◌, ℕ, ◌*◌, ◌/◌, ◌%◌, ◌^◌, ◌<◌, ◌==◌, Bool, false, ◌&&◌, List, length, replicate, slice_index_or, All}
use Rattle.primary_caches.specs.declared.tag_array.Tag.{Tag}

-- the page of a physical address: bits 35 to 12
abbrev pub page_of : ℕ → ℕ
page_of pa = pa / 4096 % 2 ^ 24

-- the tag of a place without a line
abbrev pub no_line : Tag
no_line = record { page = 0; valid = false; dirty = false }

-- so many places without a line
unfoldable pub no_lines : ℕ → List Tag
no_lines places = replicate places no_line

-- the tag at an index
abbrev pub tag_at : List Tag → ℕ → Tag
tag_at tags index = slice_index_or tags index no_line

-- the index of a virtual address, in a cache of `size` bytes in lines of `line` bytes
abbrev pub index_of : ℕ → ℕ → ℕ → ℕ
index_of line size va = va % size / line

-- whether a tag is that of a line of the page of a physical address
abbrev pub is_of_page : Tag → ℕ → Bool
is_of_page tag pa = tag.valid && (tag.page == page_of pa)

-- what each tag keeps: the page is a number of 24 bits
abbrev pub HasPage : Tag → Type 0
HasPage tag = tag.page < 2 ^ 24

abbrev pub IsClean : Tag → Type 0
IsClean tag = tag.dirty ≡ false

-- A cache of `size` bytes is cut into lines of `line` bytes without a rest.
pub record IsGeometry (line size : ℕ) : Type 0 where
  pub some_line : 0 < line
  pub some_size : 0 < size
  pub whole : size / line * line ≡ size

-- The tags of such a cache: one for each line that it has room for.
pub record IsArray (line size : ℕ) (tags : List Tag) : Type 0 where
  pub geometry : IsGeometry line size
  pub places : length tags ≡ size / line
  pub pages : All HasPage tags
