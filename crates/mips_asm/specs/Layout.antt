-- The layout of a source: its lines as they are read, its base, the address of each line, its labels, and the first
-- reason for which a line is refused where it stands.
-- Source: the assembler language of this project. An image lies in kseg0 and kseg1, which the TLB does not map, and has
-- at most as many bytes as this machine's RAM (MIPS R4000 Microprocessor User's Manual, 2nd edition, Heinrich,
-- chapter 4).
use Rattle.std.specs.Prelude.{ℕ, ◌+◌, ◌-◌, ◌*◌, ◌%◌, ◌^◌, ◌==◌, nat_lt, Bool, true, false, not, ◌&&◌, ◌||◌, if◌then◌else◌, List, [], ◌∷◌, length, take, map, slice_get, Option, Some, None, is_some, option_map, option_and_then, codes, bytes_eq, Ok, Err}
use Rattle.std.specs.List.{filter_map}
use Rattle.r4_words.specs.Ascii.{newline}
use Rattle.flat_ram.specs.Map.{ram_size}
use Rattle.flat_ram.specs.Unmapped.{is_unmapped}
use Rattle.mips_text.specs.declared.reason.AsmWhy.{AsmWhy}
use Rattle.mips_text.specs.declared.reason.AsmWhy.TheVariants as why
use Rattle.mips_text.specs.declared.item.Item.{Item}
use Rattle.mips_text.specs.declared.item.Item.TheVariants.{Plain, BranchTo, JumpTo, LoadNumber, LoadLabel, Words, Bytes, Zeros, Origin, Aligned}
use Rattle.mips_text.specs.declared.item.Line.{Line}
use Rattle.mips_text.specs.Line.{Reading, read_line}
use Rattle.mips_text.specs.Coded.{padding_to, label_at}

-- a byte before the lines of what follows it
abbrev pub before_lines : ℕ → List (List ℕ) → List (List ℕ)
before_lines code [] = (code ∷ []) ∷ []
before_lines code (line ∷ lines) = (code ∷ line) ∷ lines

-- the lines of a source, each without the newline that ends it; the last may have none
abbrev pub lines_of : List ℕ → List (List ℕ)
lines_of [] = []
lines_of (code ∷ rest) = if code == newline then [] ∷ lines_of rest else before_lines code (lines_of rest)

-- the lines of a source, each as it is read
abbrev pub readings_of : List ℕ → List Reading
readings_of source = map read_line (lines_of source)

-- THE BASE

-- the base of a source whose first byte stands before any `.org`
abbrev pub usual_base : ℕ
usual_base = 0x80010000

-- a statement puts a byte before the base is known; an alignment does not, since the usual base has every alignment
abbrev pub puts_first_byte : Item → Bool
puts_first_byte (Bytes bytes) = nat_lt 0 (length bytes)
puts_first_byte (Zeros count) = nat_lt 0 count
puts_first_byte (Aligned power) = false
puts_first_byte (Origin address) = false
puts_first_byte item = true

-- the base, by the first statement and by what the later lines give where it decides nothing
abbrev pub base_by_item : Option Item → ℕ → ℕ
base_by_item None later = later
base_by_item (Some (Origin address)) later = address
base_by_item (Some item) later = if puts_first_byte item then usual_base else later

-- a line that cannot be read is one without bytes here
abbrev pub base_by : Reading → ℕ → ℕ
base_by (Ok line) later = base_by_item line.item later
base_by (Err reason) later = later

-- The base of these lines: the address of the first `.org` before any byte, else the usual one.
unfoldable pub base_of : List Reading → ℕ
base_of [] = usual_base
base_of (reading ∷ readings) = base_by reading (base_of readings)

-- ADDRESSES

-- how many bytes a statement puts at an address
unfoldable pub size_at : ℕ → Item → ℕ
size_at address (Plain inst) = 4
size_at address (BranchTo inst target) = 4
size_at address (JumpTo inst target) = 4
size_at address (LoadNumber register number) = 8
size_at address (LoadLabel register label) = 8
size_at address (Words words) = 4 * length words
size_at address (Bytes bytes) = length bytes
size_at address (Zeros count) = count
size_at address (Origin origin) = origin - address
size_at address (Aligned power) = padding_to power address

-- how many bytes a line puts, if it has a statement
abbrev pub size_of : ℕ → Option Item → ℕ
size_of address None = 0
size_of address (Some item) = size_at address item

-- how many bytes a line puts; one that is refused puts none
abbrev pub size_read : ℕ → Reading → ℕ
size_read address (Ok line) = size_of address line.item
size_read address (Err reason) = 0

-- A line of a source, and the address at which it stands.
pub record Placed : Type 0 where
  pub address : ℕ
  pub reading : Reading

-- a line at an address
abbrev pub placed_at : ℕ → Reading → Placed
placed_at address reading = record { address = address; reading = reading }

-- Lines one after another: the first stands at this address, and each further one where the bytes of the line before it
-- end.
abbrev pub placed : ℕ → List Reading → List Placed
placed address [] = []
placed address (reading ∷ readings) = placed_at address reading ∷ placed (address + size_read address reading) readings

-- All lines of a source, each at its address: the base and the sizes of the lines before it.
abbrev pub placed_all : List Reading → List Placed
placed_all readings = placed (base_of readings) readings

-- LABELS

-- the label of a line that stands at an address, if it has one, with that address as a number of 32 bits
abbrev pub label_read : ℕ → Reading → Option (List ℕ × ℕ)
label_read address (Ok line) = option_map (λ name. (name, address % 2 ^ 32)) line.label
label_read address (Err reason) = None

-- The labels of lines in their order, each with its line's address.
abbrev pub labels_of : List Placed → List (List ℕ × ℕ)
labels_of lines = filter_map (λ (line : Placed). label_read line.address line.reading) lines

-- REASONS

-- an `.org` moves back, or the base that it gives is no unmapped address
abbrev pub moves_wrongly : ℕ → ℕ → Option Item → Bool
moves_wrongly base address (Some (Origin origin)) = nat_lt origin address || not (is_unmapped base)
moves_wrongly base address item = false

-- a line moves wrongly, or ends more bytes after the base than RAM has
abbrev pub breaks_range : ℕ → ℕ → Line → Bool
breaks_range base address line =
    moves_wrongly base address line.item || nat_lt ram_size (address + size_of address line.item - base)

-- a label stands a second time
abbrev pub stands_twice : List (List ℕ × ℕ) → Option (List ℕ) → Bool
stands_twice labels (Some name) = is_some (label_at labels name)
stands_twice labels None = false

-- a statement must stand at a multiple of 4
abbrev pub is_of_words : Item → Bool
is_of_words (Bytes bytes) = false
is_of_words (Zeros count) = false
is_of_words (Origin origin) = false
is_of_words (Aligned power) = false
is_of_words item = true

-- a statement that cannot stand at this address: at no multiple of 4, or no alignment
abbrev pub is_misplaced : ℕ → Item → Bool
is_misplaced address (Aligned None) = true
is_misplaced address item = is_of_words item && not (address % 4 == 0)

-- the same of a line, if it has a statement
abbrev pub item_is_misplaced : ℕ → Option Item → Bool
item_is_misplaced address (Some item) = is_misplaced address item
item_is_misplaced address None = false

-- the label of the first instruction
abbrev pub is_start : Option (List ℕ) → Bool
is_start (Some name) = bytes_eq name (codes "start")
is_start None = false

-- a statement or the entry is at no multiple of 4, or there is no such alignment
abbrev pub breaks_alignment : ℕ → Line → Bool
breaks_alignment address line = item_is_misplaced address line.item || (is_start line.label && not (address % 4 == 0))

-- the first reason for which a line can not stand at an address, after lines with these labels
unfoldable pub fault_at : ℕ → ℕ → List (List ℕ × ℕ) → Line → Option AsmWhy
fault_at base address labels line =
    if breaks_range base address line then Some why.Range
    else if stands_twice labels line.label then Some why.Twice
    else if breaks_alignment address line then Some why.Align
    else None

-- the same of a line as it is read; one that can not be read is refused for that reason
abbrev pub fault_read : ℕ → ℕ → List (List ℕ × ℕ) → Reading → Option AsmWhy
fault_read base address labels (Err reason) = Some reason
fault_read base address labels (Ok line) = fault_at base address labels line

-- The first reason for which the line that has n lines before it is refused where it stands, by the labels of those
-- lines. None where there is no such reason, or no such line.
unfoldable pub layout_fault : ℕ → List Placed → ℕ → Option AsmWhy
layout_fault base lines n =
    let labels : List (List ℕ × ℕ) = labels_of (take n lines) in
    option_and_then (λ (line : Placed). fault_read base line.address labels line.reading) (slice_get lines n)
