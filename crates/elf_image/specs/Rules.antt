-- Which files are images of this machine: the rules that a file must meet, in the order in which they count. Each
-- rule names its break, and the offset in the file at which it is broken. Nothing else of a file is read.
-- Source: System V Application Binary Interface, Object Files: "ELF Header", "ELF Identification" and "Program
-- Header", with the MIPS RISC Processor Supplement; the ranges are those of this machine, whose images lie in kseg0
-- and kseg1 (MIPS R4000 Microprocessor User's Manual, Heinrich, 2nd edition).
use Rattle.std.specs.Prelude.{◌≡◌, ℕ, ◌==◌, ◌+◌, ◌*◌, ◌%◌, Bool, not, ◌&&◌, List, [], ◌∷◌, length, slice_index, nat_eq, nat_le, Option, Some, None, Result, MatchResult, if◌then◌else◌}
use Rattle.std.specs.Option.{option_map}
use Rattle.std.specs.List.{starts_with, find}
use Rattle.flat_ram.specs.Map.{ram_size}
use Rattle.flat_ram.specs.Unmapped.{is_unmapped, physical}
use Rattle.elf_image.specs.declared.rules.ImageFault.{ImageFault}
use Rattle.elf_image.specs.declared.rules.ImageRule.{ImageRule}
use Rattle.elf_image.specs.declared.rules.ImageRule.TheVariants.{Short, Magic, Class, Machine, Kind, Table, Range, Entry}
use Rattle.elf_image.specs.declared.segments.Segment.{Segment}
use Rattle.elf_image.specs.Header.{kind_of, machine_of, entry_of, table_of, header_size_of, count_of, segment_at, headers_of}

-- a rule that is broken at an offset
abbrev pub broken : ImageRule → ℕ → ImageFault
broken rule offset = record { rule = rule; offset = offset }

-- this fault where the rule is broken
abbrev pub unless : Bool → ImageFault → Option ImageFault
unless holds fault = if holds then None else Some fault

-- the answer of a check: Ok exactly where there is no fault, and else that fault
abbrev pub IsCheckOf : Option ImageFault → Result (Unit {0}) ImageFault → Type 0
IsCheckOf fault result = MatchResult result (λ _. fault ≡ None) (λ found. fault ≡ Some found)

-- Short: there is a whole ELF header
unfoldable pub short_fault : List ℕ → Option ImageFault
short_fault bytes = unless (nat_le 52 (length bytes)) (broken Short (length bytes))

-- Magic: e_ident begins with the magic number of ELF
unfoldable pub magic_fault : List ℕ → Option ImageFault
magic_fault bytes = unless (starts_with nat_eq bytes (0x7f ∷ 0x45 ∷ 0x4c ∷ 0x46 ∷ [])) (broken Magic 0)

-- Class: EI_CLASS is ELFCLASS32, and EI_DATA is ELFDATA2MSB
unfoldable pub class_fault : List ℕ → Option ImageFault
class_fault bytes =
    if not (slice_index bytes 4 == 1) then Some (broken Class 4)
    else unless (slice_index bytes 5 == 2) (broken Class 5)

-- Machine: e_machine is EM_MIPS
unfoldable pub machine_fault : List ℕ → Option ImageFault
machine_fault bytes = unless (machine_of bytes == 8) (broken Machine 18)

-- Kind: e_type is ET_EXEC
unfoldable pub kind_fault : List ℕ → Option ImageFault
kind_fault bytes = unless (kind_of bytes == 2) (broken Kind 16)

-- Table: program headers have 32 bytes, where there are any, and the table of them lies in the file
unfoldable pub table_fault : List ℕ → Option ImageFault
table_fault bytes =
    if not (count_of bytes == 0) && not (header_size_of bytes == 32) then Some (broken Table 42)
    else unless (nat_le (table_of bytes + 32 * count_of bytes) (length bytes)) (broken Table 28)

-- neither the file nor the memory has a byte of the segment
abbrev pub is_empty : Segment → Bool
is_empty segment = (segment.file_size == 0) && (segment.memory_size == 0)

-- a segment whose bytes are stored: p_type is PT_LOAD, and there are bytes
abbrev pub is_stored : Segment → Bool
is_stored segment = (segment.kind == 1) && not (is_empty segment)

-- so many bytes from an address on lie in kseg0 or kseg1 and in RAM
abbrev pub has_place : ℕ → ℕ → Bool
has_place va count = is_unmapped va && nat_le (physical va + count) ram_size

-- the segment has at least the memory that the file fills, its bytes lie in the file, and its memory lies in kseg0 or
-- kseg1 and in RAM
abbrev pub is_in_range : ℕ → Segment → Bool
is_in_range size segment =
    nat_le segment.file_size segment.memory_size
    && nat_le (segment.offset + segment.file_size) size
    && has_place segment.address segment.memory_size

-- a header of a segment that is stored and not in range
unfoldable pub breaks_range : List ℕ → ℕ → Bool
breaks_range bytes at = is_stored (segment_at bytes at) && not (is_in_range (length bytes) (segment_at bytes at))

-- Range: each segment that is stored is in range; the offset is that of the first header that breaks it
unfoldable pub range_fault : List ℕ → Option ImageFault
range_fault bytes = option_map (broken Range) (find (breaks_range bytes) (headers_of bytes))

-- an instruction's address in kseg0 or kseg1
abbrev pub can_enter : ℕ → Bool
can_enter entry = is_unmapped entry && (entry % 4 == 0)

-- Entry: the image is entered at such an address
unfoldable pub entry_fault : List ℕ → Option ImageFault
entry_fault bytes = unless (can_enter (entry_of bytes)) (broken Entry 24)

-- the first fault of a list of rules
abbrev pub first_fault : List (Option ImageFault) → Option ImageFault
first_fault [] = None
first_fault (Some fault ∷ faults) = Some fault
first_fault (None ∷ faults) = first_fault faults

-- the first broken rule of a file, and None for an image
unfoldable pub image_fault : List ℕ → Option ImageFault
image_fault bytes =
    first_fault
    (short_fault bytes
    ∷ magic_fault bytes
    ∷ class_fault bytes
    ∷ machine_fault bytes
    ∷ kind_fault bytes
    ∷ table_fault bytes
    ∷ range_fault bytes
    ∷ entry_fault bytes
    ∷ [])
