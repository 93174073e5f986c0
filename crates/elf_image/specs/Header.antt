-- The headers of an ELF32 image in big-endian order: the fields that this machine reads, by their names in the
-- standard.
-- Source: System V Application Binary Interface, Object Files: "ELF Header" and "Program Header" (32-bit), with the
-- MIPS RISC Processor Supplement for EM_MIPS.
use Rattle.std.specs.Prelude.{ℕ, zero, suc, ◌+◌, List, [], ◌∷◌}
use Rattle.flat_ram.specs.Bytes.{half_at, word_at}
use Rattle.elf_image.specs.declared.segments.Segment.{Segment}

-- e_type
abbrev pub kind_of : List ℕ → ℕ
kind_of bytes = half_at bytes 16

-- e_machine
abbrev pub machine_of : List ℕ → ℕ
machine_of bytes = half_at bytes 18

-- e_entry: where the image is entered
abbrev pub entry_of : List ℕ → ℕ
entry_of bytes = word_at bytes 24

-- e_phoff: where the table of program headers begins in the file
abbrev pub table_of : List ℕ → ℕ
table_of bytes = word_at bytes 28

-- e_phentsize: how many bytes a program header has
abbrev pub header_size_of : List ℕ → ℕ
header_size_of bytes = half_at bytes 42

-- e_phnum: how many program headers there are
abbrev pub count_of : List ℕ → ℕ
count_of bytes = half_at bytes 44

-- the program header at an offset: p_type, p_offset, p_vaddr, p_filesz and p_memsz
abbrev pub segment_at : List ℕ → ℕ → Segment
segment_at bytes at =
    record {
      kind = word_at bytes at;
      offset = word_at bytes (at + 4);
      address = word_at bytes (at + 8);
      file_size = word_at bytes (at + 16);
      memory_size = word_at bytes (at + 20);
    }

-- the offsets of so many program headers of 32 bytes, one after the other
unfoldable pub headers_from : ℕ → ℕ → List ℕ
headers_from at zero = []
headers_from at (suc count) = at ∷ headers_from (at + 32) count

-- the offsets of the program headers
abbrev pub headers_of : List ℕ → List ℕ
headers_of bytes = headers_from (table_of bytes) (count_of bytes)
