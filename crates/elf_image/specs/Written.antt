-- The image that the assembler writes: an ELF header, one program header, and the bytes of its segment.
-- Source: System V Application Binary Interface, Object Files: "ELF Header" and "Program Header" (32-bit), with the
-- MIPS RISC Processor Supplement for EM_MIPS.
use Rattle.std.specs.Prelude.{ℕ, List, [], ◌∷◌, ◌++◌, length}
use Rattle.flat_ram.specs.Bytes.{bytes_of_half, bytes_of}

-- e_ident: the magic number, ELFCLASS32, ELFDATA2MSB, EV_CURRENT and nine zeros
abbrev pub ident : List ℕ
ident = 0x7f ∷ 0x45 ∷ 0x4c ∷ 0x46 ∷ 1 ∷ 2 ∷ 1 ∷ 0 ∷ 0 ∷ 0 ∷ 0 ∷ 0 ∷ 0 ∷ 0 ∷ 0 ∷ 0 ∷ []

-- the 52 bytes of the ELF header of an executable with one program header, which follows it
unfoldable pub elf_header : ℕ → List ℕ
elf_header entry =
    ident
    ++ bytes_of_half 2  -- e_type: ET_EXEC
    ++ bytes_of_half 8  -- e_machine: EM_MIPS
    ++ bytes_of 1  -- e_version: EV_CURRENT
    ++ bytes_of entry  -- e_entry
    ++ bytes_of 52  -- e_phoff
    ++ bytes_of 0  -- e_shoff
    ++ bytes_of 0  -- e_flags
    ++ bytes_of_half 52  -- e_ehsize
    ++ bytes_of_half 32  -- e_phentsize
    ++ bytes_of_half 1  -- e_phnum
    ++ bytes_of_half 0  -- e_shentsize
    ++ bytes_of_half 0  -- e_shnum
    ++ bytes_of_half 0  -- e_shstrndx

-- the 32 bytes of the program header of one segment of so many bytes, which follow the two headers in the file
unfoldable pub program_header : ℕ → ℕ → List ℕ
program_header base count =
    bytes_of 1  -- p_type: PT_LOAD
    ++ bytes_of 84  -- p_offset
    ++ bytes_of base  -- p_vaddr
    ++ bytes_of base  -- p_paddr
    ++ bytes_of count  -- p_filesz
    ++ bytes_of count  -- p_memsz
    ++ bytes_of 7  -- p_flags: PF_R, PF_W and PF_X
    ++ bytes_of 4  -- p_align

-- the image of some bytes at a base, with an entry
unfoldable pub image_of : ℕ → ℕ → List ℕ → List ℕ
image_of base entry body = elf_header entry ++ program_header base (length body) ++ body
