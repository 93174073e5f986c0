-- The listing of an ELF32 image, a text: what the image's file has of its segments, a line for each word.
--
--     a0010000 3c08bf00 lui t0,0xbf00
--     a0010004 34090041 ori t1,zero,0x41
--
-- Source of the headers: System V Application Binary Interface, Object Files, "Program Header"; the format of the
-- text is this project's own.
use Rattle.std.specs.Prelude.{ℕ, ◌+◌, List, [], ◌∷◌, ◌++◌, codes}
use Rattle.std.specs.List.{flat_map}
use Rattle.r4_words.specs.Texts.{hex_of}
use Rattle.flat_ram.specs.Bytes.{word_at}
use Rattle.mips_text.specs.Printed.{word_text}
use Rattle.elf_image.specs.declared.segments.Segment.{Segment}
use Rattle.elf_image.specs.Header.{segment_at, headers_of}
use Rattle.elf_image.specs.Loading.{file_bytes_of}

-- the line of a word: its address and itself as eight hexadecimal digits in lower case, then its text, which is that of
-- an instruction at this address, or `.word` and the number where the word is reserved
unfoldable pub word_line : ℕ → ℕ → List ℕ
word_line address word = hex_of 8 address ++ codes " " ++ hex_of 8 word ++ codes " " ++ word_text word address ++ codes "\n"

-- the lines of bytes that begin at an address, whether it is a multiple of 4 or not: a line for each four bytes, which
-- are a word with the high byte first; a rest of fewer than four bytes has no line
abbrev pub word_lines : ℕ → List ℕ → List ℕ
word_lines address (a ∷ b ∷ c ∷ d ∷ rest) =
    word_line address (word_at (a ∷ b ∷ c ∷ d ∷ []) 0) ++ word_lines (address + 4) rest
word_lines address rest = []

-- the lines of a segment: those of the bytes that the file has of it, from its virtual address on. Segments of other
-- types than PT_LOAD have none, and the zeros that memory has after the file's bytes have none.
abbrev pub segment_lines : List ℕ → Segment → List ℕ
segment_lines file segment = word_lines segment.address (file_bytes_of file segment)

-- the listing of an image, by the bytes of its file: the lines of all its segments, in the order of their headers
unfoldable pub listing_of : List ℕ → List ℕ
listing_of file = flat_map (λ header. segment_lines file (segment_at file header)) (headers_of file)
