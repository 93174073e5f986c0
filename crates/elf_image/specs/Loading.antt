-- The RAM after an image was loaded.
-- Source: System V Application Binary Interface, Object Files, "Program Loading": the file's bytes of a segment are
-- followed by zeros up to its size in memory.
use Rattle.std.specs.Prelude.{ℕ, ◌-◌, List, [], ◌++◌, if◌then◌else◌}
use Rattle.std.specs.List.{fold}
use Rattle.flat_ram.specs.Bytes.{zeros_of, bytes_at, put_bytes}
use Rattle.flat_ram.specs.Unmapped.{physical}
use Rattle.elf_image.specs.declared.segments.Segment.{Segment}
use Rattle.elf_image.specs.Header.{segment_at, headers_of}
use Rattle.elf_image.specs.Rules.{is_stored}

-- the bytes that the file has of a segment, where it is stored; no bytes of any other
abbrev pub file_bytes_of : List ℕ → Segment → List ℕ
file_bytes_of bytes segment = if is_stored segment then bytes_at bytes segment.offset segment.file_size else []

-- the bytes of a segment in memory: those of the file, then zeros
abbrev pub memory_of : List ℕ → Segment → List ℕ
memory_of bytes segment = bytes_at bytes segment.offset segment.file_size ++ zeros_of (segment.memory_size - segment.file_size)

-- the RAM after a segment was stored; a segment that is not stored changes nothing
unfoldable pub stored : List ℕ → List ℕ → Segment → List ℕ
stored bytes ram segment = if is_stored segment then put_bytes ram (physical segment.address) (memory_of bytes segment) else ram

-- the RAM after the segments of some headers were stored, in their order
abbrev pub stored_all : List ℕ → List ℕ → List ℕ → List ℕ
stored_all bytes ram headers = fold (λ ram at. stored bytes ram (segment_at bytes at)) ram headers

-- the RAM after an image's segments were stored in the order of their headers, so that a later one stands over an
-- earlier one; all other bytes are as they were, and RAM that was zero is zero there
unfoldable pub loaded : List ℕ → List ℕ → List ℕ
loaded bytes ram = stored_all bytes ram (headers_of bytes)
