-- The bytes that loads and stores move between memory and a register.
-- Source: MIPS R4000 Microprocessor User's Manual, 2nd edition (Heinrich), appendix A, the pages of LB to SW, LWL, LWR, SWL,
-- SWR and of the same with D, whose figures show the bytes of each position; big-endian byte numbering.
use Rattle.std.specs.Prelude.{ℕ, pos, ◌==◌, ◌+◌, ◌-◌, ◌*◌, ◌%◌, Bool, true, false, if◌then◌else◌, List, fold}
use Rattle.std.specs.Int.{bytes_high_first}
use Rattle.flat_ram.specs.Bytes.{bytes_at, put_bytes}
use Rattle.mips3_table.specs.declared.operations.Width.{Width}
use Rattle.mips3_table.specs.declared.operations.Width.TheVariants.{Word, Double}
use Rattle.mips3_table.specs.declared.operations.Size.{Size}
use Rattle.mips3_table.specs.declared.operations.Size.TheVariants.{Byte, Half, Wide}
use Rattle.mips3_table.specs.declared.operations.Signedness.{Signedness}
use Rattle.mips3_table.specs.declared.operations.Signedness.TheVariants.{Signed, Unsigned}
use Rattle.mips3_table.specs.declared.operations.Operation.{Operation}
use Rattle.mips3_table.specs.declared.operations.Operation.TheVariants.{Load, LoadLeft, LoadRight, LoadLinked, Store, StoreLeft, StoreRight, StoreConditional}
use Rattle.mips3_alu.specs.Arithmetic.{reduced, unsigned}

-- how many bytes a width, and a size, has
abbrev pub bytes_of_width : Width → ℕ
bytes_of_width Word = 4
bytes_of_width Double = 8

abbrev pub bytes_of_size : Size → ℕ
bytes_of_size Byte = 1
bytes_of_size Half = 2
bytes_of_size (Wide width) = bytes_of_width width

-- ---- which bytes are moved

-- The bytes that an access moves: so many (`size`), from a lowest address on (`first`), and the place in the register of the
-- first of them. The others follow it, in memory and in the register; the register's places go from 0, its most significant
-- byte, to 7. The operation concerns so many low bytes of the register (`unit`), and its address is a multiple of
-- `alignment`, or the access is an address error.
pub record Moved : Type 0 where
  pub first : ℕ
  pub size : ℕ
  pub place : ℕ
  pub unit : ℕ
  pub alignment : ℕ

-- n low bytes of the register, at an address that is a multiple of n
abbrev pub whole : ℕ → ℕ → Moved
whole n va = record { first = va; size = n; place = 8 - n; unit = n; alignment = n }

-- the high bytes of n: those from the address up to the end of its aligned n bytes
abbrev pub left : ℕ → ℕ → Moved
left n va = record { first = va; size = n - va % n; place = 8 - n; unit = n; alignment = 1 }

-- the low bytes of n: those from the beginning of the aligned n bytes up to the address
abbrev pub right : ℕ → ℕ → Moved
right n va = record { first = va - va % n; size = va % n + 1; place = 7 - va % n; unit = n; alignment = 1 }

-- The bytes that an operation moves at an address. What is not listed moves none; a cache operation is aimed at the byte
-- there.
abbrev pub moved : Operation → ℕ → Moved
moved (Load size signedness) va = whole (bytes_of_size size) va
moved (LoadLeft width) va = left (bytes_of_width width) va
moved (LoadRight width) va = right (bytes_of_width width) va
moved (LoadLinked width) va = whole (bytes_of_width width) va
moved (Store size) va = whole (bytes_of_size size) va
moved (StoreLeft width) va = left (bytes_of_width width) va
moved (StoreRight width) va = right (bytes_of_width width) va
moved (StoreConditional width) va = whole (bytes_of_width width) va
moved _ va = whole 1 va

-- the address is aligned as the operation wants it
abbrev pub is_aligned : Operation → ℕ → Bool
is_aligned operation va = va % (moved operation va).alignment == 0

-- the same rule seen from the bytes: 2, 4 or 8 of them begin at a multiple of their number, as those of the left and right
-- operations always do
abbrev pub begins_aligned : ℕ → ℕ → Bool
begins_aligned first size =
    if size == 2 then first % 2 == 0 else
    if size == 4 then first % 4 == 0 else
    if size == 8 then first % 8 == 0 else
    true

abbrev pub is_load : Operation → Bool
is_load (Load size signedness) = true
is_load (LoadLeft width) = true
is_load (LoadRight width) = true
is_load (LoadLinked width) = true
is_load _ = false

abbrev pub is_store : Operation → Bool
is_store (Store size) = true
is_store (StoreLeft width) = true
is_store (StoreRight width) = true
is_store (StoreConditional width) = true
is_store _ = false

-- ---- what becomes of them

-- the number whose bytes these are, the most significant first
abbrev pub number_of_bytes : List ℕ → ℕ
number_of_bytes bytes = fold (λ high byte. high * 256 + byte) 0 bytes

-- the eight bytes of a register, the most significant first
abbrev pub register_bytes : ℕ → List ℕ
register_bytes value = bytes_high_first 8 value

-- the low bits of a number as a register, in two's complement or not
abbrev pub as_register : Signedness → ℕ → ℕ → ℕ
as_register Signed width value = reduced width (pos value)
as_register Unsigned width value = unsigned width value

-- how a load extends: by zeros in the unsigned rows alone
abbrev pub signedness_of : Operation → Signedness
signedness_of (Load size signedness) = signedness
signedness_of _ = Signed

-- the register's number with the bytes that were read at their places, and its other bytes as they were
abbrev pub merged : Moved → ℕ → ℕ → ℕ
merged m old bytes = number_of_bytes (put_bytes (register_bytes old) m.place (bytes_high_first m.size bytes))

-- The register after a load at an address, by what it was and the number of the bytes read: of the merged number the low
-- bytes that the operation concerns, extended to 64 bits.
unfoldable pub loaded_by : Operation → ℕ → ℕ → ℕ → ℕ
loaded_by operation old va bytes =
    as_register (signedness_of operation) (8 * (moved operation va).unit) (merged (moved operation va) old bytes)

-- The number of the bytes that a store writes at an address: those of the register at the places that are moved.
unfoldable pub stored_by : Operation → ℕ → ℕ → ℕ
stored_by operation value va =
    number_of_bytes (bytes_at (register_bytes value) (moved operation va).place (moved operation va).size)
