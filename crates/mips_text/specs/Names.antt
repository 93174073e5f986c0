-- The names of registers in assembler text.
-- Source: MIPS R4000 Microprocessor User's Manual, 2nd edition (Heinrich), chapter 4, "CP0 Registers", for the names of
-- the registers of coprocessor 0; System V ABI, MIPS supplement, "Registers", for those of the general registers.
use Rattle.std.specs.Prelude.{ℕ, ◌==◌, nat_lt, if◌then◌else◌, List, [], ◌∷◌, drop, slice_index, slice_index_or, Option, Some, None, codes, bytes_eq, position}
use Rattle.std.specs.Option.{option_or}
use Rattle.r4_words.specs.Texts.{read_dec}
use Rattle.r4_words.specs.Ascii.{dollar, small_c}

-- the names of the general registers 0 to 31
unfoldable pub register_names : List (List ℕ)
register_names =
    codes "zero" ∷ codes "at" ∷ codes "v0" ∷ codes "v1" ∷ codes "a0" ∷ codes "a1" ∷ codes "a2" ∷ codes "a3" ∷
    codes "t0" ∷ codes "t1" ∷ codes "t2" ∷ codes "t3" ∷ codes "t4" ∷ codes "t5" ∷ codes "t6" ∷ codes "t7" ∷
    codes "s0" ∷ codes "s1" ∷ codes "s2" ∷ codes "s3" ∷ codes "s4" ∷ codes "s5" ∷ codes "s6" ∷ codes "s7" ∷
    codes "t8" ∷ codes "t9" ∷ codes "k0" ∷ codes "k1" ∷ codes "gp" ∷ codes "sp" ∷ codes "s8" ∷ codes "ra" ∷ []

-- the names of the registers 0 to 31 of coprocessor 0; one that has none in the manual has `c` and its number
unfoldable pub cp0_names : List (List ℕ)
cp0_names =
    codes "Index" ∷ codes "Random" ∷ codes "EntryLo0" ∷ codes "EntryLo1" ∷
    codes "Context" ∷ codes "PageMask" ∷ codes "Wired" ∷ codes "c7" ∷
    codes "BadVAddr" ∷ codes "Count" ∷ codes "EntryHi" ∷ codes "Compare" ∷
    codes "Status" ∷ codes "Cause" ∷ codes "EPC" ∷ codes "PRId" ∷
    codes "Config" ∷ codes "LLAddr" ∷ codes "c18" ∷ codes "c19" ∷
    codes "c20" ∷ codes "c21" ∷ codes "c22" ∷ codes "c23" ∷
    codes "c24" ∷ codes "c25" ∷ codes "c26" ∷ codes "c27" ∷
    codes "TagLo" ∷ codes "TagHi" ∷ codes "ErrorEPC" ∷ codes "c31" ∷ []

-- the name of a general register
unfoldable pub register_name : ℕ → List ℕ
register_name register = slice_index_or register_names register []

-- the name of a register of coprocessor 0
unfoldable pub cp0_name : ℕ → List ℕ
cp0_name register = slice_index_or cp0_names register []

-- a number, if it is below 32
abbrev pub below_32 : Option ℕ → Option ℕ
below_32 (Some n) = if nat_lt n 32 then Some n else None
below_32 None = None

-- the register that a text names by this byte and its number, 0 to 31 without a leading zero
abbrev pub numbered : ℕ → List ℕ → Option ℕ
numbered first text = if slice_index text 0 == first then below_32 (read_dec (drop 1 text)) else None

-- the general register that a text names: by its name, as fp for s8, or as $0 to $31
unfoldable pub register_of : List ℕ → Option ℕ
register_of text = if bytes_eq text (codes "fp") then Some 30 else option_or (position (bytes_eq text) register_names) (numbered dollar text)

-- the register of coprocessor 0 that a text names: by its name, or as c0 to c31
unfoldable pub cp0_register_of : List ℕ → Option ℕ
cp0_register_of text = option_or (position (bytes_eq text) cp0_names) (numbered small_c text)
