-- The registers of CP0: one row for each, to be laid beside the manual.
-- Source: MIPS R4000 Microprocessor User's Manual (Heinrich, 2nd edition), chapter 4, "CP0 Registers", and chapter 5,
-- "Exception Processing Registers". Values at
-- reset that the manual leaves open, and the bits that are zero here and not there (floating point, 64-bit addresses, reverse
-- endian, parity), are this machine's own.
use Rattle.std.specs.Prelude.{ℕ, ◌+◌, ◌==◌, List, [], ◌∷◌, map, Option, Some, None}
use Rattle.std.specs.List.{find, range_with_len}
use Rattle.cp0_regs.specs.Bits.{all_bits}
use Rattle.cp0_regs.specs.Fields.{bits_of, bits_of_all, status_fields, cause_fields, software_lines, k0, bad_vpn2}

-- What a register is at reset: a value, or what the shape of the caches gives.
pub data AtReset : Type 0 where
  Always : ℕ → AtReset
  Shape : AtReset

-- A register: its number, what it is at reset, the bits that MTC0 writes, and the bits that it can have.
pub record Register : Type 0 where
  pub number : ℕ
  pub reset : AtReset
  pub written : ℕ
  pub possible : ℕ

abbrev pub register : ℕ → AtReset → ℕ → ℕ → Register
register number reset written possible = record { number = number; reset = reset; written = written; possible = possible }

-- P, and the index of a pair
abbrev pub index : Register
index = register 0 (Always 0) 0x8000003f 0x8000003f

-- at most 47
abbrev pub random : Register
random = register 1 (Always 47) 0 0x0000003f

abbrev pub entry_lo0 : Register
entry_lo0 = register 2 (Always 0) 0x3fffffff 0x3fffffff

abbrev pub entry_lo1 : Register
entry_lo1 = register 3 (Always 0) 0x3fffffff 0x3fffffff

-- PTEBase, and BadVPN2, which exceptions write
abbrev pub context : Register
context = register 4 (Always 0) 0xff800000 (0xff800000 + bits_of bad_vpn2)

-- a run of pairs of ones from bit 13 up
abbrev pub page_mask : Register
page_mask = register 5 (Always 0) 0x01ffe000 0x01ffe000

abbrev pub wired : Register
wired = register 6 (Always 0) 0x0000003f 0x0000003f

abbrev pub bad_vaddr : Register
bad_vaddr = register 8 (Always 0) 0 all_bits

abbrev pub count : Register
count = register 9 (Always 0) all_bits all_bits

abbrev pub entry_hi : Register
entry_hi = register 10 (Always 0) 0xffffe0ff 0xffffe0ff

abbrev pub compare : Register
compare = register 11 (Always 0) all_bits all_bits

-- ERL and BEV at reset
abbrev pub status : Register
status = register 12 (Always 0x00400004) (bits_of_all status_fields) (bits_of_all status_fields)

abbrev pub cause : Register
cause = register 13 (Always 0) (bits_of software_lines) (bits_of_all cause_fields)

abbrev pub epc : Register
epc = register 14 (Always 0) all_bits all_bits

-- the implementation 4, an R4000, and the revision 0
abbrev pub prid : Register
prid = register 15 (Always 0x00000400) 0 0x00000400

-- the sizes of the caches, as the shape has them, and K0
abbrev pub config : Register
config = register 16 Shape (bits_of k0) all_bits

abbrev pub ll_addr : Register
ll_addr = register 17 (Always 0) all_bits all_bits

abbrev pub tag_lo : Register
tag_lo = register 28 (Always 0) all_bits all_bits

abbrev pub tag_hi : Register
tag_hi = register 29 (Always 0) 0 0

abbrev pub error_epc : Register
error_epc = register 30 (Always 0) all_bits all_bits

-- the registers in the order in which they are shown
abbrev pub registers : List Register
registers =
    index ∷ random ∷ entry_lo0 ∷ entry_lo1 ∷
    context ∷ page_mask ∷ wired ∷ bad_vaddr ∷
    count ∷ entry_hi ∷ compare ∷ status ∷
    cause ∷ epc ∷ prid ∷ config ∷
    ll_addr ∷ tag_lo ∷ tag_hi ∷ error_epc ∷ []

abbrev pub numbers : List ℕ
numbers = map (λ register. register.number) registers

-- the register of a number, None where none is listed
abbrev pub register_of : ℕ → Option Register
register_of number = find (λ register. number == register.number) registers

-- the bits of a number's register that MTC0 writes, and those that it can have: none where none is listed
abbrev pub written_in : Option Register → ℕ
written_in (Some register) = register.written
written_in None = 0

unfoldable pub written_bits : ℕ → ℕ
written_bits number = written_in (register_of number)

abbrev pub possible_in : Option Register → ℕ
possible_in (Some register) = register.possible
possible_in None = 0

unfoldable pub possible_bits : ℕ → ℕ
possible_bits number = possible_in (register_of number)

-- a number's register at reset, for what the shape gives
abbrev pub value_at_reset : ℕ → AtReset → ℕ
value_at_reset shape (Always value) = value
value_at_reset shape Shape = shape

abbrev pub reset_in : ℕ → Option Register → ℕ
reset_in shape (Some register) = value_at_reset shape register.reset
reset_in shape None = 0

-- the 32 registers at reset
unfoldable pub reset_cp0 : ℕ → List ℕ
reset_cp0 shape = map (λ number. reset_in shape (register_of number)) (range_with_len 0 32)
