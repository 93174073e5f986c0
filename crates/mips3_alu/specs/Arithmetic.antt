-- The arithmetic of the integer instructions, as equations over whole numbers and integers that are reduced to registers
-- at the end. A register is a whole number below 2 ^ 64. `bits` is the number of low bits of the operands that count: 32
-- or 64. Each equation has an instruction of words and one of doublewords, and serves the forms with an immediate and
-- with a shift amount in a register, whose operands come here extended.
--
-- Source: MIPS R4000 Microprocessor User's Manual, 2nd edition (Heinrich), appendix A, the pages of ADD, ADDU, SUB, SUBU,
-- NOR, SLT, SLTU, SLL, SRL, SRA, MULT, MULTU, DIV, DIVU and of the same with D before them; chapter 1, "CPU Registers",
-- for HI and LO. Where the manual leaves a result undefined it is this project's own choice: operands of 32 bits that are
-- no sign extension count by their low 32 bits, and a zero divisor and the least integer by -1 have the results of
-- `divided` below.
use Rattle.std.specs.Prelude.{ℕ, ℤ, pos, negsuc, ◌+◌, ◌-◌, ◌*◌, ◌/◌, ◌%◌, ◌^◌, ◌+ℤ◌, ◌-ℤ◌, ◌*ℤ◌, Bool, true, false, ◌&&◌, bit_or, nat_lt, int_lt, int_le, int_div, int_rem, ◌==◌, if◌then◌else◌, Option, Some, None}
use Rattle.mips3_alu.specs.declared.registers.Halves.{Halves}

-- ---- a register's number, and a number's register

-- the whole number that the low bits of a register stand for
unfoldable pub unsigned : ℕ → ℕ → ℕ
unsigned bits register = register % 2 ^ bits

-- the integer that the low bits stand for in two's complement: the highest of them counts as -(2 ^ (bits - 1))
unfoldable pub signed : ℕ → ℕ → ℤ
signed bits register =
    if nat_lt (unsigned bits register) (2 ^ (bits - 1)) then pos (unsigned bits register)
    else pos (unsigned bits register) -ℤ pos (2 ^ bits)

-- an integer modulo a whole number m: the one from 0 to m - 1 that differs from it by a multiple of m
abbrev pub modulo : ℤ → ℕ → ℕ
modulo (pos n) m = n % m
modulo (negsuc n) m = m - 1 - n % m

-- so many bits as a register of 64, in which the highest of them is repeated
abbrev pub extended : ℕ → ℕ → ℕ
extended bits number = if nat_lt number (2 ^ (bits - 1)) then number else number + (2 ^ 64 - 2 ^ bits)

-- the register for an integer: its low bits, sign-extended
unfoldable pub reduced : ℕ → ℤ → ℕ
reduced bits z = extended bits (modulo z (2 ^ bits))

-- an integer fits where two's complement has it: from -(2 ^ (bits - 1)) to 2 ^ (bits - 1) - 1
unfoldable pub fits : ℕ → ℤ → Bool
fits bits z = int_le (pos 0 -ℤ pos (2 ^ (bits - 1))) z && int_lt z (pos (2 ^ (bits - 1)))

-- the register for an integer that fits
abbrev pub if_fits : ℕ → ℤ → Option ℕ
if_fits bits z = if fits bits z then Some (reduced bits z) else None

-- ---- sums and differences

-- ADDU, DADDU: a + b, of which the low bits are kept
unfoldable pub sum : ℕ → ℕ → ℕ → ℕ
sum bits a b = reduced bits (signed bits a +ℤ signed bits b)

-- SUBU, DSUBU: a - b, of which the low bits are kept
unfoldable pub difference : ℕ → ℕ → ℕ → ℕ
difference bits a b = reduced bits (signed bits a -ℤ signed bits b)

-- ADD, DADD: a + b where it fits; elsewhere there is no result, but the overflow exception
unfoldable pub sum_if_fits : ℕ → ℕ → ℕ → Option ℕ
sum_if_fits bits a b = if_fits bits (signed bits a +ℤ signed bits b)

-- SUB, DSUB: the same of a - b
unfoldable pub difference_if_fits : ℕ → ℕ → ℕ → Option ℕ
difference_if_fits bits a b = if_fits bits (signed bits a -ℤ signed bits b)

-- ---- bits and comparisons of whole registers; AND, OR and XOR are std's bit_and, bit_or and bit_xor

-- NOR: the bits that neither has
unfoldable pub nor : ℕ → ℕ → ℕ
nor a b = 2 ^ 64 - 1 - bit_or a b

-- a < b as integers, and as whole numbers
unfoldable pub less : ℕ → ℕ → Bool
less a b = int_lt (signed 64 a) (signed 64 b)

unfoldable pub less_unsigned : ℕ → ℕ → Bool
less_unsigned a b = nat_lt (unsigned 64 a) (unsigned 64 b)

-- SLT, SLTU: a condition as a register
abbrev pub one_where : Bool → ℕ
one_where true = 1
one_where false = 0

-- ---- shifts

-- SLL, DSLL: the product by 2 ^ amount, of which the low bits are kept
unfoldable pub shifted_left : ℕ → ℕ → ℕ → ℕ
shifted_left bits value amount = reduced bits (pos (unsigned bits value * 2 ^ amount))

-- SRL, DSRL: the quotient by 2 ^ amount
unfoldable pub shifted_right_logical : ℕ → ℕ → ℕ → ℕ
shifted_right_logical bits value amount = reduced bits (pos (unsigned bits value / 2 ^ amount))

-- the quotient by a whole number d above 0, rounded down: -(n + 1) / d lies below -(n / d) and not below -(n / d) - 1
abbrev pub floor_quotient : ℤ → ℕ → ℤ
floor_quotient (pos n) d = pos (n / d)
floor_quotient (negsuc n) d = negsuc (n / d)

-- SRA, DSRA: the quotient of the integer by 2 ^ amount, rounded down
unfoldable pub shifted_right_arithmetic : ℕ → ℕ → ℕ → ℕ
shifted_right_arithmetic bits value amount = reduced bits (floor_quotient (signed bits value) (2 ^ amount))

-- ---- products and quotients

-- an integer of twice the bits in two registers: the low bits in LO, the bits above them in HI
abbrev pub halves : ℕ → ℤ → Halves
halves bits z = record { hi = reduced bits (floor_quotient z (2 ^ bits)); lo = reduced bits z }

-- MULT, DMULT
unfoldable pub product : ℕ → ℕ → ℕ → Halves
product bits a b = halves bits (signed bits a *ℤ signed bits b)

-- MULTU, DMULTU
unfoldable pub product_unsigned : ℕ → ℕ → ℕ → Halves
product_unsigned bits a b = halves bits (pos (unsigned bits a * unsigned bits b))

-- an integer is zero
abbrev pub is_zero : ℤ → Bool
is_zero (pos n) = n == 0
is_zero (negsuc n) = false

-- x / y, rounded towards zero, in LO, and the remainder x - y * (x / y) in HI. By zero, LO has all ones and HI has x.
-- The least integer by -1 is 2 ^ (bits - 1), whose low bits are the least integer again, and the remainder is 0
abbrev pub divided : ℕ → ℤ → ℤ → Halves
divided bits x y =
    if is_zero y then record { hi = reduced bits x; lo = 2 ^ 64 - 1 }
    else record { hi = reduced bits (int_rem x y); lo = reduced bits (int_div x y) }

-- DIV, DDIV
unfoldable pub division : ℕ → ℕ → ℕ → Halves
division bits a b = divided bits (signed bits a) (signed bits b)

-- DIVU, DDIVU
unfoldable pub division_unsigned : ℕ → ℕ → ℕ → Halves
division_unsigned bits a b = divided bits (pos (unsigned bits a)) (pos (unsigned bits b))
