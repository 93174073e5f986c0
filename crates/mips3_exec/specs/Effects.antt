-- The effect of each instruction: an equation over the registers and pc, or a request for memory, for coprocessor 0 or for an
-- exception. There is one equation for each operation of the table; rows that differ in their operands alone share it.
-- Source: MIPS R4000 Microprocessor User's Manual, 2nd edition (Heinrich), appendix A, the "Operation" of each instruction's
-- page; chapter 5, the codes of exceptions.
use Rattle.std.specs.Prelude.{ℕ, pos, ◌==◌, ◌*◌, ◌^◌, Bool, true, false, not, bit_and, bit_or, bit_xor, if◌then◌else◌, Option, Some, None}
use Rattle.mips3_table.specs.declared.instruction.Inst.{Inst}
use Rattle.mips3_table.specs.declared.operand_forms.Form.{Form}
use Rattle.mips3_table.specs.declared.operations.Operation.{Operation}
use Rattle.mips3_table.specs.declared.operations.Operation.TheVariants.{Jump, Branch, Add, Subtract, And, Or, ExclusiveOr, NotOr, SetWhere, LoadUpper, ShiftLeft, ShiftRightLogical, ShiftRightArithmetic, Multiply, Divide, MoveFromHi, MoveFromLo, MoveToHi, MoveToLo, TrapWhere, SystemCall, Breakpoint, Synchronize, Load, LoadLeft, LoadRight, LoadLinked, Store, StoreLeft, StoreRight, StoreConditional, OperateCache, UseCoprocessor, MoveFromCp0, MoveToCp0, ReadTlb, WriteIndexedTlb, WriteRandomTlb, ProbeTlb, ReturnFromException}
use Rattle.mips3_table.specs.declared.operations.Width.{Width}
use Rattle.mips3_table.specs.declared.operations.Amount.{Amount}
use Rattle.mips3_table.specs.declared.operations.Overflow.{Overflow}
use Rattle.mips3_table.specs.declared.operations.Overflow.TheVariants.{Traps, Wraps}
use Rattle.mips3_table.specs.declared.operations.Comparison.{Comparison}
use Rattle.mips3_table.specs.declared.operations.Comparison.TheVariants.{Equal, NotEqual, Less, LessUnsigned, GreaterOrEqual, GreaterOrEqualUnsigned, LessOrEqual, Greater}
use Rattle.mips3_table.specs.declared.operations.Link.{Link}
use Rattle.mips3_table.specs.declared.operations.DelaySlot.{DelaySlot}
use Rattle.mips3_table.specs.declared.operations.DelaySlot.TheVariants.{AlwaysExecuted, NullifiedUnlessTaken}
use Rattle.mips3_table.specs.declared.operations.Signedness.{Signedness}
use Rattle.mips3_table.specs.declared.operations.Signedness.TheVariants.{Signed, Unsigned}
use Rattle.mips3_table.specs.declared.operations.Coprocessor.{Coprocessor}
use Rattle.mips3_table.specs.declared.operations.Coprocessor.TheVariants.{One, Two}
use Rattle.mips3_table.specs.Rows.{row_at}
use Rattle.mips3_alu.specs.declared.registers.Regs.{Regs}
use Rattle.mips3_alu.specs.declared.registers.Halves.{Halves}
use Rattle.mips3_alu.specs.Arithmetic.{reduced, sum, sum_if_fits, difference, difference_if_fits, nor, less, less_unsigned, one_where, shifted_left, shifted_right_logical, shifted_right_arithmetic, product, product_unsigned, division, division_unsigned}
use Rattle.cp0_exceptions.specs.Codes as codes
use Rattle.mips3_exec.specs.declared.effects.Effect.{Effect}
use Rattle.mips3_exec.specs.declared.effects.Effect.TheVariants as effect
use Rattle.mips3_exec.specs.declared.effects.Touch.{Touch}
use Rattle.mips3_exec.specs.declared.effects.Touch.TheVariants as touch
use Rattle.mips3_exec.specs.Operands.{bits, first_of, second_of, shifted_of, amount_of, destination_of, address_of, target_of, link_register, link_value}
use Rattle.mips3_exec.specs.Accesses.{moved, loaded_by, stored_by}

-- ---- words of the equations

-- a comparison of two values of 64 bits
abbrev pub holds : Comparison → ℕ → ℕ → Bool
holds Equal a b = a == b
holds NotEqual a b = not (a == b)
holds Less a b = less a b
holds LessUnsigned a b = less_unsigned a b
holds GreaterOrEqual a b = not (less a b)
holds GreaterOrEqualUnsigned a b = not (less_unsigned a b)
holds LessOrEqual a b = not (less b a)
holds Greater a b = less b a

-- the sum, and the difference, that has no value where a trapping one does not fit
abbrev pub sum_by : Overflow → ℕ → ℕ → ℕ → Option ℕ
sum_by Traps width a b = sum_if_fits width a b
sum_by Wraps width a b = Some (sum width a b)

abbrev pub difference_by : Overflow → ℕ → ℕ → ℕ → Option ℕ
difference_by Traps width a b = difference_if_fits width a b
difference_by Wraps width a b = Some (difference width a b)

abbrev pub product_by : Signedness → ℕ → ℕ → ℕ → Halves
product_by Signed width a b = product width a b
product_by Unsigned width a b = product_unsigned width a b

abbrev pub division_by : Signedness → ℕ → ℕ → ℕ → Halves
division_by Signed width a b = division width a b
division_by Unsigned width a b = division_unsigned width a b

-- an exception that an instruction raises by itself, by its code in Cause
abbrev pub exception : ℕ → Effect
exception code = effect.Raise code 0

-- a value that was found goes to a register, and where there is none the overflow exception is raised
abbrev pub set_or_overflow : ℕ → Option ℕ → Effect
set_or_overflow reg (Some value) = effect.Set reg value
set_or_overflow reg None = exception codes.overflow

abbrev pub to_hi_and_lo : Halves → Effect
to_hi_and_lo halves = effect.HiLo halves.hi halves.lo

-- the trap exception under a condition
abbrev pub trap_where : Bool → Effect
trap_where condition = if condition then exception codes.trap else effect.Nothing

-- a branch likely
abbrev pub is_likely : DelaySlot → Bool
is_likely AlwaysExecuted = false
is_likely NullifiedUnlessTaken = true

-- the exception of a coprocessor that is not usable, with its number
abbrev pub unusable : Coprocessor → Effect
unusable One = effect.Raise codes.coprocessor_unusable 1
unusable Two = effect.Raise codes.coprocessor_unusable 2

-- ---- the equations

module _ (form : Form) (inst : Inst) (regs : Regs) where
  -- the operands: all of them are read before anything is written, so a link does not change what a branch compares
  abbrev pub first : ℕ
  first = first_of inst regs

  abbrev pub second : ℕ
  second = second_of form inst regs

  -- a value goes to the destination
  abbrev pub destination : ℕ
  destination = destination_of form inst

  abbrev pub set : ℕ → Effect
  set value = effect.Set destination value

  -- register rt, shifted by so many bits, goes to the destination
  abbrev pub shift : (ℕ → ℕ → ℕ → ℕ) → Width → Amount → Effect
  shift shifted width amount = set (shifted (bits width) (shifted_of inst regs) (amount_of amount width inst regs))

  -- an access to the bytes that an operation moves, for register rt
  abbrev pub access : Touch → Operation → Effect
  access kind operation =
      let va = address_of form inst regs in
      effect.Touch kind va (moved operation va).first (moved operation va).size inst.rt

  module _ (pc : ℕ) where
    -- a jump or a branch: whether it is taken, whether it is likely, its target and its link
    abbrev pub jump : Bool → Bool → Link → Effect
    jump taken likely link = effect.Jump taken likely (target_of form inst regs pc) (link_register link inst) (link_value link pc)

    -- The effect of each operation.
    unfoldable pub carried_out : Operation → Effect
    carried_out (Jump link) = jump true false link
    carried_out (Branch comparison slot link) = jump (holds comparison first second) (is_likely slot) link
    carried_out (Add width overflow) = set_or_overflow destination (sum_by overflow (bits width) first second)
    carried_out (Subtract width overflow) = set_or_overflow destination (difference_by overflow (bits width) first second)
    carried_out And = set (bit_and first second)
    carried_out Or = set (bit_or first second)
    carried_out ExclusiveOr = set (bit_xor first second)
    carried_out NotOr = set (nor first second)
    carried_out (SetWhere comparison) = set (one_where (holds comparison first second))
    carried_out LoadUpper = set (reduced 32 (pos (inst.imm * 2 ^ 16)))
    carried_out (ShiftLeft width amount) = shift shifted_left width amount
    carried_out (ShiftRightLogical width amount) = shift shifted_right_logical width amount
    carried_out (ShiftRightArithmetic width amount) = shift shifted_right_arithmetic width amount
    carried_out (Multiply width signedness) = to_hi_and_lo (product_by signedness (bits width) first second)
    carried_out (Divide width signedness) = to_hi_and_lo (division_by signedness (bits width) first second)
    carried_out MoveFromHi = set regs.hi
    carried_out MoveFromLo = set regs.lo
    carried_out MoveToHi = effect.HiLo first regs.lo
    carried_out MoveToLo = effect.HiLo regs.hi first
    carried_out (TrapWhere comparison) = trap_where (holds comparison first second)
    carried_out SystemCall = exception codes.system_call
    carried_out Breakpoint = exception codes.breakpoint
    carried_out Synchronize = effect.Nothing
    carried_out (Load size signedness) = access touch.Load (Load size signedness)
    carried_out (LoadLeft width) = access touch.Load (LoadLeft width)
    carried_out (LoadRight width) = access touch.Load (LoadRight width)
    carried_out (LoadLinked width) = access touch.Link (LoadLinked width)
    carried_out (Store size) = access touch.Store (Store size)
    carried_out (StoreLeft width) = access touch.Store (StoreLeft width)
    carried_out (StoreRight width) = access touch.Store (StoreRight width)
    carried_out (StoreConditional width) = access touch.Cond (StoreConditional width)
    carried_out OperateCache = access touch.Cache OperateCache
    carried_out (UseCoprocessor coprocessor) = unusable coprocessor
    carried_out (MoveFromCp0 width) = effect.System inst.row
    carried_out (MoveToCp0 width) = effect.System inst.row
    carried_out ReadTlb = effect.System inst.row
    carried_out WriteIndexedTlb = effect.System inst.row
    carried_out WriteRandomTlb = effect.System inst.row
    carried_out ProbeTlb = effect.System inst.row
    carried_out ReturnFromException = effect.System inst.row

-- ---- read off the table

-- the operation of an instruction's row
abbrev pub operation_of : Inst → Operation
operation_of inst = (row_at inst.row).operation

-- the effect of an instruction at pc
unfoldable pub effect_of : Inst → Regs → ℕ → Effect
effect_of inst regs pc = carried_out (row_at inst.row).form inst regs pc (operation_of inst)

-- the register after the load, and the bytes of the store, that an instruction is
unfoldable pub loaded_of : Inst → ℕ → ℕ → ℕ → ℕ
loaded_of inst old va bytes = loaded_by (operation_of inst) old va bytes

unfoldable pub stored_of : Inst → ℕ → ℕ → ℕ
stored_of inst value va = stored_by (operation_of inst) value va
