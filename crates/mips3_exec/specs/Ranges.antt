-- What is known of the fields of every instruction, and of the effect of every instruction, without looking at its row.
use Rattle.std.specs.Prelude.{◌≡◌, ◌<◌, ◌≤◌, ◌==◌, ◌+◌, ◌%◌, ◌^◌, ℕ, Bool, true, false, ◌&&◌, ◌||◌, IsTrue}
use Rattle.mips3_table.specs.declared.instruction.Inst.{Inst}
use Rattle.mips3_table.specs.declared.operand_forms.Form.{Form}
use Rattle.mips3_table.specs.declared.operations.Operation.{Operation}
use Rattle.mips3_table.specs.declared.operations.Operation.TheVariants.{Add, Subtract, And, Or, ExclusiveOr, NotOr, SetWhere, LoadUpper, ShiftLeft, ShiftRightLogical, ShiftRightArithmetic, Multiply, Divide, MoveFromHi, MoveFromLo, MoveToHi, MoveToLo, MoveFromCp0, MoveToCp0, ReadTlb, WriteIndexedTlb, WriteRandomTlb, ProbeTlb, ReturnFromException}
use Rattle.mips3_table.specs.declared.operations.Width.{Width}
use Rattle.mips3_table.specs.declared.operations.Width.TheVariants.{Word}
use Rattle.mips3_table.specs.declared.operations.Amount.{Amount}
use Rattle.mips3_table.specs.declared.operations.Amount.TheVariants.{InFieldPlus32}
use Rattle.mips3_table.specs.Operands.{widths_of}
use Rattle.cp0_exceptions.specs.Codes as codes
use Rattle.mips3_exec.specs.declared.effects.Effect.{Effect}
use Rattle.mips3_exec.specs.declared.effects.Effect.TheVariants.{Set, Jump, Touch, System, Raise}
use Rattle.mips3_exec.specs.declared.effects.Touch.{Touch as Kind}
use Rattle.mips3_exec.specs.declared.effects.Touch.TheVariants.{Load, Store, Link, Cond}
use Rattle.mips3_exec.specs.Accesses.{moved, is_load, is_store, is_aligned, begins_aligned}

-- an instruction of this form: registers and amounts are below 32, and the number fits
pub record HasFields (form : Form) (inst : Inst) : Type 0 where
  pub rs : inst.rs < 32
  pub rt : inst.rt < 32
  pub rd : inst.rd < 32
  pub sa : inst.sa < 32
  pub imm : inst.imm < 2 ^ (widths_of form).number

-- a shift of a word has no amount of 32 and more
abbrev pub amount_fits : Amount → Width → Bool
amount_fits InFieldPlus32 Word = false
amount_fits by width = true

abbrev pub shifts_within : Operation → Bool
shifts_within (ShiftLeft width by) = amount_fits by width
shifts_within (ShiftRightLogical width by) = amount_fits by width
shifts_within (ShiftRightArithmetic width by) = amount_fits by width
shifts_within _ = true

-- an operation whose result goes to a register, or to HI and LO, whatever the memory and coprocessor 0 have
abbrev pub is_computed : Operation → Bool
is_computed (Add width overflow) = true
is_computed (Subtract width overflow) = true
is_computed And = true
is_computed Or = true
is_computed ExclusiveOr = true
is_computed NotOr = true
is_computed (SetWhere comparison) = true
is_computed LoadUpper = true
is_computed (ShiftLeft width by) = true
is_computed (ShiftRightLogical width by) = true
is_computed (ShiftRightArithmetic width by) = true
is_computed (Multiply width signedness) = true
is_computed (Divide width signedness) = true
is_computed MoveFromHi = true
is_computed MoveFromLo = true
is_computed MoveToHi = true
is_computed MoveToLo = true
is_computed _ = false

-- each register that an effect names is one of the 32
abbrev pub HasRegisters : Effect → Type 0
HasRegisters (Set reg value) = reg < 32
HasRegisters (Jump taken likely target link value) = link < 32
HasRegisters (Touch kind va first size reg) = reg < 32
HasRegisters _ = Unit {0}

-- an operation of coprocessor 0
abbrev pub is_system : Operation → Bool
is_system (MoveFromCp0 width) = true
is_system (MoveToCp0 width) = true
is_system ReadTlb = true
is_system WriteIndexedTlb = true
is_system WriteRandomTlb = true
is_system ProbeTlb = true
is_system ReturnFromException = true
is_system _ = false

-- what is left to coprocessor 0 is an operation of its own, by the row
pub record IsLeft (operation : Operation) (number row : ℕ) : Type 0 where
  pub row_is : row ≡ number
  pub is_its_own : IsTrue (is_system operation)

abbrev pub LeavesSystem : Operation → ℕ → Effect → Type 0
LeavesSystem operation number (System row) = IsLeft operation number row
LeavesSystem operation number _ = Unit {0}

-- an exception that an instruction raises by itself: system call, breakpoint, overflow, trap, or a coprocessor that is not
-- usable, with its number
abbrev pub is_raised : ℕ → ℕ → Bool
is_raised code unit =
    (((code == codes.system_call) || (code == codes.breakpoint) || (code == codes.overflow) || (code == codes.trap)) && (unit == 0))
    || ((code == codes.coprocessor_unusable) && ((unit == 1) || (unit == 2)))

abbrev pub RaisesItsOwn : Effect → Type 0
RaisesItsOwn (Raise code unit) = IsTrue (is_raised code unit)
RaisesItsOwn _ = Unit {0}

-- the accesses that read, and those that write
abbrev pub reads : Kind → Bool
reads Load = true
reads Link = true
reads _ = false

abbrev pub writes : Kind → Bool
writes Store = true
writes Cond = true
writes _ = false

-- an access of an operation: a load reads and a store writes, and the bytes are those that the operation moves
pub record IsAccess (operation : Operation) (kind : Kind) (va first size : ℕ) : Type 0 where
  pub load : reads kind ≡ true → IsTrue (is_load operation)
  pub store : writes kind ≡ true → IsTrue (is_store operation)
  pub first_is : first ≡ (moved operation va).first
  pub size_is : size ≡ (moved operation va).size

abbrev pub TouchesMoved : Operation → Effect → Type 0
TouchesMoved operation (Touch kind va first size reg) = IsAccess operation kind va first size
TouchesMoved operation _ = Unit {0}

-- an access has 1 to 8 bytes, and where its address is aligned they lie in one aligned doubleword
pub record IsSmall (operation : Operation) (va first size : ℕ) : Type 0 where
  pub some : 1 ≤ size
  pub most : size ≤ 8
  pub inside : is_aligned operation va ≡ true → first % 8 + size ≤ 8

abbrev pub TouchesFew : Operation → Effect → Type 0
TouchesFew operation (Touch kind va first size reg) = IsSmall operation va first size
TouchesFew operation _ = Unit {0}

-- whether an access is aligned as its operation wants is seen from its bytes
abbrev pub AlignsByBytes : Operation → Effect → Type 0
AlignsByBytes operation (Touch kind va first size reg) = is_aligned operation va ≡ begins_aligned first size
AlignsByBytes operation _ = Unit {0}
