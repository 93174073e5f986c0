-- The table: the 129 integer instructions of MIPS III.
-- Source: MIPS R4000 Microprocessor User's Manual, 2nd edition (Heinrich), appendix A: figure A-2, "R4000 Opcode Bit
-- Encoding", and the page of each instruction. Coprocessors 1 and 2 have their opcodes alone, as neither is there.
use Rattle.std.specs.Prelude.{◌+◌, ◌*◌, ◌^◌, ◌++◌, ℕ, Bool, true, false, List, [], ◌∷◌, codes, slice_index_or}
use Rattle.mips3_table.specs.declared.classes.Class.{Class}
use Rattle.mips3_table.specs.declared.classes.Class.TheVariants.{Opcode, Special, Regimm, Cop0Move, Cop0Function}
use Rattle.mips3_table.specs.declared.operand_forms.Form.{Form}
use Rattle.mips3_table.specs.declared.operand_forms.Form.TheVariants.{Target, CompareBranch, ZeroBranch, SignedImmediate, UnsignedImmediate, UpperImmediate, Memory, CacheOperation, CoprocessorNumber, CoprocessorMemory, Shift, ShiftByRegister, Source, JumpAndLinkRegister, Code, NoOperands, Destination, TwoSources, ThreeRegisters, TrapRegisters, TrapImmediate, Cp0Move}
use Rattle.mips3_table.specs.declared.operations.Operation.{Operation}
use Rattle.mips3_table.specs.declared.operations.Operation.TheVariants.{Jump, Branch, Add, Subtract, And, Or, ExclusiveOr, NotOr, SetWhere, LoadUpper, ShiftLeft, ShiftRightLogical, ShiftRightArithmetic, Multiply, Divide, MoveFromHi, MoveFromLo, MoveToHi, MoveToLo, TrapWhere, SystemCall, Breakpoint, Synchronize, Load, LoadLeft, LoadRight, LoadLinked, Store, StoreLeft, StoreRight, StoreConditional, OperateCache, UseCoprocessor, MoveFromCp0, MoveToCp0, ReadTlb, WriteIndexedTlb, WriteRandomTlb, ProbeTlb, ReturnFromException}
use Rattle.mips3_table.specs.declared.operations.Width.TheVariants.{Word, Double}
use Rattle.mips3_table.specs.declared.operations.Overflow.TheVariants.{Traps, Wraps}
use Rattle.mips3_table.specs.declared.operations.Comparison.TheVariants.{Equal, NotEqual, Less, LessUnsigned, GreaterOrEqual, GreaterOrEqualUnsigned, LessOrEqual, Greater}
use Rattle.mips3_table.specs.declared.operations.DelaySlot.TheVariants.{AlwaysExecuted, NullifiedUnlessTaken}
use Rattle.mips3_table.specs.declared.operations.Link.TheVariants.{Unlinked, IntoRegister31, IntoDestination}
use Rattle.mips3_table.specs.declared.operations.Amount.TheVariants.{InField, InFieldPlus32, InRegister}
use Rattle.mips3_table.specs.declared.operations.Signedness.TheVariants.{Signed, Unsigned}
use Rattle.mips3_table.specs.declared.operations.Size.TheVariants.{Byte, Half, Wide}
use Rattle.mips3_table.specs.declared.operations.Coprocessor.TheVariants.{One, Two}

-- A row: its name (the codes of its text), its class, the bits of a word that tell it, what stands in them, the form of
-- its operands, what it does with them, and whether it is one of the 64-bit rows (a user or supervisor program has them
-- only in 64-bit mode).
pub record Row : Type 0 where
  pub name : List ℕ
  pub class : Class
  pub mask : ℕ
  pub match : ℕ
  pub form : Form
  pub operation : Operation
  pub is_64_bit : Bool

-- What an operation does is said where it is declared, in src/operations.rt: rows that differ in their operands alone have
-- the same.

-- the bits that tell the rows of a class
abbrev pub mask_of : Class → ℕ
mask_of Opcode = 0xfc000000
mask_of Special = 0xfc00003f
mask_of Regimm = 0xfc1f0000
mask_of Cop0Move = 0xffe00000
mask_of Cop0Function = 0xfe00003f

-- what stands in them, by the row's number in the class
abbrev pub match_of : Class → ℕ → ℕ
match_of Opcode number = number * 2 ^ 26
match_of Special number = number
match_of Regimm number = 1 * 2 ^ 26 + number * 2 ^ 16
match_of Cop0Move number = 16 * 2 ^ 26 + number * 2 ^ 21
match_of Cop0Function number = 16 * 2 ^ 26 + 2 ^ 25 + number

abbrev pub row : Class → ℕ → List ℕ → Form → Operation → Row
row class number name form operation = record {
  name = name;
  class = class;
  mask = mask_of class;
  match = match_of class number;
  form = form;
  operation = operation;
  is_64_bit = false;
}

abbrev pub row_64 : Class → ℕ → List ℕ → Form → Operation → Row
row_64 class number name form operation = record {
  name = name;
  class = class;
  mask = mask_of class;
  match = match_of class number;
  form = form;
  operation = operation;
  is_64_bit = true;
}

-- by opcode, bits 31:26; their places in the table are 0 to 53
abbrev pub opcode_rows : List Row
opcode_rows =
    -- jumps
    row Opcode 2 (codes "j") Target (Jump Unlinked) ∷
    row Opcode 3 (codes "jal") Target (Jump IntoRegister31) ∷
    -- branches
    row Opcode 4 (codes "beq") CompareBranch (Branch Equal AlwaysExecuted Unlinked) ∷
    row Opcode 5 (codes "bne") CompareBranch (Branch NotEqual AlwaysExecuted Unlinked) ∷
    row Opcode 20 (codes "beql") CompareBranch (Branch Equal NullifiedUnlessTaken Unlinked) ∷
    row Opcode 21 (codes "bnel") CompareBranch (Branch NotEqual NullifiedUnlessTaken Unlinked) ∷
    row Opcode 6 (codes "blez") ZeroBranch (Branch LessOrEqual AlwaysExecuted Unlinked) ∷
    row Opcode 7 (codes "bgtz") ZeroBranch (Branch Greater AlwaysExecuted Unlinked) ∷
    row Opcode 22 (codes "blezl") ZeroBranch (Branch LessOrEqual NullifiedUnlessTaken Unlinked) ∷
    row Opcode 23 (codes "bgtzl") ZeroBranch (Branch Greater NullifiedUnlessTaken Unlinked) ∷
    -- immediates
    row Opcode 8 (codes "addi") SignedImmediate (Add Word Traps) ∷
    row Opcode 9 (codes "addiu") SignedImmediate (Add Word Wraps) ∷
    row Opcode 10 (codes "slti") SignedImmediate (SetWhere Less) ∷
    row Opcode 11 (codes "sltiu") SignedImmediate (SetWhere LessUnsigned) ∷
    row_64 Opcode 24 (codes "daddi") SignedImmediate (Add Double Traps) ∷
    row_64 Opcode 25 (codes "daddiu") SignedImmediate (Add Double Wraps) ∷
    row Opcode 12 (codes "andi") UnsignedImmediate And ∷
    row Opcode 13 (codes "ori") UnsignedImmediate Or ∷
    row Opcode 14 (codes "xori") UnsignedImmediate ExclusiveOr ∷
    row Opcode 15 (codes "lui") UpperImmediate LoadUpper ∷
    -- loads
    row_64 Opcode 26 (codes "ldl") Memory (LoadLeft Double) ∷
    row_64 Opcode 27 (codes "ldr") Memory (LoadRight Double) ∷
    row Opcode 32 (codes "lb") Memory (Load Byte Signed) ∷
    row Opcode 33 (codes "lh") Memory (Load Half Signed) ∷
    row Opcode 34 (codes "lwl") Memory (LoadLeft Word) ∷
    row Opcode 35 (codes "lw") Memory (Load (Wide Word) Signed) ∷
    row Opcode 36 (codes "lbu") Memory (Load Byte Unsigned) ∷
    row Opcode 37 (codes "lhu") Memory (Load Half Unsigned) ∷
    row Opcode 38 (codes "lwr") Memory (LoadRight Word) ∷
    row_64 Opcode 39 (codes "lwu") Memory (Load (Wide Word) Unsigned) ∷
    row Opcode 48 (codes "ll") Memory (LoadLinked Word) ∷
    row_64 Opcode 52 (codes "lld") Memory (LoadLinked Double) ∷
    row_64 Opcode 55 (codes "ld") Memory (Load (Wide Double) Signed) ∷
    -- stores
    row Opcode 40 (codes "sb") Memory (Store Byte) ∷
    row Opcode 41 (codes "sh") Memory (Store Half) ∷
    row Opcode 42 (codes "swl") Memory (StoreLeft Word) ∷
    row Opcode 43 (codes "sw") Memory (Store (Wide Word)) ∷
    row_64 Opcode 44 (codes "sdl") Memory (StoreLeft Double) ∷
    row_64 Opcode 45 (codes "sdr") Memory (StoreRight Double) ∷
    row Opcode 46 (codes "swr") Memory (StoreRight Word) ∷
    row Opcode 56 (codes "sc") Memory (StoreConditional Word) ∷
    row_64 Opcode 60 (codes "scd") Memory (StoreConditional Double) ∷
    row_64 Opcode 63 (codes "sd") Memory (Store (Wide Double)) ∷
    -- the cache operation
    row Opcode 47 (codes "cache") CacheOperation OperateCache ∷
    -- coprocessors 1 and 2: their operations, loads and stores
    row Opcode 17 (codes "cop1") CoprocessorNumber (UseCoprocessor One) ∷
    row Opcode 18 (codes "cop2") CoprocessorNumber (UseCoprocessor Two) ∷
    row Opcode 49 (codes "lwc1") CoprocessorMemory (UseCoprocessor One) ∷
    row Opcode 50 (codes "lwc2") CoprocessorMemory (UseCoprocessor Two) ∷
    row Opcode 53 (codes "ldc1") CoprocessorMemory (UseCoprocessor One) ∷
    row Opcode 54 (codes "ldc2") CoprocessorMemory (UseCoprocessor Two) ∷
    row Opcode 57 (codes "swc1") CoprocessorMemory (UseCoprocessor One) ∷
    row Opcode 58 (codes "swc2") CoprocessorMemory (UseCoprocessor Two) ∷
    row Opcode 61 (codes "sdc1") CoprocessorMemory (UseCoprocessor One) ∷
    row Opcode 62 (codes "sdc2") CoprocessorMemory (UseCoprocessor Two) ∷
    []

-- opcode 0 (SPECIAL), by function, bits 5:0; places 54 to 105
abbrev pub special_rows : List Row
special_rows =
    -- shifts
    row Special 0 (codes "sll") Shift (ShiftLeft Word InField) ∷
    row Special 2 (codes "srl") Shift (ShiftRightLogical Word InField) ∷
    row Special 3 (codes "sra") Shift (ShiftRightArithmetic Word InField) ∷
    row_64 Special 56 (codes "dsll") Shift (ShiftLeft Double InField) ∷
    row_64 Special 58 (codes "dsrl") Shift (ShiftRightLogical Double InField) ∷
    row_64 Special 59 (codes "dsra") Shift (ShiftRightArithmetic Double InField) ∷
    row_64 Special 60 (codes "dsll32") Shift (ShiftLeft Double InFieldPlus32) ∷
    row_64 Special 62 (codes "dsrl32") Shift (ShiftRightLogical Double InFieldPlus32) ∷
    row_64 Special 63 (codes "dsra32") Shift (ShiftRightArithmetic Double InFieldPlus32) ∷
    row Special 4 (codes "sllv") ShiftByRegister (ShiftLeft Word InRegister) ∷
    row Special 6 (codes "srlv") ShiftByRegister (ShiftRightLogical Word InRegister) ∷
    row Special 7 (codes "srav") ShiftByRegister (ShiftRightArithmetic Word InRegister) ∷
    row_64 Special 20 (codes "dsllv") ShiftByRegister (ShiftLeft Double InRegister) ∷
    row_64 Special 22 (codes "dsrlv") ShiftByRegister (ShiftRightLogical Double InRegister) ∷
    row_64 Special 23 (codes "dsrav") ShiftByRegister (ShiftRightArithmetic Double InRegister) ∷
    -- jumps to a register
    row Special 8 (codes "jr") Source (Jump Unlinked) ∷
    row Special 9 (codes "jalr") JumpAndLinkRegister (Jump IntoDestination) ∷
    -- system call, breakpoint, synchronization
    row Special 12 (codes "syscall") Code SystemCall ∷
    row Special 13 (codes "break") Code Breakpoint ∷
    row Special 15 (codes "sync") NoOperands Synchronize ∷
    -- HI and LO, products and quotients
    row Special 16 (codes "mfhi") Destination MoveFromHi ∷
    row Special 18 (codes "mflo") Destination MoveFromLo ∷
    row Special 17 (codes "mthi") Source MoveToHi ∷
    row Special 19 (codes "mtlo") Source MoveToLo ∷
    row Special 24 (codes "mult") TwoSources (Multiply Word Signed) ∷
    row Special 25 (codes "multu") TwoSources (Multiply Word Unsigned) ∷
    row Special 26 (codes "div") TwoSources (Divide Word Signed) ∷
    row Special 27 (codes "divu") TwoSources (Divide Word Unsigned) ∷
    row_64 Special 28 (codes "dmult") TwoSources (Multiply Double Signed) ∷
    row_64 Special 29 (codes "dmultu") TwoSources (Multiply Double Unsigned) ∷
    row_64 Special 30 (codes "ddiv") TwoSources (Divide Double Signed) ∷
    row_64 Special 31 (codes "ddivu") TwoSources (Divide Double Unsigned) ∷
    -- sums, logic, comparisons
    row Special 32 (codes "add") ThreeRegisters (Add Word Traps) ∷
    row Special 33 (codes "addu") ThreeRegisters (Add Word Wraps) ∷
    row Special 34 (codes "sub") ThreeRegisters (Subtract Word Traps) ∷
    row Special 35 (codes "subu") ThreeRegisters (Subtract Word Wraps) ∷
    row Special 36 (codes "and") ThreeRegisters And ∷
    row Special 37 (codes "or") ThreeRegisters Or ∷
    row Special 38 (codes "xor") ThreeRegisters ExclusiveOr ∷
    row Special 39 (codes "nor") ThreeRegisters NotOr ∷
    row Special 42 (codes "slt") ThreeRegisters (SetWhere Less) ∷
    row Special 43 (codes "sltu") ThreeRegisters (SetWhere LessUnsigned) ∷
    row_64 Special 44 (codes "dadd") ThreeRegisters (Add Double Traps) ∷
    row_64 Special 45 (codes "daddu") ThreeRegisters (Add Double Wraps) ∷
    row_64 Special 46 (codes "dsub") ThreeRegisters (Subtract Double Traps) ∷
    row_64 Special 47 (codes "dsubu") ThreeRegisters (Subtract Double Wraps) ∷
    -- traps on registers
    row Special 48 (codes "tge") TrapRegisters (TrapWhere GreaterOrEqual) ∷
    row Special 49 (codes "tgeu") TrapRegisters (TrapWhere GreaterOrEqualUnsigned) ∷
    row Special 50 (codes "tlt") TrapRegisters (TrapWhere Less) ∷
    row Special 51 (codes "tltu") TrapRegisters (TrapWhere LessUnsigned) ∷
    row Special 52 (codes "teq") TrapRegisters (TrapWhere Equal) ∷
    row Special 54 (codes "tne") TrapRegisters (TrapWhere NotEqual) ∷
    []

-- opcode 1 (REGIMM), by bits 20:16; places 106 to 119
abbrev pub regimm_rows : List Row
regimm_rows =
    -- branches
    row Regimm 0 (codes "bltz") ZeroBranch (Branch Less AlwaysExecuted Unlinked) ∷
    row Regimm 1 (codes "bgez") ZeroBranch (Branch GreaterOrEqual AlwaysExecuted Unlinked) ∷
    row Regimm 2 (codes "bltzl") ZeroBranch (Branch Less NullifiedUnlessTaken Unlinked) ∷
    row Regimm 3 (codes "bgezl") ZeroBranch (Branch GreaterOrEqual NullifiedUnlessTaken Unlinked) ∷
    row Regimm 16 (codes "bltzal") ZeroBranch (Branch Less AlwaysExecuted IntoRegister31) ∷
    row Regimm 17 (codes "bgezal") ZeroBranch (Branch GreaterOrEqual AlwaysExecuted IntoRegister31) ∷
    row Regimm 18 (codes "bltzall") ZeroBranch (Branch Less NullifiedUnlessTaken IntoRegister31) ∷
    row Regimm 19 (codes "bgezall") ZeroBranch (Branch GreaterOrEqual NullifiedUnlessTaken IntoRegister31) ∷
    -- traps on an immediate
    row Regimm 8 (codes "tgei") TrapImmediate (TrapWhere GreaterOrEqual) ∷
    row Regimm 9 (codes "tgeiu") TrapImmediate (TrapWhere GreaterOrEqualUnsigned) ∷
    row Regimm 10 (codes "tlti") TrapImmediate (TrapWhere Less) ∷
    row Regimm 11 (codes "tltiu") TrapImmediate (TrapWhere LessUnsigned) ∷
    row Regimm 12 (codes "teqi") TrapImmediate (TrapWhere Equal) ∷
    row Regimm 14 (codes "tnei") TrapImmediate (TrapWhere NotEqual) ∷
    []

-- opcode 16 (COP0), by bits 25:21; places 120 to 123
abbrev pub cop0_move_rows : List Row
cop0_move_rows =
    row Cop0Move 0 (codes "mfc0") Cp0Move (MoveFromCp0 Word) ∷
    row_64 Cop0Move 1 (codes "dmfc0") Cp0Move (MoveFromCp0 Double) ∷
    row Cop0Move 4 (codes "mtc0") Cp0Move (MoveToCp0 Word) ∷
    row_64 Cop0Move 5 (codes "dmtc0") Cp0Move (MoveToCp0 Double) ∷
    []

-- opcode 16 (COP0) with bit 25 set, by function, bits 5:0; places 124 to 128
abbrev pub cop0_function_rows : List Row
cop0_function_rows =
    row Cop0Function 1 (codes "tlbr") NoOperands ReadTlb ∷
    row Cop0Function 2 (codes "tlbwi") NoOperands WriteIndexedTlb ∷
    row Cop0Function 6 (codes "tlbwr") NoOperands WriteRandomTlb ∷
    row Cop0Function 8 (codes "tlbp") NoOperands ProbeTlb ∷
    row Cop0Function 24 (codes "eret") NoOperands ReturnFromException ∷
    []

-- the table: a row's number is its place in it, from 0 to 128
unfoldable pub rows : List Row
rows = opcode_rows ++ (special_rows ++ (regimm_rows ++ (cop0_move_rows ++ cop0_function_rows)))

-- no word matches this: it stands for the row of a number above 128
abbrev pub no_row : Row
no_row = record { name = []; class = Opcode; mask = 0; match = 1; form = NoOperands; operation = Synchronize; is_64_bit = false }

-- the row of a number
unfoldable pub row_at : ℕ → Row
row_at number = slice_index_or rows number no_row
