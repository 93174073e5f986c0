-- The operands of each form, the tokens that stand for them, and the statements of a source with theirs.
-- Source: MIPS R4000 Microprocessor User's Manual, 2nd edition (Heinrich), appendix A, the format line of each instruction;
-- the further statements and the directives are a part of those of the MIPS assembler.
use Rattle.std.specs.Prelude.{ℕ, ℤ, pos, negsuc, int_le, ◌-◌, ◌^◌, ◌==◌, Bool, true, false, ◌&&◌, if◌then◌else◌, List, [], ◌∷◌, ◌++◌, slice_range, slice_index, is_some, is_none, Option, Some, None, codes, bytes_eq, option_map}
use Rattle.mips3_table.specs.declared.operand_forms.Form.{Form}
use Rattle.mips3_table.specs.declared.operand_forms.Form.TheVariants.{Target, CompareBranch, ZeroBranch, SignedImmediate, UnsignedImmediate, UpperImmediate, Memory, CacheOperation, CoprocessorNumber, CoprocessorMemory, Shift, ShiftByRegister, Source, JumpAndLinkRegister, Code, NoOperands, Destination, TwoSources, ThreeRegisters, TrapRegisters, TrapImmediate, Cp0Move}
use Rattle.mips3_table.specs.Rows.{row_at}
use Rattle.mips3_table.specs.Matching.{row_named}
use Rattle.r4_words.specs.Ascii.{left_parenthesis, right_parenthesis, comma}
use Rattle.mips_text.specs.declared.token.Token.{Token}
use Rattle.mips_text.specs.declared.token.TokenKind.{TokenKind}
use Rattle.mips_text.specs.declared.token.TokenKind.TheVariants.{Name, Number, Text, Mark}
use Rattle.mips_text.specs.Names.{register_of, cp0_register_of}
use Rattle.mips_text.specs.Values.{number_of, bytes_of_text}
use Rattle.mips_text.specs.declared.operand.Field.TheVariants.{Rs, Rt, Rd, Sa, Imm}
use Rattle.mips_text.specs.declared.operand.Operand.{Operand}
use Rattle.mips_text.specs.declared.operand.Operand.TheVariants.{Register, Cp0Register, Decimal, Hexadecimal, Signed, Based, BranchTarget, JumpTarget}
use Rattle.mips_text.specs.declared.operand.Range.{Range}
use Rattle.mips_text.specs.declared.operand.Range.TheVariants.{Unsigned, WithSign, EitherSign}
use Rattle.mips_text.specs.declared.operand.Expected.{Expected}
use Rattle.mips_text.specs.declared.operand.Expected.TheVariants.{ARegister, ACp0Register, ANumber, AnAlignment, ATarget, ALabel, AText, AMark}
use Rattle.mips_text.specs.declared.statement.Statement.{Statement}
use Rattle.mips_text.specs.declared.statement.Statement.TheVariants.{Instruction, Li, La, Move, Nop, Branch, Org, Word, Byte, Space, Align, Ascii}

-- The operands of each form, in the order of the text.
abbrev pub operands_of : Form → List Operand
operands_of Target = JumpTarget ∷ []
operands_of CompareBranch = Register Rs ∷ Register Rt ∷ BranchTarget ∷ []
operands_of ZeroBranch = Register Rs ∷ BranchTarget ∷ []
operands_of SignedImmediate = Register Rt ∷ Register Rs ∷ Signed ∷ []
operands_of UnsignedImmediate = Register Rt ∷ Register Rs ∷ Hexadecimal Imm 16 ∷ []
operands_of UpperImmediate = Register Rt ∷ Hexadecimal Imm 16 ∷ []
operands_of Memory = Register Rt ∷ Based ∷ []
operands_of CacheOperation = Hexadecimal Rt 5 ∷ Based ∷ []
operands_of CoprocessorNumber = Hexadecimal Imm 26 ∷ []
operands_of CoprocessorMemory = Decimal Rt 5 ∷ Based ∷ []
operands_of Shift = Register Rd ∷ Register Rt ∷ Decimal Sa 5 ∷ []
operands_of ShiftByRegister = Register Rd ∷ Register Rt ∷ Register Rs ∷ []
operands_of Source = Register Rs ∷ []
operands_of JumpAndLinkRegister = Register Rd ∷ Register Rs ∷ []
operands_of Code = Hexadecimal Imm 20 ∷ []
operands_of NoOperands = []
operands_of Destination = Register Rd ∷ []
operands_of TwoSources = Register Rs ∷ Register Rt ∷ []
operands_of ThreeRegisters = Register Rd ∷ Register Rs ∷ Register Rt ∷ []
operands_of TrapRegisters = Register Rs ∷ Register Rt ∷ Hexadecimal Imm 10 ∷ []
operands_of TrapImmediate = Register Rs ∷ Signed ∷ []
operands_of Cp0Move = Register Rt ∷ Cp0Register ∷ []

-- the tokens of an operand
abbrev pub expected_of : Operand → List Expected
expected_of (Register field) = ARegister field ∷ []
expected_of Cp0Register = ACp0Register Rd ∷ []
expected_of (Decimal field width) = ANumber field (Unsigned width) ∷ []
expected_of (Hexadecimal field width) = ANumber field (Unsigned width) ∷ []
expected_of Signed = ANumber Imm (WithSign 16) ∷ []
expected_of Based = ANumber Imm (WithSign 16) ∷ AMark left_parenthesis ∷ ARegister Rs ∷ AMark right_parenthesis ∷ []
expected_of BranchTarget = ATarget ∷ []
expected_of JumpTarget = ATarget ∷ []

-- the tokens of operands, with commas between them
abbrev pub separated : List Operand → List Expected
separated [] = []
separated (one ∷ []) = expected_of one
separated (one ∷ next ∷ more) = expected_of one ++ AMark comma ∷ separated (next ∷ more)

-- What follows a statement's name.
pub data Shape : Type 0 where
  -- exactly these tokens
  Tokens : List Expected → Shape
  -- one Number of this range or more, with commas between them
  Numbers : Range → Shape

-- The shape of each statement.
abbrev pub shape_of : Statement → Shape
shape_of (Instruction row) = Tokens (separated (operands_of (row_at row).form))
shape_of Li = Tokens (ARegister Rt ∷ AMark comma ∷ ANumber Imm (EitherSign 32) ∷ [])
shape_of La = Tokens (ARegister Rt ∷ AMark comma ∷ ALabel ∷ [])
shape_of Move = Tokens (ARegister Rd ∷ AMark comma ∷ ARegister Rs ∷ [])
shape_of Nop = Tokens []
shape_of Branch = Tokens (ATarget ∷ [])
shape_of Org = Tokens (ANumber Imm (Unsigned 32) ∷ [])
shape_of Word = Numbers (EitherSign 32)
shape_of Byte = Numbers (EitherSign 8)
shape_of Space = Tokens (ANumber Imm (Unsigned 32) ∷ [])
shape_of Align = Tokens (AnAlignment ∷ [])
shape_of Ascii = Tokens (AText ∷ [])

-- the directive or the instruction of a name, None where it has neither
abbrev pub directive_of : List ℕ → Option Statement
directive_of name =
    if bytes_eq name (codes ".org") then Some Org
    else if bytes_eq name (codes ".word") then Some Word
    else if bytes_eq name (codes ".byte") then Some Byte
    else if bytes_eq name (codes ".space") then Some Space
    else if bytes_eq name (codes ".align") then Some Align
    else if bytes_eq name (codes ".ascii") then Some Ascii
    else option_map Instruction (row_named name)

-- the statement of a name, None where it has none
unfoldable pub statement_named : List ℕ → Option Statement
statement_named name =
    if bytes_eq name (codes "li") then Some Li
    else if bytes_eq name (codes "la") then Some La
    else if bytes_eq name (codes "move") then Some Move
    else if bytes_eq name (codes "nop") then Some Nop
    else if bytes_eq name (codes "b") then Some Branch
    else directive_of name

-- the text of a token in its line
abbrev pub token_text : List ℕ → Token → List ℕ
token_text line token = slice_range line token.from token.to

-- a Name stands where a register is expected, and names none
abbrev pub names_no_register : Expected → TokenKind → List ℕ → Bool
names_no_register (ARegister field) Name text = is_none (register_of text)
names_no_register (ACp0Register field) Name text = is_none (cp0_register_of text)
names_no_register expected kind text = false

-- a token is of the kind that is expected; a mark is the mark, and a text has no other escapes than those that there are
abbrev pub has_kind : Expected → TokenKind → List ℕ → Bool
has_kind (ARegister field) Name text = true
has_kind (ACp0Register field) Name text = true
has_kind (ANumber field range) Number text = true
has_kind AnAlignment Number text = true
has_kind ATarget Name text = true
has_kind ATarget Number text = true
has_kind ALabel Name text = true
has_kind AText Text text = is_some (bytes_of_text text)
has_kind (AMark code) Mark text = slice_index text 0 == code
has_kind expected kind text = false

-- a number lies in a range
abbrev pub in_range : Range → ℤ → Bool
in_range (Unsigned width) n = int_le (pos 0) n && int_le n (pos (2 ^ width - 1))
in_range (WithSign width) n = int_le (negsuc (2 ^ (width - 1) - 1)) n && int_le n (pos (2 ^ (width - 1) - 1))
in_range (EitherSign width) n = int_le (negsuc (2 ^ (width - 1) - 1)) n && int_le n (pos (2 ^ width - 1))

-- how many bits the numbers of a range have
abbrev pub width_of : Range → ℕ
width_of (Unsigned width) = width
width_of (WithSign width) = width
width_of (EitherSign width) = width

-- a number as so many bits, a negative one in two's complement
abbrev pub in_bits : ℕ → ℤ → ℕ
in_bits width (pos n) = n
in_bits width (negsuc n) = 2 ^ width - 1 - n

-- the bits of a number that lies in a range
abbrev pub bits_in : Range → ℤ → Option ℕ
bits_in range n = if in_range range n then Some (in_bits (width_of range) n) else None

-- a Number lies in its range; the address of a target is one of 32 bits
abbrev pub has_range : Expected → TokenKind → List ℕ → Bool
has_range (ANumber field range) Number text = in_range range (number_of text)
has_range ATarget Number text = in_range (Unsigned 32) (number_of text)
has_range expected kind text = true
