-- One line of a source: `LABEL: STATEMENT # comment`, each part optional, read to what it says or to the first reason
-- for which it says nothing.
-- Source: the assembler language of this project, whose statements are the instruction formats of the MIPS R4000
-- Microprocessor User's Manual, 2nd edition (Heinrich), appendix A, with a part of the further statements and of the
-- directives of the MIPS assembler.
use Rattle.std.specs.Prelude.{codes, unwrap_or, ℕ, ℤ, pos, negsuc, zero, suc, ◌/◌, ◌==◌, nat_lt, nat_le, Bool, true, false, not, ◌&&◌, if◌then◌else◌, List, [], ◌∷◌, length, slice_index, slice_get, Option, Some, None, option_map, option_and_then, Result, Ok, Err}
use Rattle.std.specs.List.{list_all, list_any, zip}
use Rattle.mips3_table.specs.declared.instruction.Inst.{Inst}
use Rattle.mips3_table.specs.Rows.{row_at}
use Rattle.mips3_table.specs.Matching.{row_named}
use Rattle.r4_words.specs.Ascii.{comma, colon}
use Rattle.mips_text.specs.declared.reason.AsmWhy.{AsmWhy}
use Rattle.mips_text.specs.declared.reason.AsmWhy.TheVariants as why
use Rattle.mips_text.specs.declared.token.Token.{Token}
use Rattle.mips_text.specs.declared.token.TokenKind.{TokenKind}
use Rattle.mips_text.specs.declared.token.TokenKind.TheVariants.{Name, Number, Mark}
use Rattle.mips_text.specs.Tokens.{tokens_of}
use Rattle.mips_text.specs.Names.{register_of, cp0_register_of}
use Rattle.mips_text.specs.Values.{number_of, bytes_of_text}
use Rattle.mips_text.specs.declared.item.Target.{Target}
use Rattle.mips_text.specs.declared.item.Target.TheVariants.{Address, Label}
use Rattle.mips_text.specs.declared.item.Item.{Item}
use Rattle.mips_text.specs.declared.item.Item.TheVariants.{Plain, BranchTo, JumpTo, LoadNumber, LoadLabel, Words, Bytes, Zeros, Origin, Aligned}
use Rattle.mips_text.specs.declared.item.Line.{Line}
use Rattle.mips_text.specs.declared.operand.Field.{Field}
use Rattle.mips_text.specs.declared.operand.Field.TheVariants.{Rs, Rt, Rd, Sa, Imm}
use Rattle.mips_text.specs.declared.operand.Range.{Range}
use Rattle.mips_text.specs.declared.operand.Range.TheVariants.{Unsigned, EitherSign}
use Rattle.mips_text.specs.declared.operand.Expected.{Expected}
use Rattle.mips_text.specs.declared.operand.Expected.TheVariants.{ARegister, ACp0Register, ANumber, ATarget, AMark}
use Rattle.mips_text.specs.declared.statement.Statement.{Statement}
use Rattle.mips_text.specs.declared.statement.Statement.TheVariants.{Instruction, Li, La, Move, Nop, Branch, Org, Word, Byte, Space, Align, Ascii}
use Rattle.mips_text.specs.declared.operand.Operand.{Operand}
use Rattle.mips_text.specs.declared.operand.Operand.TheVariants.{BranchTarget, JumpTarget}
use Rattle.mips_text.specs.Forms.{Shape, Tokens, Numbers, operands_of, separated, shape_of, statement_named, token_text, names_no_register, has_kind, has_range, bits_in}

-- a line as it is read: what it says, or the first reason for which it says nothing
abbrev pub Reading : Type 0
Reading = Result Line AsmWhy

-- THE OPERANDS

-- a number, and so many further ones with commas before them
abbrev pub numbers_expected : ℕ → Range → List Expected
numbers_expected zero range = ANumber Imm range ∷ []
numbers_expected (suc more) range = ANumber Imm range ∷ AMark comma ∷ numbers_expected more range

-- the tokens that a shape expects where so many stand; of a list of numbers one number or more
abbrev pub tokens_expected : Shape → ℕ → List Expected
tokens_expected (Tokens expected) count = expected
tokens_expected (Numbers range) count = numbers_expected (count / 2) range

-- somewhere a Name stands at a register's place and is none
abbrev pub some_unknown : List ℕ → List Expected → List Token → Bool
some_unknown line expected tokens = list_any (λ place. names_no_register place.0 place.1.kind (token_text line place.1)) (zip expected tokens)

-- there are as many tokens as are expected, each of its kind
abbrev pub all_agree : List ℕ → List Expected → List Token → Bool
all_agree line expected tokens =
    (length tokens == length expected) && list_all (λ place. has_kind place.0 place.1.kind (token_text line place.1)) (zip expected tokens)

-- each number lies in its range
abbrev pub all_in_range : List ℕ → List Expected → List Token → Bool
all_in_range line expected tokens = list_all (λ place. has_range place.0 place.1.kind (token_text line place.1)) (zip expected tokens)

-- the first reason for which these tokens are not the operands of a shape
unfoldable pub operands_fault : List ℕ → Shape → List Token → Option AsmWhy
operands_fault line shape tokens =
    if some_unknown line (tokens_expected shape (length tokens)) tokens then Some why.Unknown
    else if not (all_agree line (tokens_expected shape (length tokens)) tokens) then Some why.Operand
    else if not (all_in_range line (tokens_expected shape (length tokens)) tokens) then Some why.Range
    else None

-- WHAT THE OPERANDS STAND FOR
-- Each is None where the tokens are not those that are expected.

-- an instruction with another value in a field
abbrev pub with_field : Field → Inst → ℕ → Inst
with_field Rs inst value = record inst { rs = value }
with_field Rt inst value = record inst { rt = value }
with_field Rd inst value = record inst { rd = value }
with_field Sa inst value = record inst { sa = value }
with_field Imm inst value = record inst { imm = value }

-- an instruction with the field that a token's text gives. A target, a label, a text and a mark give none.
abbrev pub with_operand : Expected → List ℕ → Inst → Option Inst
with_operand (ARegister field) text inst = option_map (with_field field inst) (register_of text)
with_operand (ACp0Register field) text inst = option_map (with_field field inst) (cp0_register_of text)
with_operand (ANumber field range) text inst = option_map (with_field field inst) (bits_in range (number_of text))
with_operand expected text inst = Some inst

-- an instruction with the fields that the tokens give, one after another
abbrev pub with_operands : List ℕ → List Expected → List Token → Inst → Option Inst
with_operands line [] tokens inst = Some inst
with_operands line (one ∷ expected) [] inst = None
with_operands line (one ∷ expected) (token ∷ tokens) inst =
    option_and_then (with_operands line expected tokens) (with_operand one (token_text line token) inst)

-- the instruction of a row with every field 0
abbrev pub bare : ℕ → Inst
bare row = record { row = row; rs = 0; rt = 0; rd = 0; sa = 0; imm = 0 }

-- the row of a name that the table has; a name that it has not has the number of no row
abbrev pub row_called : List ℕ → ℕ
row_called name = unwrap_or (row_named name) 129

-- the rows that the further statements stand for
unfoldable pub beq_row : ℕ
beq_row = row_called (codes "beq")

unfoldable pub ori_row : ℕ
ori_row = row_called (codes "ori")

unfoldable pub lui_row : ℕ
lui_row = row_called (codes "lui")

unfoldable pub or_row : ℕ
or_row = row_called (codes "or")

-- the instruction of a row with the operands of a statement
abbrev pub inst_of : List ℕ → ℕ → Statement → List Token → Option Inst
inst_of line row statement tokens =
    with_operands line (tokens_expected (shape_of statement) (length tokens)) tokens (bare row)

-- the text of the token at an index
abbrev pub text_at : List ℕ → List Token → ℕ → Option (List ℕ)
text_at line tokens at = option_map (token_text line) (slice_get tokens at)

-- the register that the token at an index names
abbrev pub register_at : List ℕ → List Token → ℕ → Option ℕ
register_at line tokens at = option_and_then register_of (text_at line tokens at)

-- the number of a range that the token at an index is, as bits
abbrev pub number_at : Range → List ℕ → List Token → ℕ → Option ℕ
number_at range line tokens at = option_and_then (λ text. bits_in range (number_of text)) (text_at line tokens at)

-- the target that a token stands for: a Name is a label, a Number an address
abbrev pub target_of : TokenKind → List ℕ → Option Target
target_of Name text = Some (Label text)
target_of kind text = option_map Address (bits_in (Unsigned 32) (number_of text))

-- the target that a token gives where one is expected, else the one that later tokens give
abbrev pub target_or : Expected → TokenKind → List ℕ → Option Target → Option Target
target_or ATarget kind text later = target_of kind text
target_or expected kind text later = later

-- the target that tokens give, if one is expected
abbrev pub target_in : List ℕ → List Expected → List Token → Option Target
target_in line [] tokens = None
target_in line (one ∷ expected) [] = None
target_in line (one ∷ expected) (token ∷ tokens) =
    target_or one token.kind (token_text line token) (target_in line expected tokens)

-- a number before others, where all are there
abbrev pub with_number : Option ℕ → Option (List ℕ) → Option (List ℕ)
with_number (Some number) (Some numbers) = Some (number ∷ numbers)
with_number (Some number) None = None
with_number None numbers = None

-- a token's number of a range before others, where the token is a Number; a comma between them is passed over
abbrev pub with_token : Range → TokenKind → List ℕ → Option (List ℕ) → Option (List ℕ)
with_token range Number text numbers = with_number (bits_in range (number_of text)) numbers
with_token range kind text numbers = numbers

-- the numbers of a range among these tokens
abbrev pub numbers_of : Range → List ℕ → List Token → Option (List ℕ)
numbers_of range line [] = Some []
numbers_of range line (token ∷ tokens) = with_token range token.kind (token_text line token) (numbers_of range line tokens)

-- an alignment is to a power of two from 0 to 12
abbrev pub alignment_of : ℤ → Option ℕ
alignment_of (pos n) = if nat_le n 12 then Some n else None
alignment_of (negsuc n) = None

-- an instruction, which goes to the target where one of its operands is a target
abbrev pub item_by : List Operand → Inst → Option Target → Option Item
item_by [] inst target = Some (Plain inst)
item_by (BranchTarget ∷ more) inst target = option_map (BranchTo inst) target
item_by (JumpTarget ∷ more) inst target = option_map (JumpTo inst) target
item_by (one ∷ more) inst target = item_by more inst target

-- the instruction of a row with its operands
abbrev pub item_of_row : List ℕ → ℕ → List Token → Option Item
item_of_row line row tokens =
    option_and_then
    (λ inst. item_by (operands_of (row_at row).form) inst (target_in line (separated (operands_of (row_at row).form)) tokens))
    (inst_of line row (Instruction row) tokens)

-- What a statement puts, by its operands.
unfoldable pub item_of : List ℕ → Statement → List Token → Option Item
item_of line (Instruction row) tokens = item_of_row line row tokens
item_of line Li tokens =
    option_and_then (λ register. option_map (LoadNumber register) (number_at (EitherSign 32) line tokens 2))
    (register_at line tokens 0)
item_of line La tokens =
    option_and_then (λ register. option_map (LoadLabel register) (text_at line tokens 2)) (register_at line tokens 0)
item_of line Move tokens = option_map Plain (inst_of line or_row Move tokens)
item_of line Nop tokens = Some (Words (0 ∷ []))
item_of line Branch tokens = item_by (BranchTarget ∷ []) (bare beq_row) (target_in line (ATarget ∷ []) tokens)
item_of line Org tokens = option_map Origin (number_at (Unsigned 32) line tokens 0)
item_of line Word tokens = option_map Words (numbers_of (EitherSign 32) line tokens)
item_of line Byte tokens = option_map Bytes (numbers_of (EitherSign 8) line tokens)
item_of line Space tokens = option_map Zeros (number_at (Unsigned 32) line tokens 0)
item_of line Align tokens = option_map (λ text. Aligned (alignment_of (number_of text))) (text_at line tokens 0)
item_of line Ascii tokens = option_map Bytes (option_and_then bytes_of_text (text_at line tokens 0))

-- THE LINE

-- the tokens of a line, parted into the name of a label and the tokens of a statement
pub record Parts : Type 0 where
  pub label : Option (List ℕ)
  pub statement : List Token

-- a token is the mark `:`
abbrev pub is_colon : TokenKind → List ℕ → Bool
is_colon Mark text = slice_index text 0 == colon
is_colon kind text = false

-- a token is a Name
abbrev pub is_name : TokenKind → Bool
is_name Name = true
is_name kind = false

-- a Name and `:` at the head are a label
abbrev pub parts_of : List ℕ → List Token → Parts
parts_of line [] = record { label = None; statement = [] }
parts_of line (token ∷ []) = record { label = None; statement = token ∷ [] }
parts_of line (name ∷ mark ∷ tokens) =
    if is_name name.kind && is_colon mark.kind (token_text line mark)
    then record { label = Some (token_text line name); statement = tokens }
    else record { label = None; statement = name ∷ mark ∷ tokens }

-- a label has at most 64 characters
abbrev pub is_too_long : Option (List ℕ) → Bool
is_too_long (Some name) = nat_lt 64 (length name)
is_too_long None = false

-- a line that has no other fault than, maybe, too long a label
abbrev pub with_label : Option (List ℕ) → Option Item → Reading
with_label label item = if is_too_long label then Err why.Range else Ok (record { label = label; item = item })

-- a statement that puts this; one whose operands stand for nothing has wrong operands
abbrev pub with_item : Option (List ℕ) → Option Item → Reading
with_item label (Some item) = with_label label (Some item)
with_item label None = Err why.Operand

-- a statement by the fault of its operands
abbrev pub statement_by_fault : List ℕ → Option (List ℕ) → Statement → List Token → Option AsmWhy → Reading
statement_by_fault line label statement tokens (Some reason) = Err reason
statement_by_fault line label statement tokens None = with_item label (item_of line statement tokens)

-- a statement by its name
abbrev pub statement_by_name : List ℕ → Option (List ℕ) → Option Statement → List Token → Reading
statement_by_name line label None tokens = Err why.Unknown
statement_by_name line label (Some statement) tokens =
    statement_by_fault line label statement tokens (operands_fault line (shape_of statement) tokens)

-- a statement begins with its name
unfoldable pub read_statement : List ℕ → Option (List ℕ) → List Token → Reading
read_statement line label [] = with_label label None
read_statement line label (name ∷ tokens) =
    if is_name name.kind then statement_by_name line label (statement_named (token_text line name)) tokens
    else Err why.Operand

-- a line that was cut into tokens, or refused there
abbrev pub read_cut : List ℕ → Option AsmWhy → Parts → Reading
read_cut line (Some reason) parts = Err reason
read_cut line None parts = read_statement line parts.label parts.statement

-- The reading of a line, which has no newline.
unfoldable pub read_line : List ℕ → Reading
read_line line = read_cut line (tokens_of line).refusal (parts_of line (tokens_of line).tokens)
