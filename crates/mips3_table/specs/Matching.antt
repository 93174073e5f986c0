-- Which row a word has.
-- Source: MIPS R4000 Microprocessor User's Manual, 2nd edition (Heinrich), appendix A, figure A-2; a word that no row
-- matches is reserved.
use Rattle.std.specs.Prelude.{◌≡◌, ◌==◌, ◌<◌, ◌+◌, ℕ, Bool, List, [], ◌∷◌, Option, Some, None, bit_and, bytes_eq, position, if◌then◌else◌}
use Rattle.mips3_table.specs.declared.classes.Class.{Class}
use Rattle.mips3_table.specs.declared.classes.Class.TheVariants.{Opcode, Special, Regimm, Cop0Move, Cop0Function}
use Rattle.mips3_table.specs.declared.table.RowRecord.{RowRecord}
use Rattle.mips3_table.specs.Operands.{bits_of}
use Rattle.mips3_table.specs.Rows.{Row, rows, row_at, opcode_rows, special_rows, regimm_rows, cop0_move_rows, cop0_function_rows}

-- a word matches a row: what stands in the row's bits is the row's
abbrev pub matches : ℕ → Row → Bool
matches word row = bit_and word row.mask == row.match

-- the row of this number is in the table, and the word matches it
pub record IsRowOf (word number : ℕ) : Type 0 where
  pub is_row : number < 129
  pub is_match : bit_and word (row_at number).mask ≡ (row_at number).match

-- the number of the first of these rows that the word matches, where the first of them has the number first
abbrev pub match_from : ℕ → ℕ → List Row → Option ℕ
match_from word first [] = None
match_from word first (row ∷ rest) = if matches word row then Some first else match_from word (first + 1) rest

-- the row of a word
unfoldable pub row_of : ℕ → Option ℕ
row_of word = match_from word 0 rows

-- the class of the words with this opcode and this bit 25
abbrev pub class_by : ℕ → ℕ → Class
class_by opcode bit_25 =
    if opcode == 0 then Special else
    if opcode == 1 then Regimm else
    if opcode == 16 then (if bit_25 == 0 then Cop0Move else Cop0Function) else
    Opcode

-- the class in which a word has its row, if it has one
unfoldable pub class_of : ℕ → Class
class_of word = class_by (bits_of word 26 6) (bits_of word 25 1)

-- the row that a word has among those of a class
unfoldable pub match_in : Class → ℕ → Option ℕ
match_in Opcode word = match_from word 0 opcode_rows
match_in Special word = match_from word 54 special_rows
match_in Regimm word = match_from word 106 regimm_rows
match_in Cop0Move word = match_from word 120 cop0_move_rows
match_in Cop0Function word = match_from word 124 cop0_function_rows

-- at most one row matches a word
abbrev pub AtMostOneRow : Type 0
AtMostOneRow = (word one other : ℕ) → IsRowOf word one → IsRowOf word other → one ≡ other

-- a record has what the table says of a row
pub record Describes (row : Row) (shown : RowRecord) : Type 0 where
  pub name : shown.name.now ≡ row.name
  pub form : shown.form ≡ row.form
  pub operation : shown.operation ≡ row.operation
  pub is_64_bit : shown.is_64_bit ≡ row.is_64_bit

-- the row of a name: the first that has it
unfoldable pub row_named : List ℕ → Option ℕ
row_named name = position (λ row. bytes_eq name row.name) rows

-- the row of this number is in the table, and has this name
pub record IsNamed (name : List ℕ) (number : ℕ) : Type 0 where
  pub is_row : number < 129
  pub has_name : (row_at number).name ≡ name

-- no two rows have the same name
abbrev pub NamesDiffer : Type 0
NamesDiffer = (one other : ℕ) → one < 129 → other < 129 → (row_at one).name ≡ (row_at other).name → one ≡ other
