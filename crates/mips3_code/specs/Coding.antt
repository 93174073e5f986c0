-- The instruction of a word, and the word of an instruction.
-- Source: MIPS R4000 Microprocessor User's Manual, 2nd edition (Heinrich), appendix A, "Instruction Formats".
use Rattle.std.specs.Prelude.{◌≡◌, ◌+◌, ◌-◌, ◌*◌, ◌^◌, ℕ, Option, Some, None, bit_and}
use Rattle.mips3_table.specs.declared.instruction.Inst.{Inst}
use Rattle.mips3_table.specs.declared.operand_forms.Widths.{Widths}
use Rattle.mips3_table.specs.Operands.{widths_of, bits_of, operand_bits, rs_at, rt_at, rd_at, sa_at}
use Rattle.mips3_table.specs.Rows.{Row, row_at}
use Rattle.mips3_table.specs.Matching.{row_of}
use Rattle.mips3_table.specs.Instructions.{widths_at}

-- the instruction of a word by the row of this number: what stands in the fields of the row's form
abbrev pub fields_by : Widths → ℕ → ℕ → Inst
fields_by w number word = record {
  row = number;
  rs = bits_of word rs_at w.rs;
  rt = bits_of word rt_at w.rt;
  rd = bits_of word rd_at w.rd;
  sa = bits_of word sa_at w.sa;
  imm = bits_of word w.number_at w.number;
}

abbrev pub fields_of : ℕ → ℕ → Inst
fields_of word number = fields_by (widths_at number) number word

-- the instruction of a row, where there is a row
abbrev pub with_fields : ℕ → Option ℕ → Option Inst
with_fields word (Some number) = Some (fields_of word number)
with_fields word None = None

-- the instruction of a word
unfoldable pub decoded : ℕ → Option Inst
decoded word = with_fields word (row_of word)

-- the fields of an instruction, each at its place
abbrev pub placed_by : Widths → Inst → ℕ
placed_by w inst = inst.rs * 2 ^ rs_at + inst.rt * 2 ^ rt_at + inst.rd * 2 ^ rd_at + inst.sa * 2 ^ sa_at + inst.imm * 2 ^ w.number_at

-- the word of an instruction: the row's own bits, and the fields
unfoldable pub encoded : Inst → ℕ
encoded inst = (row_at inst.row).match + placed_by (widths_at inst.row) inst

-- the bits of a word that are neither the row's own nor operands
abbrev pub unused_bits : Row → ℕ
unused_bits row = 2 ^ 32 - 1 - row.mask - operand_bits (widths_of row.form)

-- the unused bits of a word are zero, by its row
abbrev pub HasNoUnused : ℕ → ℕ → Type 0
HasNoUnused word number = bit_and word (unused_bits (row_at number)) ≡ 0
