-- The words of the instructions that the program has, each written as in the assembler's text: a name of the instruction table, and
-- operands in the same order.
-- Source: MIPS R4000 Microprocessor User's Manual, 2nd edition (Heinrich), appendix A, the page of each instruction, and chapter 4, "CP0
-- Registers", for the numbers of those registers; System V ABI, MIPS supplement, "Registers", for those of the general registers.
use Rattle.std.specs.Prelude.{ℕ, List, codes, bytes_eq}
use Rattle.std.specs.List.{position_or_len}
use Rattle.mips3_table.specs.declared.instruction.Inst.{Inst}
use Rattle.mips3_table.specs.Rows.{rows}
use Rattle.mips3_code.specs.Coding.{encoded}

-- THE REGISTERS

abbrev pub t0 : ℕ
t0 = 8

abbrev pub s0 : ℕ
s0 = 16

abbrev pub s2 : ℕ
s2 = 18

abbrev pub t9 : ℕ
t9 = 25

abbrev pub EntryLo0 : ℕ
EntryLo0 = 2

abbrev pub EntryLo1 : ℕ
EntryLo1 = 3

abbrev pub EntryHi : ℕ
EntryHi = 10

-- THE INSTRUCTIONS

-- the number of the row that has a name
unfoldable pub row_number : List ℕ → ℕ
row_number name = position_or_len (λ row. bytes_eq name row.name) rows

-- an instruction of a row with every field 0
abbrev pub bare : ℕ → Inst
bare row = record { row = row; rs = 0; rt = 0; rd = 0; sa = 0; imm = 0 }

-- the word of the instruction of a name with these fields: rs, rt, rd and the number
unfoldable pub word_of : List ℕ → ℕ → ℕ → ℕ → ℕ → ℕ
word_of name rs rt rd number =
    encoded (record { row = row_number name; rs = rs; rt = rt; rd = rd; sa = 0; imm = number })

-- lui rt,number
abbrev pub lui : ℕ → ℕ → ℕ
lui rt number = word_of (codes "lui") 0 rt 0 number

-- ori rt,rs,number
abbrev pub ori : ℕ → ℕ → ℕ → ℕ
ori rt rs number = word_of (codes "ori") rs rt 0 number

-- addiu rt,rs,number
abbrev pub addiu : ℕ → ℕ → ℕ → ℕ
addiu rt rs number = word_of (codes "addiu") rs rt 0 number

-- lw rt,offset(base)
abbrev pub lw : ℕ → ℕ → ℕ → ℕ
lw rt offset base = word_of (codes "lw") base rt 0 offset

-- sw rt,offset(base)
abbrev pub sw : ℕ → ℕ → ℕ → ℕ
sw rt offset base = word_of (codes "sw") base rt 0 offset

-- cache code,offset(base): the code stands in rt's place
abbrev pub cache : ℕ → ℕ → ℕ → ℕ
cache code offset base = word_of (codes "cache") base code 0 offset

-- addu rd,rs,rt
abbrev pub addu : ℕ → ℕ → ℕ → ℕ
addu rd rs rt = word_of (codes "addu") rs rt rd 0

-- mtc0 rt,register: the register of coprocessor 0 stands in rd's place
abbrev pub mtc0 : ℕ → ℕ → ℕ
mtc0 rt register = word_of (codes "mtc0") 0 rt register 0

-- tlbwi
abbrev pub tlbwi : ℕ
tlbwi = word_of (codes "tlbwi") 0 0 0 0

-- nop, which is sll zero,zero,0
abbrev pub nop : ℕ
nop = word_of (codes "sll") 0 0 0 0
