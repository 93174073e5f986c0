-- The printed text of an instruction.
-- Source: the operand forms of the MIPS R4000 Microprocessor User's Manual, 2nd edition (Heinrich), appendix A, and of
-- its jumps and branches the target's address.
use Rattle.std.specs.Prelude.{ℕ, ◌<◌, ◌≤◌, ◌^◌, ◌==◌, if◌then◌else◌, List, [], ◌∷◌, ◌++◌, map, codes, Option, Some, None}
use Rattle.r4_words.specs.Texts.{dec_of}
use Rattle.mips3_table.specs.declared.instruction.Inst.{Inst}
use Rattle.mips3_table.specs.declared.operand_forms.Form.{Form}
use Rattle.mips3_table.specs.Rows.{row_at}
use Rattle.mips3_code.specs.Coding.{decoded, encoded}
use Rattle.mips3_code.specs.Targets.{branch_target, jump_target}
use Rattle.mips_text.specs.Names.{register_name, cp0_name}
use Rattle.mips_text.specs.Values.{hex_text, signed_text}
use Rattle.mips_text.specs.declared.operand.Field.{Field}
use Rattle.mips_text.specs.declared.operand.Field.TheVariants.{Rs, Rt, Rd, Sa, Imm}
use Rattle.mips_text.specs.declared.operand.Operand.{Operand}
use Rattle.mips_text.specs.declared.operand.Operand.TheVariants.{Register, Cp0Register, Decimal, Hexadecimal, Signed, Based, BranchTarget, JumpTarget}
use Rattle.mips_text.specs.Forms.{operands_of}

-- what a field of an instruction has
abbrev pub field_of : Field → Inst → ℕ
field_of Rs inst = inst.rs
field_of Rt inst = inst.rt
field_of Rd inst = inst.rd
field_of Sa inst = inst.sa
field_of Imm inst = inst.imm

-- `off(base)`
unfoldable pub based_text : ℕ → ℕ → List ℕ
based_text offset base = signed_text offset ++ codes "(" ++ register_name base ++ codes ")"

-- the text of an operand of an instruction at this address
abbrev pub operand_text : Inst → ℕ → Operand → List ℕ
operand_text inst at (Register field) = register_name (field_of field inst)
operand_text inst at Cp0Register = cp0_name inst.rd
operand_text inst at (Decimal field width) = dec_of (field_of field inst)
operand_text inst at (Hexadecimal field width) = hex_text (field_of field inst)
operand_text inst at Signed = signed_text inst.imm
operand_text inst at Based = based_text inst.imm inst.rs
operand_text inst at BranchTarget = hex_text (branch_target at inst.imm)
operand_text inst at JumpTarget = hex_text (jump_target at inst.imm)

-- the fields that an operand says are in range, so that its text says them
abbrev pub OperandFits : Inst → Operand → Type 0
OperandFits inst (Register field) = field_of field inst < 32
OperandFits inst Cp0Register = inst.rd < 32
OperandFits inst (Decimal field width) = (field_of field inst < 2 ^ width) × (2 ^ width ≤ 2 ^ 32)
OperandFits inst (Hexadecimal field width) = (field_of field inst < 2 ^ width) × (2 ^ width ≤ 2 ^ 32)
OperandFits inst Signed = inst.imm < 2 ^ 16
OperandFits inst Based = (inst.imm < 2 ^ 16) × (inst.rs < 32)
OperandFits inst BranchTarget = inst.imm < 2 ^ 16
OperandFits inst JumpTarget = inst.imm < 2 ^ 26

-- the same of each operand
abbrev pub AllFit : Inst → List Operand → Type 0
AllFit inst [] = Unit {0}
AllFit inst (one ∷ more) = OperandFits inst one × AllFit inst more

-- the texts of the operands of a form
abbrev pub operand_texts : Form → Inst → ℕ → List (List ℕ)
operand_texts form inst at = map (operand_text inst at) (operands_of form)

-- texts with commas between them
abbrev pub with_commas : List (List ℕ) → List ℕ
with_commas [] = []
with_commas (one ∷ []) = one
with_commas (one ∷ next ∷ more) = one ++ codes "," ++ with_commas (next ∷ more)

-- after a name: one blank and the operands, and nothing where there are none
abbrev pub after_name : List (List ℕ) → List ℕ
after_name [] = []
after_name (one ∷ more) = codes " " ++ with_commas (one ∷ more)

-- the text of an instruction by its form
abbrev pub by_form : List ℕ → Form → Inst → ℕ → List ℕ
by_form name form inst at = name ++ after_name (operand_texts form inst at)

-- The text of an instruction at an address: `nop` for the word 0, else the row's name and the operands.
unfoldable pub text_of : Inst → ℕ → List ℕ
text_of inst at = if encoded inst == 0 then codes "nop" else by_form (row_at inst.row).name (row_at inst.row).form inst at

-- the text of a word whose instruction this is, and of a reserved word
abbrev pub decoded_text : ℕ → Option Inst → ℕ → List ℕ
decoded_text word (Some inst) at = text_of inst at
decoded_text word None at = codes ".word " ++ hex_text word

-- The text of a word at an address: that of its instruction, and for a reserved word `.word` and the number.
abbrev pub word_text : ℕ → ℕ → List ℕ
word_text word at = decoded_text word (decoded word) at
