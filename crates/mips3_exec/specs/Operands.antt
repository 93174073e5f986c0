-- The operands of an instruction, as the form of its row gives them, and the addresses that it makes of them.
-- Source: MIPS R4000 Microprocessor User's Manual, 2nd edition (Heinrich), appendix A, "Instruction Formats" and the page of
-- each instruction: GPR[rs], GPR[rt], sign_extend(immediate), zero_extend(immediate), and the virtual address vAddr. The
-- machine runs with addresses of 32 bits.
use Rattle.std.specs.Prelude.{ℕ, pos, ◌==◌, ◌+◌, ◌%◌, ◌^◌, if◌then◌else◌}
use Rattle.r4_words.specs.Words.{sext16, sext32}
use Rattle.mips3_table.specs.declared.instruction.Inst.{Inst}
use Rattle.mips3_table.specs.declared.operand_forms.Form.{Form}
use Rattle.mips3_table.specs.declared.operand_forms.Form.TheVariants.{Target, CompareBranch, ZeroBranch, SignedImmediate, UnsignedImmediate, Memory, CacheOperation, TrapImmediate}
use Rattle.mips3_table.specs.declared.operations.Width.{Width}
use Rattle.mips3_table.specs.declared.operations.Width.TheVariants.{Word, Double}
use Rattle.mips3_table.specs.declared.operations.Amount.{Amount}
use Rattle.mips3_table.specs.declared.operations.Amount.TheVariants.{InField, InFieldPlus32, InRegister}
use Rattle.mips3_table.specs.declared.operations.Link.{Link}
use Rattle.mips3_table.specs.declared.operations.Link.TheVariants.{Unlinked, IntoRegister31, IntoDestination}
use Rattle.mips3_table.specs.Operands.{widths_of}
use Rattle.mips3_alu.specs.declared.registers.Regs.{Regs}
use Rattle.mips3_alu.specs.Registers.{register}
use Rattle.mips3_alu.specs.Arithmetic.{reduced}
use Rattle.mips3_code.specs.Targets.{branch_target, jump_target}

-- how many bits a width has
abbrev pub bits : Width → ℕ
bits Word = 32
bits Double = 64

-- the form's number as a register: its 16 bits are signed in these forms, and unsigned in the others
abbrev pub number_of : Form → Inst → ℕ
number_of SignedImmediate inst = sext32 (sext16 inst.imm)
number_of TrapImmediate inst = sext32 (sext16 inst.imm)
number_of Memory inst = sext32 (sext16 inst.imm)
number_of CacheOperation inst = sext32 (sext16 inst.imm)
number_of _ inst = inst.imm

-- the first operand: register rs
abbrev pub first_of : Inst → Regs → ℕ
first_of inst regs = register regs inst.rs

-- the second operand: the number of an immediate form, zero for a branch on one register, and else register rt
abbrev pub second_of : Form → Inst → Regs → ℕ
second_of SignedImmediate inst regs = number_of SignedImmediate inst
second_of UnsignedImmediate inst regs = number_of UnsignedImmediate inst
second_of TrapImmediate inst regs = number_of TrapImmediate inst
second_of ZeroBranch inst regs = 0
second_of _ inst regs = register regs inst.rt

-- what a shift moves: register rt
abbrev pub shifted_of : Inst → Regs → ℕ
shifted_of inst regs = register regs inst.rt

-- by how many bits: sa, sa + 32, or the low 5 bits of register rs, 6 where 64 bits are shifted
abbrev pub amount_of : Amount → Width → Inst → Regs → ℕ
amount_of InField width inst regs = inst.sa
amount_of InFieldPlus32 width inst regs = inst.sa + 32
amount_of InRegister width inst regs = register regs inst.rs % bits width

-- the register that gets the result: rd where the form has one, else rt
abbrev pub destination_of : Form → Inst → ℕ
destination_of form inst = if (widths_of form).rd == 0 then inst.rt else inst.rd

-- the address of a load, a store or a cache operation
abbrev pub address_of : Form → Inst → Regs → ℕ
address_of form inst regs = (register regs inst.rs + number_of form inst) % 2 ^ 32

-- where a jump or a branch at pc goes: by the form's number, or to the address in rs where the form has none
abbrev pub target_of : Form → Inst → Regs → ℕ → ℕ
target_of Target inst regs pc = jump_target pc inst.imm
target_of CompareBranch inst regs pc = branch_target pc inst.imm
target_of ZeroBranch inst regs pc = branch_target pc inst.imm
target_of _ inst regs pc = register regs inst.rs % 2 ^ 32

-- the register that gets the link, where there is one
abbrev pub link_register : Link → Inst → ℕ
link_register Unlinked inst = 0
link_register IntoRegister31 inst = 31
link_register IntoDestination inst = inst.rd

-- the link: the address behind the delay slot, of which 32 bits are sign-extended
abbrev pub link_value : Link → ℕ → ℕ
link_value Unlinked pc = 0
link_value _ pc = reduced 32 (pos (pc + 8))
