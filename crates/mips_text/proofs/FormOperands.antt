-- The operands of each form: three at most, each of which the form's fields are in range for.
use Rattle.std.proofs.Common.{◌≤◌, length, arith}
use Rattle.std.proofs.lemmas.Grind.{common_steps}
use Rattle.mips3_table.specs.declared.instruction.Inst.{Inst}
use Rattle.mips3_table.specs.declared.operand_forms.Form.{Form}
use Rattle.mips3_table.specs.declared.operand_forms.Form.TheVariants.{Target, CompareBranch, ZeroBranch, SignedImmediate, UnsignedImmediate, UpperImmediate, Memory, CacheOperation, CoprocessorNumber, CoprocessorMemory, Shift, ShiftByRegister, Source, JumpAndLinkRegister, Code, NoOperands, Destination, TwoSources, ThreeRegisters, TrapRegisters, TrapImmediate, Cp0Move}
use Rattle.mips3_table.specs.Operands.{widths_of}
use Rattle.mips3_table.specs.Instructions.{FitsWidths}
use Rattle.mips_text.specs.Forms.{operands_of}
use Rattle.mips_text.specs.Printed.{AllFit}

-- the fields of an instruction that a form uses are in range for its operands
pub fit_form : (form : Form) (inst : Inst) → FitsWidths (widths_of form) inst → AllFit inst (operands_of form)
fit_form Target inst fits = (fits.imm, tt)
fit_form CompareBranch inst fits = (fits.rs, (fits.rt, (fits.imm, tt)))
fit_form ZeroBranch inst fits = (fits.rs, (fits.imm, tt))
fit_form SignedImmediate inst fits = (fits.rt, (fits.rs, (fits.imm, tt)))
fit_form UnsignedImmediate inst fits = (fits.rt, (fits.rs, ((fits.imm, omega arith), tt)))
fit_form UpperImmediate inst fits = (fits.rt, ((fits.imm, omega arith), tt))
fit_form Memory inst fits = (fits.rt, ((fits.imm, fits.rs), tt))
fit_form CacheOperation inst fits = ((fits.rt, omega arith), ((fits.imm, fits.rs), tt))
fit_form CoprocessorNumber inst fits = ((fits.imm, omega arith), tt)
fit_form CoprocessorMemory inst fits = ((fits.rt, omega arith), ((fits.imm, fits.rs), tt))
fit_form Shift inst fits = (fits.rd, (fits.rt, ((fits.sa, omega arith), tt)))
fit_form ShiftByRegister inst fits = (fits.rd, (fits.rt, (fits.rs, tt)))
fit_form Source inst fits = (fits.rs, tt)
fit_form JumpAndLinkRegister inst fits = (fits.rd, (fits.rs, tt))
fit_form Code inst fits = ((fits.imm, omega arith), tt)
fit_form NoOperands inst fits = tt
fit_form Destination inst fits = (fits.rd, tt)
fit_form TwoSources inst fits = (fits.rs, (fits.rt, tt))
fit_form ThreeRegisters inst fits = (fits.rd, (fits.rs, (fits.rt, tt)))
fit_form TrapRegisters inst fits = (fits.rs, (fits.rt, ((fits.imm, omega arith), tt)))
fit_form TrapImmediate inst fits = (fits.rs, (fits.imm, tt))
fit_form Cp0Move inst fits = (fits.rt, (fits.rd, tt))

-- a form has three operands at most
pub few_operands : (form : Form) → length (operands_of form) ≤ 3
few_operands Target = omega arith
few_operands _ = omega arith

-- that the operands of a row fit their fields, and are few enough for a line
pub ruleset row_operands = (fit_form, few_operands, common_steps)
