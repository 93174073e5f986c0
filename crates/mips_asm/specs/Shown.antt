-- What the values of the code stand for in the definitions.
use Rattle.std.specs.Prelude.{◌≡◌, ◌<◌, ◌≤◌, ◌^◌, ◌++◌, ℕ, List, [], ◌∷◌, Option, Some, None, Result, Ok, Err, IfSome}
use Rattle.flat_ram.specs.Bytes.{bytes_of}
use Rattle.mips3_table.specs.declared.instruction.Inst.{Inst}
use Rattle.mips3_table.specs.Instructions.{IsInst}
use Rattle.mips_text.specs.declared.operand.Operand.{Operand}
use Rattle.mips_text.specs.declared.operand.Operand.TheVariants.{BranchTarget, JumpTarget}
use Rattle.mips_text.specs.declared.reason.AsmWhy.TheVariants as why
use Rattle.mips_asm.specs.declared.coding.Stop.{Stop}
use Rattle.mips_asm.specs.declared.coding.Stop.TheVariants as stop
use Rattle.mips_text.specs.declared.item.Item.{Item}
use Rattle.mips_text.specs.declared.item.Item.TheVariants.{Plain, BranchTo, JumpTo, LoadNumber, LoadLabel, Aligned}
use Rattle.mips_text.specs.declared.item.Line.{Line}
use Rattle.mips_text.specs.Coded.{Coded, Given, Lacking}

-- the word of a branch or a jump, where it reaches its target
abbrev pub word_shown : Option ℕ → Coded
word_shown (Some word) = Given (bytes_of word)
word_shown None = Lacking why.Range

-- an item can be coded: its instruction is one of the table, with any number of its width where it has a target; its
-- register is one; its alignment is one
abbrev pub IsSound : Item → Type 0
IsSound (Plain inst) = IsInst inst
IsSound (BranchTo inst target) = (number : ℕ) → number < 2 ^ 16 → IsInst (record inst { imm = number })
IsSound (JumpTo inst target) = (number : ℕ) → number < 2 ^ 26 → IsInst (record inst { imm = number })
IsSound (LoadNumber register number) = register < 32
IsSound (LoadLabel register name) = register < 32
IsSound (Aligned (Some power)) = power ≤ 12
IsSound item = Unit {0}

-- an instruction can be coded with the target that one of these operands is, and without one
abbrev pub IsSoundBy : List Operand → Inst → Type 0
IsSoundBy [] inst = IsInst inst
IsSoundBy (BranchTarget ∷ more) inst =
    ((number : ℕ) → number < 2 ^ 16 → IsInst (record inst { imm = number })) × IsSoundBy more inst
IsSoundBy (JumpTarget ∷ more) inst =
    ((number : ℕ) → number < 2 ^ 26 → IsInst (record inst { imm = number })) × IsSoundBy more inst
IsSoundBy (one ∷ more) inst = IsSoundBy more inst

-- a line's statement can be coded
abbrev pub IsSoundLine : Line → Type 0
IsSoundLine line = IfSome line.item IsSound

-- what the coding of a statement came to: its bytes were appended, or there is the reason for which it has none
abbrev pub IsAppended : Coded → List ℕ → List ℕ → Type 0
IsAppended (Given more) old new = new ≡ old ++ more
IsAppended (Lacking reason) old new = ⊥

-- a statement has no bytes for this reason; want of memory says nothing of it
abbrev pub IsLacking : Coded → Stop → Type 0
IsLacking coded (stop.Lacks reason) = coded ≡ Lacking reason
IsLacking coded stop.Memory = Unit {0}

-- the coding of a statement came to this
abbrev pub IsCoded : Coded → Result (Unit {0}) Stop → List ℕ → List ℕ → Type 0
IsCoded coded (Ok done) old new = IsAppended coded old new
IsCoded coded (Err reason) old new = IsLacking coded reason

-- a statement that names no label and has no target
abbrev pub NeedsNoLabel : Item → Type 0
NeedsNoLabel (BranchTo inst target) = ⊥
NeedsNoLabel (JumpTo inst target) = ⊥
NeedsNoLabel (LoadLabel register name) = ⊥
NeedsNoLabel item = Unit {0}
