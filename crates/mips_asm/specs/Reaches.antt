-- How an instruction with some operands goes to a target.
use Rattle.std.specs.Prelude.{ℕ, ◌<◌, ◌^◌, List, [], ◌∷◌, Option, Some, option_map}
use Rattle.mips3_table.specs.declared.instruction.Inst.{Inst}
use Rattle.mips3_table.specs.Instructions.{IsInst}
use Rattle.mips_text.specs.declared.operand.Operand.{Operand}
use Rattle.mips_text.specs.declared.operand.Operand.TheVariants.{BranchTarget, JumpTarget}
use Rattle.mips_text.specs.declared.item.Target.{Target}
use Rattle.mips_text.specs.declared.item.Item.{Item}
use Rattle.mips_text.specs.declared.item.Item.TheVariants.{Plain, BranchTo, JumpTo}
use Rattle.mips_asm.specs.declared.operands.Reach.{Reach}
use Rattle.mips_asm.specs.declared.operands.Reach.TheVariants.{Nowhere, ByBranch, ByJump}

-- by the first operand that is a target
abbrev pub reach_of : List Operand → Reach
reach_of [] = Nowhere
reach_of (BranchTarget ∷ more) = ByBranch
reach_of (JumpTarget ∷ more) = ByJump
reach_of (one ∷ more) = reach_of more

-- an instruction that goes so to a target
abbrev pub item_with : Reach → Inst → Option Target → Option Item
item_with Nowhere inst target = Some (Plain inst)
item_with ByBranch inst target = option_map (BranchTo inst) target
item_with ByJump inst target = option_map (JumpTo inst) target

-- it can be coded
abbrev pub IsSoundWith : Reach → Inst → Type 0
IsSoundWith Nowhere inst = IsInst inst
IsSoundWith ByBranch inst = (number : ℕ) → number < 2 ^ 16 → IsInst (record inst { imm = number })
IsSoundWith ByJump inst = (number : ℕ) → number < 2 ^ 26 → IsInst (record inst { imm = number })
