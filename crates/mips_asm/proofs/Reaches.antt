-- An instruction is that of the way in which its operands go to a target.
use Rattle.std.proofs.Common.{◌≡◌, List, [], ◌∷◌, Option, refl, ap, sym, ◌∙◌, subst}
use Rattle.mips3_table.specs.declared.instruction.Inst.{Inst}
use Rattle.mips_text.specs.declared.operand.Operand.{Operand}
use Rattle.mips_text.specs.declared.operand.Operand.TheVariants.{BranchTarget, JumpTarget}
use Rattle.mips_text.specs.declared.item.Target.{Target}
use Rattle.mips_text.specs.Line.{item_by}
use Rattle.mips_asm.specs.declared.operands.Reach.{Reach}
use Rattle.mips_asm.specs.Shown.{IsSoundBy}
use Rattle.mips_asm.specs.Reaches.{reach_of, item_with, IsSoundWith}

item_of_operands : (operands : List Operand) (inst : Inst) (target : Option Target) → item_by operands inst target ≡ item_with (reach_of operands) inst target
item_of_operands [] inst target = refl
item_of_operands (BranchTarget ∷ more) inst target = refl
item_of_operands (JumpTarget ∷ more) inst target = refl
item_of_operands (one ∷ more) inst target = item_of_operands more inst target

sound_of_operands : (operands : List Operand) (inst : Inst) → IsSoundBy operands inst → IsSoundWith (reach_of operands) inst
sound_of_operands [] inst sound = sound
sound_of_operands (BranchTarget ∷ more) inst sound = sound.0
sound_of_operands (JumpTarget ∷ more) inst sound = sound.0
sound_of_operands (one ∷ more) inst sound = sound_of_operands more inst sound

pub item_by_reach : (operands : List Operand) (inst : Inst) (target : Option Target) (reach : Reach) → reach ≡ reach_of operands → item_by operands inst target ≡ item_with reach inst target
item_by_reach operands inst target reach is = item_of_operands operands inst target ∙ ap (λ r. item_with r inst target) (sym is)

pub sound_by_reach : (operands : List Operand) (inst : Inst) (reach : Reach) → reach ≡ reach_of operands → IsSoundBy operands inst → IsSoundWith reach inst
sound_by_reach operands inst reach is sound = subst (λ r. IsSoundWith r inst) (sym is) (sound_of_operands operands inst sound)
