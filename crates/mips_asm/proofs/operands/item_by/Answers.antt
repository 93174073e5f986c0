use Rattle.std.proofs.Common.{sym, ◌∙◌}
use Rattle.mips_asm.specs.declared.operands.Reach.TheVariants.{Nowhere, ByBranch, ByJump}
use Rattle.mips_asm.proofs.Reaches.{sound_by_reach}
use Rattle.mips_asm.proofs.operands.item_by.Goals as goal

pub returns-in-Nowhere-clause-sound : goal.returns-in-Nowhere-clause-sound
returns-in-Nowhere-clause-sound c = sound_by_reach c.args.operands.now c.args.inst Nowhere (sym c.in-Nowhere.is ∙ c.reach_of.ensures) c.requires

pub returns-in_ok-target-in-ByBranch-clause-sound : goal.returns-in_ok-target-in-ByBranch-clause-sound
returns-in_ok-target-in-ByBranch-clause-sound c = sound_by_reach c.args.operands.now c.args.inst ByBranch (sym c.in-ByBranch.is ∙ c.reach_of.ensures) c.requires

pub returns-in_ok-target-in-ByJump-clause-sound : goal.returns-in_ok-target-in-ByJump-clause-sound
returns-in_ok-target-in-ByJump-clause-sound c = sound_by_reach c.args.operands.now c.args.inst ByJump (sym c.in-ByJump.is ∙ c.reach_of.ensures) c.requires
