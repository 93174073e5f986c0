-- The number that is tried is the only one by which the target may be reached.
use Rattle.std.proofs.Common.{◌∙◌, refl, sym}
use Rattle.mips3_code.specs.Targets.{IsBranchDistance}
use Rattle.mips3_code.proofs.Reach.{branch_reaches, branch_misses, none_found}
use Rattle.mips3_code.proofs.targets.branch_distance.Goals as goal

pub returns-then-branch_target-target-clause-distance : goal.returns-then-branch_target-target-clause-distance
returns-then-branch_target-target-clause-distance c = branch_reaches c.args.at c.args.target (sym c.branch_target.ensures ∙ c.if-branch_target-target.true)

pub returns-else-branch_target-target-clause-distance : goal.returns-else-branch_target-target-clause-distance
returns-else-branch_target-target-clause-distance c =
    none_found (IsBranchDistance c.args.at c.args.target)
    (branch_misses c.args.at c.args.target (λ same. c.if-branch_target-target.false (c.branch_target.ensures ∙ same)))

pub returns-else-branch_target-target-clause-too_far : goal.returns-else-branch_target-target-clause-too_far
returns-else-branch_target-target-clause-too_far c = (
  (λ none. branch_misses c.args.at c.args.target (λ same. c.if-branch_target-target.false (c.branch_target.ensures ∙ same))),
  (λ none. refl),
)
