-- The number that is tried is the only one by which the target may be reached.
use Rattle.std.proofs.Common.{◌∙◌, refl, sym}
use Rattle.mips3_code.specs.Targets.{IsJumpNumber}
use Rattle.mips3_code.proofs.Reach.{jump_reaches, jump_misses, none_found}
use Rattle.mips3_code.proofs.targets.jump_number.Goals as goal

pub returns-then-jump_target-target-clause-number : goal.returns-then-jump_target-target-clause-number
returns-then-jump_target-target-clause-number c = jump_reaches c.args.at c.args.target (sym c.jump_target.ensures ∙ c.if-jump_target-target.true)

pub returns-else-jump_target-target-clause-number : goal.returns-else-jump_target-target-clause-number
returns-else-jump_target-target-clause-number c =
    none_found (IsJumpNumber c.args.at c.args.target)
    (jump_misses c.args.at c.args.target (λ same. c.if-jump_target-target.false (c.jump_target.ensures ∙ same)))

pub returns-else-jump_target-target-clause-too_far : goal.returns-else-jump_target-target-clause-too_far
returns-else-jump_target-target-clause-too_far c = (
  (λ none. jump_misses c.args.at c.args.target (λ same. c.if-jump_target-target.false (c.jump_target.ensures ∙ same))),
  (λ none. refl),
)
