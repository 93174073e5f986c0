use Rattle.std.proofs.Common.{◌∙◌, ap}
use Rattle.mips_text.specs.Tokens.{tokens_of, cut_from, at_most}
use Rattle.mips_text.proofs.Cutting.{in_order_widened, all_within}
use Rattle.mips_text.proofs.lexing.tokens.Goals as goal

pub returns-clause-tokens : goal.returns-clause-tokens
unfolding tokens_of
returns-clause-tokens c = c.cut.ensures.tokens_are ∙ ap (λ line. (at_most 64 (cut_from 0 0 line)).tokens) c.without_return.ensures.value

pub returns-clause-refusal : goal.returns-clause-refusal
unfolding tokens_of
returns-clause-refusal c = c.cut.ensures.refusal_is ∙ ap (λ line. (at_most 64 (cut_from 0 0 line)).refusal) c.without_return.ensures.value

pub returns-clause-in_order : goal.returns-clause-in_order
returns-clause-in_order c = in_order_widened 0 _ _ _ c.cut.ensures.in_order c.without_return.ensures.len

pub returns-clause-within : goal.returns-clause-within
returns-clause-within c = all_within _ _ (in_order_widened 0 _ _ _ c.cut.ensures.in_order c.without_return.ensures.len)
