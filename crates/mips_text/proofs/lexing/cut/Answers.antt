use Rattle.std.proofs.Common.{◌≡◌, ◌<◌, ◌≤◌, ◌+◌, ◌∙◌, ap, sym, subst, length, arith}
use Rattle.std.proofs.lemmas.Grind.{common_steps}
use Rattle.mips_text.specs.Tokens.{start_of}
use Rattle.mips_text.proofs.Cutting.{Stands, stands_first, stands_blank, stands_token, ends_line, ends_comment, ends_refused, ends_full}
use Rattle.mips_text.proofs.lexing.cut.Goals as goal

pub loop-at-init : goal.loop-at-init
loop-at-init c = (subst (λ ts. Stands c.args.line.now ts 0) (sym c.requires.empty) (stands_first c.args.line.now), omega (arith, ap length c.requires.empty))

pub loop-at-preserved-in-Blank : goal.loop-at-preserved-in-Blank
loop-at-preserved-in-Blank c = (stands_blank _ _ _ c.loop-at.invariant.0 c.loop-at-test.true (ap start_of (sym c.rest_from.ensures.value) ∙ sym c.in-Blank.ensures.value), c.loop-at.invariant.1)

pub returns-in-Comment : goal.returns-in-Comment
returns-in-Comment c = ends_comment _ _ c.loop-at.at c.loop-at.invariant.0 c.loop-at.invariant.1 c.loop-at-test.true (ap start_of (sym c.rest_from.ensures.value) ∙ sym c.in-Comment.ensures.value)

pub returns-in-Refused : goal.returns-in-Refused
returns-in-Refused c = ends_refused _ _ c.loop-at.at c.in-Refused.why c.loop-at.invariant.0 c.loop-at.invariant.1 c.loop-at-test.true (ap start_of (sym c.rest_from.ensures.value) ∙ sym c.in-Refused.ensures.value)

pub returns-then-is_full : goal.returns-then-is_full
returns-then-is_full c =
    let full : length c.loop-at.out.items ≡ 64 = grind (arith, common_steps, c.if-is_full.ensures.value, c.loop-at.invariant.1) in
    ends_full _ _ c.loop-at.at c.in-Begins.size c.in-Begins.kind c.loop-at.invariant.0 full c.loop-at-test.true (ap start_of (sym c.rest_from.ensures.value) ∙ sym c.in-Begins.ensures.value)
    (subst (λ text. (0 < c.in-Begins.size) × (c.in-Begins.size ≤ length text)) c.rest_from.ensures.value c.in-Begins.ensures.spans)

pub loop-at-preserved : goal.loop-at-preserved
loop-at-preserved c =
    let stands = stands_token _ _ c.loop-at.at c.in-Begins.size c.in-Begins.kind c.loop-at.invariant.0 c.loop-at-test.true (ap start_of (sym c.rest_from.ensures.value) ∙ sym c.in-Begins.ensures.value)
    (subst (λ text. (0 < c.in-Begins.size) × (c.in-Begins.size ≤ length text)) c.rest_from.ensures.value c.in-Begins.ensures.spans) in
    let few : length c.push.new.self.items ≤ 64 = grind (arith, common_steps, c.push.ensures.len, c.if-is_full.ensures.value, c.loop-at.invariant.1) in
    (subst (λ ts. Stands c.args.line.now ts (c.loop-at.at + c.in-Begins.size)) (sym c.push.ensures.items) stands, few)

pub returns : goal.returns
returns c = ends_line _ _ c.loop-at.at c.loop-at.invariant.0 c.loop-at.invariant.1 c.loop-at-test.false
