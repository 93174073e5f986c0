use Rattle.std.proofs.Common.{◌+◌, ◌∙◌, [], ◌∷◌, ap, sym, subst, false, drop, take, length, length-drop, length-append, arith}
use Rattle.std.proofs.lemmas.List.{take-append-le}
use Rattle.mips_text.specs.Values.{BeginsWith, unescaped}
use Rattle.mips_text.proofs.Escapes.{after, after_piece, after_end, never_bad}
use Rattle.mips_text.proofs.texts.push_inside.Goals as goal

pub loop-at-preserved : goal.loop-at-preserved
loop-at-preserved c =
    let used = c.in-Some.piece.used in
    let piece : BeginsWith (drop c.loop-at.at c.args.inside.now) c.in-Some.piece.byte used = subst (λ t. BeginsWith t c.in-Some.piece.byte used) c.rest_from.ensures.value c.in-Some.ensures.some in
    let long = length-drop c.loop-at.at c.args.inside.now in
    record {
      so_far = ap (λ items. after items (unescaped false (drop (c.loop-at.at + used) c.args.inside.now))) c.in_ok-push-in-Some.ensures.items
          ∙ after_piece c.args.inside.now c.loop-at.at c.in-Some.piece.byte used c.loop-at.out.items _ piece c.loop-at.invariant.so_far;
      within = omega (arith, long, piece.within, c.loop-at-test.true);
      front = ap (take (length c.args.out.now.items)) c.in_ok-push-in-Some.ensures.items
          ∙ take-append-le (length c.args.out.now.items) c.loop-at.out.items (c.in-Some.piece.byte ∷ []) c.loop-at.invariant.longer
          ∙ c.loop-at.invariant.front;
      longer = omega (arith, simp length-append at (ap length c.in_ok-push-in-Some.ensures.items), c.loop-at.invariant.longer);
    }

pub unreachable-requires : goal.unreachable-requires
unreachable-requires c =
    never_bad c.args.out.now.items c.loop-at.out.items (unescaped false c.args.inside.now) (unescaped false (drop c.loop-at.at c.args.inside.now)) c.requires
    (ap (unescaped false) (sym c.rest_from.ensures.value) ∙ c.in-None.ensures.none) c.loop-at.invariant.so_far

pub returns-clause-ok : goal.returns-clause-ok
returns-clause-ok c = after_end c.args.inside.now c.loop-at.at c.args.out.now.items c.loop-at.out.items c.loop-at-test.false c.loop-at.invariant.so_far
