use Rattle.std.proofs.Common.{subst, drop, length-drop, arith}
use Rattle.mips_text.specs.Values.{BeginsWith}
use Rattle.mips_text.proofs.Escapes.{sized_first, sized_piece}
use Rattle.mips_text.proofs.texts.size_of.Goals as goal

pub loop-at-init : goal.loop-at-init
loop-at-init c = record { so_far = sized_first _; within = omega arith; few = omega arith }

pub loop-at-preserved : goal.loop-at-preserved
loop-at-preserved c =
    let piece : BeginsWith (drop c.loop-at.at c.args.inside.now) c.in-Some.piece.byte c.in-Some.piece.used = subst (λ t. BeginsWith t c.in-Some.piece.byte c.in-Some.piece.used) c.rest_from.ensures.value c.in-Some.ensures.some in
    let long = length-drop c.loop-at.at c.args.inside.now in
    record {
      so_far = sized_piece c.args.inside.now c.loop-at.at c.loop-at.size c.in-Some.piece.byte c.in-Some.piece.used _ piece c.loop-at.invariant.so_far;
      within = omega (arith, long, piece.within, c.loop-at-test.true);
      few = omega (arith, piece.some, c.loop-at.invariant.few);
    }
