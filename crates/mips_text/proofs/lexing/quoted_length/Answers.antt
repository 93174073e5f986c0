use Rattle.mips_text.proofs.Cutting.{quoted_goes_on, quoted_goes_by}
use Rattle.mips_text.proofs.lexing.quoted_length.Goals as goal
use Rattle.mips_text.proofs.lexing.quoted_length.Goals.{then-taken, else-taken+else-code-eq34}

pub loop-at-preserved : goal.loop-at-preserved
loop-at-preserved c =
    elim c.if-taken.branch [
      | then-taken w ↦ quoted_goes_on c.args.text.now c.loop-at.at c.loop-at.taken c.if-taken.taken _ c.loop-at-test.true w.if-taken.true w.taken-is c.loop-at.invariant
      | else-taken+else-code-eq34 w ↦ quoted_goes_by c.args.text.now c.loop-at.at c.loop-at.taken c.if-taken.taken _ c.loop-at-test.true w.if-taken.false w.if-code-eq34.false w.taken-is c.loop-at.invariant
    ]
