use Rattle.std.proofs.Common.{length}
use Rattle.input_script.proofs.PairList.{IsPutTo}
use Rattle.input_script.proofs.taking.put_keys.Given as goal

abbrev pub invariant-loop-rest : goal.invariant-loop-rest
invariant-loop-rest l = IsPutTo l.tick l.initial.script l.digits l.script l.rest

abbrev pub decreases-loop-rest : goal.decreases-loop-rest
decreases-loop-rest l = length l.rest
