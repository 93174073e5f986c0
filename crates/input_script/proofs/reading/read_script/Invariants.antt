use Rattle.input_script.proofs.Passed.{IsBefore, left_in}
use Rattle.input_script.proofs.reading.read_script.Given as goal

abbrev pub invariant-loop-rest : goal.invariant-loop-rest
invariant-loop-rest l = IsBefore l.bytes l.passed l.script l.latest l.rest

abbrev pub decreases-loop-rest : goal.decreases-loop-rest
decreases-loop-rest l = left_in l.rest
