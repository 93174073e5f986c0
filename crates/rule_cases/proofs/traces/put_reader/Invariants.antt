use Rattle.std.proofs.Common.{length}
use Rattle.rule_cases.proofs.traces.put_reader.Given as goal

-- the lines that are not read yet
abbrev pub decreases-loop-event : goal.decreases-loop-event
decreases-loop-event l = length l.reader.lines
