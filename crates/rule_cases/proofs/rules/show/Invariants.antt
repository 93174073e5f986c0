use Rattle.std.proofs.Common.{◌≤◌}
use Rattle.rule_cases.proofs.rules.show.Given as goal

abbrev pub invariant-loop-event : goal.invariant-loop-event
invariant-loop-event l = l.judge.events ≤ l.event-index
