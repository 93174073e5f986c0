use Rattle.std.proofs.Common.{◌≤◌}
use Rattle.rule_cases.proofs.rules.repeat.Given as goal

abbrev pub invariant-loop-time : goal.invariant-loop-time
invariant-loop-time l = l.ledger.steps ≤ l._time
