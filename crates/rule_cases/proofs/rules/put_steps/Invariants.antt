use Rattle.std.proofs.Common.{◌≤◌, ◌+◌}
use Rattle.rule_cases.proofs.rules.put_steps.Given as goal

abbrev pub invariant-loop-words : goal.invariant-loop-words
invariant-loop-words l = record {
  can : (goal.iterator-loop-words).can_next l.words-iterator;
  finite : (goal.iterator-loop-words).is_finite l.words-iterator;
  room : l.ledger.steps + l.left ≤ 1000;
}
