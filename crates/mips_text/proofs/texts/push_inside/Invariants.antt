use Rattle.std.proofs.Common.{◌≡◌, ◌≤◌, ◌-◌, false, length, drop, take}
use Rattle.mips_text.specs.Values.{unescaped}
use Rattle.mips_text.proofs.Escapes.{after}
use Rattle.mips_text.proofs.texts.push_inside.Given as goal

abbrev pub invariant-loop-at : goal.invariant-loop-at
invariant-loop-at l = record {
  so_far : after l.out.items (unescaped false (drop l.at l.inside)) ≡ after l.initial.out.items (unescaped false l.inside);
  within : l.at ≤ length l.inside;
  front : take (length l.initial.out.items) l.out.items ≡ l.initial.out.items;
  longer : length l.initial.out.items ≤ length l.out.items;
}

abbrev pub decreases-loop-at : goal.decreases-loop-at
decreases-loop-at l = length l.inside - l.at
