use Rattle.std.proofs.Common.{◌≡◌, ◌≤◌, ◌-◌, false, length, drop}
use Rattle.std.specs.Option.{option_map}
use Rattle.mips_text.specs.Values.{unescaped}
use Rattle.mips_text.proofs.Escapes.{sized}
use Rattle.mips_text.proofs.texts.size_of.Given as goal

abbrev pub invariant-loop-at : goal.invariant-loop-at
invariant-loop-at l = record {
  so_far : sized l.size (unescaped false (drop l.at l.inside)) ≡ option_map length (unescaped false l.inside);
  within : l.at ≤ length l.inside;
  few : l.size ≤ l.at;
}

abbrev pub decreases-loop-at : goal.decreases-loop-at
decreases-loop-at l = length l.inside - l.at
