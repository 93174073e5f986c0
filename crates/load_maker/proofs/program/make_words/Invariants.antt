-- After some turns the words are the first ones and those of these turns, and x is the last number that was taken.
use Rattle.std.proofs.Common.{◌≡◌, ◌+◌, ◌*◌, ◌++◌, length}
use Rattle.load_maker.specs.Program.{first_words, turns, x_at}
use Rattle.load_maker.proofs.program.make_words.Given as goal

abbrev pub invariant-loop-done : goal.invariant-loop-done
invariant-loop-done l = record {
  words : l.words.items ≡ first_words ++ turns l.number l.done;
  number_is : l.x ≡ x_at l.number l.done;
  long : length l.words.items ≡ 5 * l.done + 7;
}
