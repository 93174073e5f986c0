-- One turn more.
use Rattle.std.proofs.Common.{◌∙◌, ◌+◌, ◌*◌, ◌%◌, ◌^◌, ◌++◌, length, ap, sym, arith, length-append}
use Rattle.load_maker.specs.Program.{turn}
use Rattle.load_maker.proofs.Turns.{x_more, turn_taken, length_turn}
use Rattle.load_maker.proofs.program.make_words.Goals as goal

pub loop-done-preserved : goal.loop-done-preserved
loop-done-preserved c = record {
  words = c.in_ok-extend_from_slice-2.ensures.items
      ∙ ap (λ w. c.loop-done.words.items ++ w) (c.turn.ensures ∙ ap turn c.next-x.ensures)
      ∙ turn_taken c.args.number c.loop-done.done c.loop-done.x c.loop-done.words.items c.loop-done.invariant.words c.loop-done.invariant.number_is;
  number_is = c.next-x.ensures ∙ ap (λ x. (x * 1664525 + 1013904223) % 2 ^ 32) c.loop-done.invariant.number_is ∙ sym (x_more c.args.number c.loop-done.done);
  long = omega (arith, ap length c.in_ok-extend_from_slice-2.ensures.items, length-append c.loop-done.words.items c.turn.result, ap length c.turn.ensures, length_turn c.next-x.result);
}
