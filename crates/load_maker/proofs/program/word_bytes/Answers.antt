-- How many bytes there are.
use Rattle.std.proofs.Common.{arith, ap, length, take, length-take}
use Rattle.load_maker.proofs.Turns.{length_word_bytes}
use Rattle.load_maker.proofs.program.word_bytes.Goals as goal

pub returns-clause-length : goal.returns-clause-length
returns-clause-length c =
    omega (arith, ap length c.loop-word.invariant, length_word_bytes (take c.loop-word.word-index c.args.words.now), length-take c.loop-word.word-index c.args.words.now)
