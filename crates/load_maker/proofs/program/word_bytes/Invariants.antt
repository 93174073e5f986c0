-- After some words the bytes are those of these words.
use Rattle.std.proofs.Common.{◌≡◌, take}
use Rattle.load_maker.specs.Program.{word_bytes}
use Rattle.load_maker.proofs.program.word_bytes.Given as goal

abbrev pub invariant-loop-word : goal.invariant-loop-word
invariant-loop-word l = l.bytes.items ≡ word_bytes (take l.word-index l.words)
