use Rattle.std.proofs.Common.{◌≡◌, ◌<◌, ◌^◌, drop}
use Rattle.r4_words.specs.Texts.{number_after}
use Rattle.r4_words.proofs.reading.dec_number.Given as goal

abbrev pub invariant-loop-code : goal.invariant-loop-code
invariant-loop-code l = (number_after 10 l.number (drop l.code-index l.text) ≡ number_after 10 0 l.text) × (l.number < 10 ^ l.code-index)
