use Rattle.std.proofs.Common.{◌≡◌, ◌<◌, ◌^◌, drop}
use Rattle.r4_words.specs.Texts.{number_after}
use Rattle.r4_words.proofs.reading.hex_number.Given as goal

abbrev pub invariant-loop-code : goal.invariant-loop-code
invariant-loop-code l = (number_after 16 l.number (drop l.code-index l.text) ≡ number_after 16 0 l.text) × (l.number < 16 ^ l.code-index)
