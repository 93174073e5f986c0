use Rattle.std.proofs.Common.{◌≡◌, ◌<◌, ◌^◌, drop}
use Rattle.r4_words.specs.Texts.{number_after}
use Rattle.mips_text.proofs.reading.decimal.Given as goal

abbrev pub invariant-loop-code : goal.invariant-loop-code
invariant-loop-code l = (number_after 10 l.number (drop l.code-index l.digits) ≡ number_after 10 0 l.digits) × (l.number < 2 ^ 32)
