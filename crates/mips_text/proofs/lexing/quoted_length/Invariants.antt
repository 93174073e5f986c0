use Rattle.std.proofs.Common.{◌≡◌, drop, false}
use Rattle.mips_text.specs.Tokens.{quoted_length}
use Rattle.mips_text.proofs.Cutting.{more_at}
use Rattle.mips_text.proofs.lexing.quoted_length.Given as goal

abbrev pub invariant-loop-at : goal.invariant-loop-at
invariant-loop-at l = more_at l.at (quoted_length l.taken (drop l.at l.text)) ≡ quoted_length false l.text
