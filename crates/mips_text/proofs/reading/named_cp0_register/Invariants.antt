use Rattle.std.proofs.Common.{◌≡◌, ◌<◌, ℕ, false, bytes_eq}
use Rattle.mips_text.specs.Names.{cp0_name}
use Rattle.mips_text.proofs.reading.named_cp0_register.Given as goal

abbrev pub invariant-loop-register : goal.invariant-loop-register
invariant-loop-register l = (k : ℕ) → k < l.register → bytes_eq l.text (cp0_name k) ≡ false
