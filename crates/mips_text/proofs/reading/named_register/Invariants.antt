use Rattle.std.proofs.Common.{◌≡◌, ◌<◌, ℕ, false, bytes_eq}
use Rattle.mips_text.specs.Names.{register_name}
use Rattle.mips_text.proofs.reading.named_register.Given as goal

abbrev pub invariant-loop-register : goal.invariant-loop-register
invariant-loop-register l = (k : ℕ) → k < l.register → bytes_eq l.text (register_name k) ≡ false
