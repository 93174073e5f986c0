-- Places without a line are clean.
use Rattle.std.proofs.Common.{ℕ, refl}
use Rattle.std.specs.Prelude.{All}
use Rattle.std.proofs.lemmas.List.Elements.{All-replicate}
use Rattle.primary_caches.specs.Tag.{IsClean, no_line, no_lines}

pub no_lines_are_clean : (places : ℕ) → All IsClean (no_lines places)
unfolding no_lines
no_lines_are_clean places = All-replicate IsClean places no_line refl
