-- Lists that are put together piece by piece.
use Rattle.std.proofs.Common.{◌≡◌, ℕ, List, ◌++◌, append_assoc}

pub eight_parts : (old a b c d e f g h : List ℕ) →
    (((((((old ++ a) ++ b) ++ c) ++ d) ++ e) ++ f) ++ g) ++ h ≡ old ++ (((((((a ++ b) ++ c) ++ d) ++ e) ++ f) ++ g) ++ h)
eight_parts old a b c d e f g h = simp append_assoc
