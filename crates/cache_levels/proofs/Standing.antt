-- The copies of a cache after a place was emptied, and after it was given a line.
use Rattle.std.proofs.Common.{ℕ, List, Option, Some, None, set}
use Rattle.line_moves.specs.Lines.{Line}
use Rattle.cache_levels.specs.Copies.{Stands, AllStand}
use Rattle.cache_levels.proofs.Places.{kept_after_none, each_set}

module _ (size page top : ℕ) (xs : List (Option Line)) (i : ℕ) (h : AllStand size page top xs) where
  pub stands_emptied : AllStand size page top (set xs i None)
  stands_emptied j x e = h j x (kept_after_none xs i j x e)

  pub stands_set : (l : Line) → Stands size page top i l → AllStand size page top (set xs i (Some l))
  stands_set l here = each_set xs i l (λ j x. Stands size page top j x) here (λ j x ne e. h j x e)
