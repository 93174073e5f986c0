-- The least number at which there is something.
-- Source: arithmetic.
use Rattle.std.specs.Prelude.{ℕ, zero, suc, Option, None}
use Rattle.std.specs.Option.{option_or}

-- what there is at the least number below a limit at which there is something
unfoldable pub least : {A : Type 0} → (ℕ → Option A) → ℕ → Option A
least at zero = None
least at (suc n) = option_or (least at n) (at n)
