-- The least number at which there is something is the first one.
use Rattle.std.proofs.Common.{◌≡◌, ◌+◌, ◌-◌, ◌<◌, ℕ, zero, suc, Option, Some, None, refl, ap, ◌∙◌, arith, zero-add}
use Rattle.std.specs.Option.{option_or}
use Rattle.mips_text.specs.Least.{least}

-- where there is nothing below a limit, there is no least number
pub least_none : {A : Type 0} (at : ℕ → Option A) (limit : ℕ) → ((n : ℕ) → n < limit → at n ≡ None) → least at limit ≡ None
unfolding least
least_none at zero none = refl
least_none at (suc n) none =
    ap (λ first. option_or first (at n)) (least_none at n (λ k lt. none k (omega arith)))
    ∙ ap (option_or None) (none n (omega arith))

least_here : {A : Type 0} (at : ℕ → Option A) (before : ℕ) (one : A) → at before ≡ Some one → ((n : ℕ) → n < before → at n ≡ None) → least at (suc before) ≡ Some one
unfolding least
least_here at before one has none =
    ap (λ first. option_or first (at before)) (least_none at before none)
    ∙ ap (option_or None) has

least_stays : {A : Type 0} (at : ℕ → Option A) (before more : ℕ) (one : A) → least at (suc before) ≡ Some one → least at (more + suc before) ≡ Some one
unfolding least
least_stays at before zero one is = rw zero-add is
least_stays at before (suc more) one is =
    let next : suc more + suc before ≡ suc (more + suc before) = omega arith in
    ap (least at) next ∙ ap (λ first. option_or first (at (more + suc before))) (least_stays at before more one is)

-- the first number at which there is something is the least one
pub least_first : {A : Type 0} (at : ℕ → Option A) (limit before : ℕ) (one : A) → before < limit → at before ≡ Some one → ((n : ℕ) → n < before → at n ≡ None) → least at limit ≡ Some one
least_first at limit before one lt has none =
    let split : limit ≡ (limit - suc before) + suc before = omega arith in
    ap (least at) split ∙ least_stays at before (limit - suc before) one (least_here at before one has none)
