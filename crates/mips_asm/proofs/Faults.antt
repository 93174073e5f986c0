-- The first fault of a list of lines is the one that is found.
use Rattle.std.proofs.Common.{◌≡◌, ◌+◌, ◌<◌, ◌≤◌, ℕ, List, [], ◌∷◌, ◌++◌, Option, Some, None, option_map, length, slice_get, refl, ap, ◌∙◌, arith, inl, inr}
use Rattle.std.proofs.lemmas.Bool.{cases_lt}
use Rattle.std.specs.Option.{option_and_then}
use Rattle.std.proofs.lemmas.Option.{option_and_then_some, slice_get_within}
use Rattle.mips_text.specs.declared.reason.AsmWhy.{AsmWhy}
use Rattle.mips_text.proofs.Least.{least_none, least_first}
use Rattle.mips_asm.specs.Assembly.{numbered_fault, first_fault, HasNoFault}

-- what stands after the first part of a list
pub get_after : {X : Type 0} (front : List X) (one : X) (rest : List X) → slice_get (front ++ one ∷ rest) (length front) ≡ Some one
get_after [] one rest = refl
get_after (first ∷ front) one rest = get_after front one rest

-- what there is of a list's element says that there is one
pub found_within : {X Y : Type 0} (f : X → Option Y) (xs : List X) (n : ℕ) (y : Y) → option_and_then f (slice_get xs n) ≡ Some y → n < length xs
found_within f xs n y is = option_and_then_some f (slice_get xs n) y is (λ x has holds. slice_get_within xs n x has)

-- THE FIRST FAULT

-- lines without a fault have no first one
pub no_first_fault : (fault : ℕ → Option AsmWhy) (count : ℕ) → HasNoFault fault → first_fault fault count ≡ None
no_first_fault fault count none = least_none (numbered_fault fault) count (λ n lt. ap (option_map (λ reason. (n, reason))) (none n))

-- the fault of a line is the first one where no line before it has any
pub first_fault_is : (fault : ℕ → Option AsmWhy) (count before : ℕ) (reason : AsmWhy) → before < count → fault before ≡ Some reason → ((n : ℕ) → n < before → fault n ≡ None) → first_fault fault count ≡ Some (before, reason)
first_fault_is fault count before reason lt has none =
    least_first (numbered_fault fault) count before (before, reason) lt (ap (option_map (λ why. (before, why))) has)
    (λ n less. ap (option_map (λ why. (n, why))) (none n less))

-- WITHOUT A FAULT SO FAR

-- no fault below an index, and none at it
pub none_more : (fault : ℕ → Option AsmWhy) (below all : ℕ) → all ≡ below + 1 → ((n : ℕ) → n < below → fault n ≡ None) → fault below ≡ None → (n : ℕ) → n < all → fault n ≡ None
none_more fault below all is none here n lt = elim (cases_lt n below) [ inl less ↦ none n less | inr past ↦ (let same : n ≡ below = omega arith in ap fault same ∙ here) ]

-- no fault below a count, and none from it on
pub none_at_all : (fault : ℕ → Option AsmWhy) (count : ℕ) → ((n : ℕ) → n < count → fault n ≡ None) → ((n : ℕ) → count ≤ n → fault n ≡ None) → HasNoFault fault
none_at_all fault count none past n = elim (cases_lt n count) [ inl less ↦ none n less | inr le ↦ past n le ]
