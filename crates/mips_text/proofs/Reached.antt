-- The number by which a branch or a jump reaches a target is the one that there is.
use Rattle.std.proofs.Common.{◌≡◌, ◌<◌, ◌^◌, ◌==◌, ℕ, Bool, true, false, if◌then◌else◌, Option, Some, None, IsNone, ◌↔◌, refl, ap, sym, arith, eqb-true, eq-eqb}
use Rattle.std.proofs.lemmas.Bool.{both_ways}
use Rattle.mips3_code.specs.Targets.{branch_target, jump_target, IsBranchDistance, IsJumpNumber}
use Rattle.mips3_code.proofs.Reach.{words_between, word_within, one_branch_distance, one_jump_number, branch_misses, jump_misses}
use Rattle.mips_text.specs.Least.{least}
use Rattle.mips_text.specs.Coded.{passing, distance_to, word_number}
use Rattle.mips_text.proofs.Least.{least_none, least_first}

-- where no number below a limit passes, none is found
none_below : (limit : ℕ) (test : ℕ → Bool) → ((n : ℕ) → n < limit → test n ≡ false) → least (passing test) limit ≡ None
none_below limit test fails = least_none (passing test) limit (λ n lt. ap (λ b. if b then Some n else None) (fails n lt))

other_fails : (test : ℕ → Bool) (m one : ℕ) (b : Bool) → test m ≡ b → (test m ≡ true → m ≡ one) → m < one → test m ≡ false
other_fails test m one true is only lt = absurd (let same : m ≡ one = only is in omega arith)
other_fails test m one false is only lt = is

-- the only number that passes is the one that is found
only_below : (limit : ℕ) (test : ℕ → Bool) (one : ℕ) → one < limit → test one ≡ true → ((n : ℕ) → n < limit → test n ≡ true → n ≡ one) → least (passing test) limit ≡ Some one
only_below limit test one lt passes only =
    least_first (passing test) limit one one lt (ap (λ b. if b then Some one else None) passes)
    (λ n less. ap (λ b. if b then Some n else None) (other_fails test n one (test n) refl (only n (omega arith)) less))

pub distance_found : (at target distance : ℕ) → IsBranchDistance at target distance → distance_to at target ≡ Some distance
unfolding distance_to
distance_found at target distance is =
    only_below (2 ^ 16) (λ d. branch_target at d == target) distance is.small (eq-eqb (branch_target at distance) target is.reaches)
    (λ d lt same. one_branch_distance at target d distance (record { small = lt; reaches = eqb-true (branch_target at d) target same }) is)

pub distance_missed : (at target : ℕ) → ((distance : ℕ) → ¬ IsBranchDistance at target distance) → distance_to at target ≡ None
unfolding distance_to
distance_missed at target none = none_below (2 ^ 16) (λ d. branch_target at d == target) (λ d lt. fails d lt (branch_target at d == target) refl)
  where
    fails : (d : ℕ) → d < 2 ^ 16 → (b : Bool) → (branch_target at d == target) ≡ b → (branch_target at d == target) ≡ false
    fails d lt true is = absurd (none d (record { small = lt; reaches = eqb-true (branch_target at d) target is }))
    fails d lt false is = is

pub number_found : (at target number : ℕ) → IsJumpNumber at target number → word_number at target ≡ Some number
unfolding word_number
number_found at target number is =
    only_below (2 ^ 26) (λ n. jump_target at n == target) number is.small (eq-eqb (jump_target at number) target is.reaches)
    (λ n lt same. one_jump_number at target n number (record { small = lt; reaches = eqb-true (jump_target at n) target same }) is)

pub number_missed : (at target : ℕ) → ((number : ℕ) → ¬ IsJumpNumber at target number) → word_number at target ≡ None
unfolding word_number
number_missed at target none = none_below (2 ^ 26) (λ n. jump_target at n == target) (λ n lt. fails n lt (jump_target at n == target) refl)
  where
    fails : (n : ℕ) → n < 2 ^ 26 → (b : Bool) → (jump_target at n == target) ≡ b → (jump_target at n == target) ≡ false
    fails n lt true is = absurd (none n (record { small = lt; reaches = eqb-true (jump_target at n) target is }))
    fails n lt false is = is

-- what is known to be the number, where there is one, is the number
pub given_distance : (at target : ℕ) (given : Option ℕ) → ((distance : ℕ) → (given ≡ Some distance) ↔ IsBranchDistance at target distance) → (IsNone given ↔ ((distance : ℕ) → ¬ IsBranchDistance at target distance)) →
    given ≡ distance_to at target
given_distance at target (Some distance) found none = sym (distance_found at target distance ((found distance).0 refl))
given_distance at target None found none = sym (distance_missed at target (none.0 refl))

pub given_number : (at target : ℕ) (given : Option ℕ) → ((number : ℕ) → (given ≡ Some number) ↔ IsJumpNumber at target number) → (IsNone given ↔ ((number : ℕ) → ¬ IsJumpNumber at target number)) →
    given ≡ word_number at target
given_number at target (Some number) found none = sym (number_found at target number ((found number).0 refl))
given_number at target None found none = sym (number_missed at target (none.0 refl))

-- so it can be computed: the number is that of the words between, where those lead to the target
pub distance_is : (at target : ℕ) → distance_to at target ≡ (if branch_target at (words_between at target) == target then Some (words_between at target) else None)
distance_is at target = by_test (branch_target at (words_between at target) == target) refl
  where
    by_test : (b : Bool) → (branch_target at (words_between at target) == target) ≡ b → distance_to at target ≡ (if b then Some (words_between at target) else None)
    by_test true is = distance_found at target (words_between at target) (record { small = omega arith; reaches = eqb-true (branch_target at (words_between at target)) target is })
    by_test false is = distance_missed at target (branch_misses at target (λ same. both_ways (branch_target at (words_between at target) == target) is (eq-eqb (branch_target at (words_between at target)) target same)))

pub number_is : (at target : ℕ) → word_number at target ≡ (if jump_target at (word_within target) == target then Some (word_within target) else None)
number_is at target = by_test (jump_target at (word_within target) == target) refl
  where
    by_test : (b : Bool) → (jump_target at (word_within target) == target) ≡ b → word_number at target ≡ (if b then Some (word_within target) else None)
    by_test true is = number_found at target (word_within target) (record { small = omega arith; reaches = eqb-true (jump_target at (word_within target)) target is })
    by_test false is = number_missed at target (jump_misses at target (λ same. both_ways (jump_target at (word_within target) == target) is (eq-eqb (jump_target at (word_within target)) target same)))
