-- By at most one number a branch or a jump reaches a target: the number is that of the words between the two.
use Rattle.std.proofs.Common.{◌≡◌, ℕ, ◌+◌, ◌-◌, ◌*◌, ◌/◌, ◌%◌, ◌^◌, ◌<◌, ◌⊎◌, inl, inr, nat_lt, ◌==◌, sym, ap, ◌∙◌, subst, ⊎_elim, arith, if◌then◌else◌, Option, Some, None, ◌↔◌}
use Rattle.std.proofs.Common.{◌≢◌}
use Rattle.std.proofs.lemmas.Bool.{cases_Bool, both_ways, eqb-true, eq-eqb, ltb-true, ltb-false}
use Rattle.mips3_code.specs.Targets.{branch_target, jump_target, IsBranchDistance, IsJumpNumber}

-- the words from a branch's delay slot to a target, as 16 bits
abbrev pub words_between : ℕ → ℕ → ℕ
words_between at target = (target + (2 ^ 32 - (at + 4) % 2 ^ 32)) % 2 ^ 32 / 4 % 2 ^ 16

-- the number of a target's word within its 256 MB
abbrev pub word_within : ℕ → ℕ
word_within target = target / 4 % 2 ^ 26

forward : (at target distance : ℕ) → distance < 2 ^ 15 → (at + 4 + 4 * distance) % 2 ^ 32 ≡ target → distance ≡ words_between at target
forward at target distance small is = omega arith

backward : (at target distance : ℕ) → 2 ^ 15 < distance + 1 → distance < 2 ^ 16 → (at + 4 + 4 * (distance + (2 ^ 32 - 2 ^ 16))) % 2 ^ 32 ≡ target → distance ≡ words_between at target
backward at target distance large small is = omega arith

-- the number by which a branch reaches a target is that of the words between
pub branch_distance_is : (at target distance : ℕ) → IsBranchDistance at target distance → distance ≡ words_between at target
unfolding branch_target
branch_distance_is at target distance is =
    ⊎_elim
    (λ near. forward at target distance (ltb-true _ _ near) (ap (λ b. (at + 4 + 4 * (if b then distance else distance + (2 ^ 32 - 2 ^ 16))) % 2 ^ 32) (sym near) ∙ is.reaches))
    (λ far. backward at target distance (let large = ltb-false _ _ far in omega arith) is.small (ap (λ b. (at + 4 + 4 * (if b then distance else distance + (2 ^ 32 - 2 ^ 16))) % 2 ^ 32) (sym far) ∙ is.reaches))
    (cases_Bool (nat_lt distance (2 ^ 15)))

-- so there is at most one
pub one_branch_distance : (at target one other : ℕ) → IsBranchDistance at target one → IsBranchDistance at target other → one ≡ other
one_branch_distance at target one other is_one is_other = branch_distance_is at target one is_one ∙ sym (branch_distance_is at target other is_other)

-- the number by which a jump reaches a target is that of its word
pub jump_number_is : (at target number : ℕ) → IsJumpNumber at target number → number ≡ word_within target
unfolding jump_target
jump_number_is at target number is = let small = is.small in let reaches = is.reaches in omega (arith, small, reaches)

-- so there is at most one
pub one_jump_number : (at target one other : ℕ) → IsJumpNumber at target one → IsJumpNumber at target other → one ≡ other
one_jump_number at target one other is_one is_other = jump_number_is at target one is_one ∙ sym (jump_number_is at target other is_other)

-- where the words between lead to the target, they are the number; where they do not, no number leads there
pub branch_reaches : (at target : ℕ) → branch_target at (words_between at target) ≡ target →
    (distance : ℕ) → (Some (words_between at target) ≡ Some distance) ↔ IsBranchDistance at target distance
branch_reaches at target reaches distance = (
  (λ found. let same : words_between at target ≡ distance = cc in subst (λ d. IsBranchDistance at target d) same (record { small = omega arith; reaches = reaches })),
  (λ is. ap Some (sym (branch_distance_is at target distance is))),
)

pub branch_misses : (at target : ℕ) → branch_target at (words_between at target) ≢ target → (distance : ℕ) → ¬ IsBranchDistance at target distance
branch_misses at target misses distance is = misses (ap (branch_target at) (sym (branch_distance_is at target distance is)) ∙ is.reaches)

pub jump_reaches : (at target : ℕ) → jump_target at (word_within target) ≡ target →
    (number : ℕ) → (Some (word_within target) ≡ Some number) ↔ IsJumpNumber at target number
jump_reaches at target reaches number = (
  (λ found. let same : word_within target ≡ number = cc in subst (λ n. IsJumpNumber at target n) same (record { small = omega arith; reaches = reaches })),
  (λ is. ap Some (sym (jump_number_is at target number is))),
)

pub jump_misses : (at target : ℕ) → jump_target at (word_within target) ≢ target → (number : ℕ) → ¬ IsJumpNumber at target number
jump_misses at target misses number is = misses (ap (jump_target at) (sym (jump_number_is at target number is)) ∙ is.reaches)

-- what is none of these numbers, said of an answer None
pub none_found : (P : ℕ → Type 0) → ((n : ℕ) → ¬ P n) → (n : ℕ) → ((let none : Option ℕ = None in none) ≡ Some n) ↔ P n
none_found P none n = (λ found. absurd (cc), λ is. absurd (none n is))

-- a branch reaches a target by some number, or by none; so does a jump
pub branch_reached : (at target : ℕ) → ((distance : ℕ) × IsBranchDistance at target distance) ⊎ ((distance : ℕ) → ¬ IsBranchDistance at target distance)
branch_reached at target =
    ⊎_elim
    (λ same. inl (words_between at target, record { small = omega arith; reaches = eqb-true _ _ same }))
    (λ other. inr (branch_misses at target (λ same. both_ways (branch_target at (words_between at target) == target) other (eq-eqb _ _ same))))
    (cases_Bool (branch_target at (words_between at target) == target))

pub jump_reached : (at target : ℕ) → ((number : ℕ) × IsJumpNumber at target number) ⊎ ((number : ℕ) → ¬ IsJumpNumber at target number)
jump_reached at target =
    ⊎_elim
    (λ same. inl (word_within target, record { small = omega arith; reaches = eqb-true _ _ same }))
    (λ other. inr (jump_misses at target (λ same. both_ways (jump_target at (word_within target) == target) other (eq-eqb _ _ same))))
    (cases_Bool (jump_target at (word_within target) == target))

-- a target is an address of 32 bits
pub branch_target_below : (at distance : ℕ) → branch_target at distance < 2 ^ 32
unfolding branch_target
branch_target_below at distance = omega arith

pub jump_target_below : (at number : ℕ) → number < 2 ^ 26 → jump_target at number < 2 ^ 32
unfolding jump_target
jump_target_below at number small = omega arith
