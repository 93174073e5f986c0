-- Numbers as texts have them, and those that are too large.
use Rattle.std.proofs.Common.{◌≡◌, ◌<◌, ◌≤◌, ◌+◌, ◌*◌, ◌^◌, ℕ, pos, neg_ℤ, nat_abs, zero, suc, true, false, if◌then◌else◌, List, [], ◌∷◌, length, drop, get_or, Some, None, nat_lt, refl, ap, sym, ◌∙◌, arith}
use Rattle.std.proofs.Math.Nat.{mul-le-mul_left}
use Rattle.std.proofs.lemmas.Grind.{common_steps}
use Rattle.r4_words.specs.Texts.{number_after, value_of_digit}
use Rattle.mips_text.specs.Values.{small, bounded}

-- a number only grows by further digits
pub number_after_least : (base number : ℕ) (text : List ℕ) → 0 < base → number ≤ number_after base number text
number_after_least base number [] some = omega arith
number_after_least base number (code ∷ text) some =
    let grows : number * 1 ≤ number * base = mul-le-mul_left number some in
    let rest : number * base + value_of_digit code ≤ number_after base (number * base + value_of_digit code) text = number_after_least base (number * base + value_of_digit code) text some in
    omega arith

pub small_large : (n : ℕ) → 2 ^ 32 ≤ n → small n ≡ None
small_large n le = let past : nat_lt n (2 ^ 32) ≡ false = grind (arith, common_steps) in ap (λ b. if b then Some n else None) past

pub small_small : (n : ℕ) → n < 2 ^ 32 → small n ≡ Some n
small_small n lt = let within : nat_lt n (2 ^ 32) ≡ true = grind (arith, common_steps) in ap (λ b. if b then Some n else None) within

-- a number and one more digit
number_step : (base number : ℕ) (text : List ℕ) (at : ℕ) → at < length text → number_after base number (drop at text) ≡ number_after base (number * base + value_of_digit (get_or text at 0)) (drop (suc at) text)
number_step base number [] at within = absurd (omega arith)
number_step base number (code ∷ text) zero within = refl
number_step base number (code ∷ text) (suc at) within = number_step base number text at (omega arith)

-- once a number is too large, it stays so
pub grown : (base number : ℕ) (text : List ℕ) (at digit all : ℕ) → 0 < base → at < length text → number_after base number (drop at text) ≡ all → digit ≡ value_of_digit (get_or text at 0) →
    2 ^ 32 ≤ number * base + digit → small all ≡ None
grown base number text at digit all some within so_far is le =
    let step : number_after base (number * base + digit) (drop (suc at) text) ≡ all = ap (λ d. number_after base (number * base + d) (drop (suc at) text)) is ∙ sym (number_step base number text at within) ∙ so_far in
    let grows : number * base + digit ≤ number_after base (number * base + digit) (drop (suc at) text) = number_after_least base (number * base + digit) (drop (suc at) text) some in
    small_large all (omega (arith, step, grows, le))

abs_neg : (n : ℕ) → nat_abs (neg_ℤ (pos n)) ≡ n
abs_neg zero = refl
abs_neg (suc n) = refl

-- the number with a sign, by its magnitude
pub bounded_negative : (n : ℕ) → bounded (neg_ℤ (pos n)) ≡ (if nat_lt n (2 ^ 32) then Some (neg_ℤ (pos n)) else None)
bounded_negative n = ap (λ m. if nat_lt m (2 ^ 32) then Some (neg_ℤ (pos n)) else None) (abs_neg n)
