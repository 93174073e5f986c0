-- The place of a number in a page, by a mask: the size of a page is a power of two.
use Rattle.std.proofs.Common.{◌≡◌, sym, subst, ℕ, ◌+◌, ◌-◌, ◌*◌, ◌/◌, ◌%◌, ◌^◌, ◌≤◌, Bool, true, false, inl, inr, arith}
use Rattle.std.specs.Prelude.{bit_and, nat_le, ◌==◌, ◌||◌}
use Rattle.std.proofs.lemmas.Bool.{cases_Bool, eqb-true, eq-eqb, leb-true, le-leb}
use Rattle.std.specs.Cmp.{both_ways as same}
use Rattle.std.proofs.lemmas.Nat.{and_mask}
use Rattle.cp0_regs.specs.PageMasks.{IsMask}

one_or_rest : (P : ℕ → Type 0) (number first : ℕ) (rest : Bool) → ((number == first) || rest) ≡ true → P first → (rest ≡ true → P number) → P number
one_or_rest P number first rest one here there = elim (cases_Bool (number == first)) [
  | inl same ↦ subst P (sym (eqb-true number first same)) here
  | inr other ↦ there (subst (λ b. (b || rest) ≡ true) other one)
]

-- what holds of each mask holds of a mask
each : (P : ℕ → Type 0) → P 0x01ffe000 → P 0x007fe000 → P 0x001fe000 → P 0x0007e000 → P 0x0001e000 → P 0x00006000 → P 0 → (mask : ℕ) → IsMask mask → P mask
each P m16 m4 m1 k256 k64 k16 k4 mask is =
    one_or_rest P mask 0x01ffe000 _ is.is m16 (λ not_m16.
    one_or_rest P mask 0x007fe000 _ not_m16 m4 (λ not_m4.
    one_or_rest P mask 0x001fe000 _ not_m4 m1 (λ not_m1.
    one_or_rest P mask 0x0007e000 _ not_m1 k256 (λ not_k256.
    one_or_rest P mask 0x0001e000 _ not_k256 k64 (λ not_k64.
    one_or_rest P mask 0x00006000 _ not_k64 k16 (λ not_k16.
    one_or_rest P mask 0 false not_k16 k4 (λ none. absurd cc)))))))

abbrev Offset : ℕ → ℕ → Type 0
Offset n mask = bit_and n ((mask + 0x2000) / 2 - 1) ≡ n % ((mask + 2 ^ 13) / 2)

abbrev Start : ℕ → ℕ → Type 0
Start n mask = n - n % ((mask + 2 ^ 13) / 2) ≡ n / ((mask + 2 ^ 13) / 2) * ((mask + 2 ^ 13) / 2)

-- the place of a number in its page
pub offset_is : (mask n : ℕ) → IsMask mask → bit_and n ((mask + 0x2000) / 2 - 1) ≡ n % ((mask + 2 ^ 13) / 2)
offset_is mask n is = each (Offset n) (and_mask n 24) (and_mask n 22) (and_mask n 20) (and_mask n 18) (and_mask n 16) (and_mask n 14) (and_mask n 12) mask is

-- the start of its page
pub start_is : (mask n : ℕ) → IsMask mask → n - n % ((mask + 2 ^ 13) / 2) ≡ n / ((mask + 2 ^ 13) / 2) * ((mask + 2 ^ 13) / 2)
start_is mask n is = each (Start n) (omega arith) (omega arith) (omega arith) (omega arith) (omega arith) (omega arith) (omega arith) mask is

odd_where : (size number within : ℕ) → (size ≤ within → number / size % 2 ≡ 1) → (number / size % 2 ≡ 1 → size ≤ within) → nat_le size within ≡ (number / size % 2 == 1)
odd_where size number within there back =
    same (nat_le size within) (number / size % 2 == 1) (λ le. eq-eqb _ _ (there (leb-true _ _ le))) (λ odd. le-leb _ _ (back (eqb-true _ _ odd)))

abbrev Odd : ℕ → ℕ → Type 0
Odd n mask = nat_le ((mask + 2 ^ 13) / 2) (bit_and n (mask + 0x1fff)) ≡ (n / ((mask + 2 ^ 13) / 2) % 2 == 1)

-- a number is in the odd page of a pair where its place in the pair is past the even one
pub odd_is : (mask n : ℕ) → IsMask mask → nat_le ((mask + 2 ^ 13) / 2) (bit_and n (mask + 0x1fff)) ≡ (n / ((mask + 2 ^ 13) / 2) % 2 == 1)
odd_is mask n is = each (Odd n)
    (odd_where (2 ^ 24) n _ (λ le. omega (arith, le, and_mask n 25)) (λ odd. omega (arith, odd, and_mask n 25)))
    (odd_where (2 ^ 22) n _ (λ le. omega (arith, le, and_mask n 23)) (λ odd. omega (arith, odd, and_mask n 23)))
    (odd_where (2 ^ 20) n _ (λ le. omega (arith, le, and_mask n 21)) (λ odd. omega (arith, odd, and_mask n 21)))
    (odd_where (2 ^ 18) n _ (λ le. omega (arith, le, and_mask n 19)) (λ odd. omega (arith, odd, and_mask n 19)))
    (odd_where (2 ^ 16) n _ (λ le. omega (arith, le, and_mask n 17)) (λ odd. omega (arith, odd, and_mask n 17)))
    (odd_where (2 ^ 14) n _ (λ le. omega (arith, le, and_mask n 15)) (λ odd. omega (arith, odd, and_mask n 15)))
    (odd_where (2 ^ 12) n _ (λ le. omega (arith, le, and_mask n 13)) (λ odd. omega (arith, odd, and_mask n 13)))
    mask is
