-- The tables of the digits of a number, two at a time.
use Rattle.std.proofs.Common.{◌≡◌, ℕ, zero, suc, ◌+◌, ◌-◌, ◌*◌, ◌/◌, ◌%◌, ◌<◌, Bool, true, ◌&&◌, T, eqb, get_or, inl, inr, arith, eq-zero-or-pos, eqb→eq}
use lib.Ieee.Fits.{and_l, and_r}
use Rattle.r4_words.specs.Texts.{digit_of}
use Rattle.access_trace.specs.declared.pairs.TheConstants.{HEX_PAIRS, DEC_PAIRS}

abbrev are_hex_pairs : ℕ → Bool
are_hex_pairs zero = true
are_hex_pairs (suc n) = (eqb (get_or HEX_PAIRS (n * 2) 0) (digit_of (n / 16)) && eqb (get_or HEX_PAIRS (n * 2 + 1) 0) (digit_of (n % 16))) && are_hex_pairs n

hex_below : (count n : ℕ) → T (are_hex_pairs count) → n < count → (get_or HEX_PAIRS (n * 2) 0 ≡ digit_of (n / 16)) × (get_or HEX_PAIRS (n * 2 + 1) 0 ≡ digit_of (n % 16))
hex_below zero n is lt = absurd (omega arith)
hex_below (suc count) n is lt =
    elim (eq-zero-or-pos (count - n)) [
      | inl none ↦ let last : n ≡ count = omega arith in let pair = and_l _ (are_hex_pairs count) is in rw last (eqb→eq _ _ (and_l _ _ pair), eqb→eq _ _ (and_r _ _ pair))
      | inr some ↦ hex_below count n (and_r _ (are_hex_pairs count) is) (omega arith)
    ]

abbrev are_dec_pairs : ℕ → Bool
are_dec_pairs zero = true
are_dec_pairs (suc n) = (eqb (get_or DEC_PAIRS (n * 2) 0) (digit_of (n / 10)) && eqb (get_or DEC_PAIRS (n * 2 + 1) 0) (digit_of (n % 10))) && are_dec_pairs n

dec_below : (count n : ℕ) → T (are_dec_pairs count) → n < count → (get_or DEC_PAIRS (n * 2) 0 ≡ digit_of (n / 10)) × (get_or DEC_PAIRS (n * 2 + 1) 0 ≡ digit_of (n % 10))
dec_below zero n is lt = absurd (omega arith)
dec_below (suc count) n is lt =
    elim (eq-zero-or-pos (count - n)) [
      | inl none ↦ let last : n ≡ count = omega arith in let pair = and_l _ (are_dec_pairs count) is in rw last (eqb→eq _ _ (and_l _ _ pair), eqb→eq _ _ (and_r _ _ pair))
      | inr some ↦ dec_below count n (and_r _ (are_dec_pairs count) is) (omega arith)
    ]

-- the two digits of a byte, and of a number below 100
pub hex_pair_at : (n : ℕ) → n < 256 → (get_or HEX_PAIRS (n * 2) 0 ≡ digit_of (n / 16)) × (get_or HEX_PAIRS (n * 2 + 1) 0 ≡ digit_of (n % 16))
hex_pair_at n lt = hex_below 256 n tt lt

pub dec_pair_at : (n : ℕ) → n < 100 → (get_or DEC_PAIRS (n * 2) 0 ≡ digit_of (n / 10)) × (get_or DEC_PAIRS (n * 2 + 1) 0 ≡ digit_of (n % 10))
dec_pair_at n lt = dec_below 100 n tt lt
