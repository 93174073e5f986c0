-- The handler's arithmetic on Cause, and words of which two fields are set.
use Rattle.std.proofs.Common.{◌≡◌, ◌+◌, ◌-◌, ◌*◌, ◌/◌, ◌%◌, ◌^◌, ◌∙◌, ℕ, refl, ap, sym, arith}
use Rattle.std.specs.Prelude.{bit_and, bit_or, min, max, nat_lt}
use Rattle.std.specs.Int.{bit_at}
use Rattle.std.proofs.lemmas.Bool.{cond_both}
use Rattle.std.proofs.lemmas.Nat.{and_comm, and_assoc, or_comm}
use Rattle.std.proofs.lemmas.Nat.Bits.{and_high, bit_at_and, bit_at_or, same_from_bits}
use Rattle.r4_words.specs.Words.{sext32}
use Rattle.cp0_regs.specs.Bits.{merged, all_bits, field}

-- ---- andi k0,k0,0x7c

low_same : (word : ℕ) → sext32 word / 2 ^ 2 % 2 ^ 5 ≡ word / 2 ^ 2 % 2 ^ 5
low_same word = cond_both (nat_lt word (2 ^ 31)) word (word + (2 ^ 64 - 2 ^ 32)) (λ n. n / 2 ^ 2 % 2 ^ 5 ≡ word / 2 ^ 2 % 2 ^ 5) (λ _. refl) (λ _. omega arith)

pub code_of_cause : (word : ℕ) → bit_and (sext32 word) 0x7c ≡ field word 6 2 * 4
code_of_cause word = and_high (sext32 word) 5 2 ∙ ap (λ n. n * 2 ^ 2) (low_same word)

-- ---- words of which two fields are set

max_comm : (a b : ℕ) → max a b ≡ max b a
max_comm a b = omega arith

spread : (a b m : ℕ) → bit_and (bit_or a b) m ≡ bit_or (bit_and a m) (bit_and b m)
spread a b m =
    same_from_bits _ _
    (λ i. bit_at_and (bit_or a b) m i ∙ ap (λ n. min n (bit_at m i)) (bit_at_or a b i) ∙ mixed (bit_at a i) (bit_at b i) (bit_at m i)
    ∙ sym (bit_at_or (bit_and a m) (bit_and b m) i ∙ ap (λ n. max n (bit_at (bit_and b m) i)) (bit_at_and a m i) ∙ ap (λ n. max (min (bit_at a i) (bit_at m i)) n) (bit_at_and b m i)))
  where
    mixed : (a b m : ℕ) → min (max a b) m ≡ max (min a m) (min b m)
    mixed a b m = omega arith

or_swap : (a b c : ℕ) → bit_or (bit_or a b) c ≡ bit_or (bit_or a c) b
or_swap a b c =
    same_from_bits _ _
    (λ i. bit_at_or (bit_or a b) c i ∙ ap (λ n. max n (bit_at c i)) (bit_at_or a b i) ∙ mixed (bit_at a i) (bit_at b i) (bit_at c i)
    ∙ sym (bit_at_or (bit_or a c) b i ∙ ap (λ n. max n (bit_at b i)) (bit_at_or a c i)))
  where
    mixed : (a b c : ℕ) → max (max a b) c ≡ max (max a c) b
    mixed a b c = omega arith

-- masks that share no bit: each lies in the bits that the other leaves
pub record AreApart (m n : ℕ) : Type 0 where
  pub first : bit_and m (all_bits - n) ≡ m
  pub second : bit_and n (all_bits - m) ≡ n

one_way : (m n word a b : ℕ) → AreApart m n → merged m (merged n word b) a ≡ bit_or (bit_or (bit_and word (bit_and (all_bits - n) (all_bits - m))) (bit_and b n)) (bit_and a m)
one_way m n word a b apart =
    ap (λ w. bit_or w (bit_and a m))
    (spread (bit_and word (all_bits - n)) (bit_and b n) (all_bits - m)
    ∙ ap (λ w. bit_or w (bit_and (bit_and b n) (all_bits - m))) (and_assoc (all_bits - m) word (all_bits - n))
    ∙ ap (λ w. bit_or (bit_and word (bit_and (all_bits - n) (all_bits - m))) w) (and_assoc (all_bits - m) b n ∙ ap (bit_and b) apart.second))

pub merged_apart : (m n word a b : ℕ) → AreApart m n → merged m (merged n word b) a ≡ merged n (merged m word a) b
merged_apart m n word a b apart =
    one_way m n word a b apart
    ∙ or_swap (bit_and word (bit_and (all_bits - n) (all_bits - m))) (bit_and b n) (bit_and a m)
    ∙ ap (λ w. bit_or (bit_or (bit_and word w) (bit_and a m)) (bit_and b n)) (and_comm (all_bits - n) (all_bits - m))
    ∙ sym (one_way n m word b a (record { first = apart.second; second = apart.first }))

-- ExcCode and the lines of the devices, ExcCode and the timer, BD and these
pub code_and_lines : AreApart 0x7c 0x7c00
code_and_lines = record { first = refl; second = refl }

pub code_and_timer : AreApart 0x7c 0x8000
code_and_timer = record { first = refl; second = refl }

-- ---- EXL set and cleared

pub cleared_again : (word : ℕ) → bit_and word (all_bits - 2) ≡ word → merged 2 (merged 2 word 2) 0 ≡ word
cleared_again word clear =
    ap (λ w. bit_or w 0) (spread (bit_and word (all_bits - 2)) 2 (all_bits - 2) ∙ ap (λ w. bit_or w 0) (and_assoc (all_bits - 2) word (all_bits - 2) ∙ clear))
    ∙ or_comm (bit_or word 0) 0 ∙ or_comm word 0

-- ---- a field beside another

-- the bits of ExcCode in a word of which others were set
pub record IsBeside (m : ℕ) : Type 0 where
  pub kept : bit_and (all_bits - m) 0x7c ≡ 0x7c
  pub none : bit_and m 0x7c ≡ 0

beside_bits : (m word v : ℕ) → IsBeside m → bit_and (merged m word v) 0x7c ≡ bit_and word 0x7c
beside_bits m word v beside =
    spread (bit_and word (all_bits - m)) (bit_and v m) 0x7c
    ∙ ap (λ w. bit_or w (bit_and (bit_and v m) 0x7c)) (and_assoc 0x7c word (all_bits - m) ∙ ap (bit_and word) beside.kept)
    ∙ ap (λ w. bit_or (bit_and word 0x7c) w) (and_assoc 0x7c v m ∙ ap (bit_and v) beside.none ∙ and_comm v 0)
    ∙ or_comm (bit_and word 0x7c) 0

pub code_beside : (m word v : ℕ) → IsBeside m → field (merged m word v) 6 2 ≡ field word 6 2
code_beside m word v beside =
    let one : bit_and (merged m word v) 0x7c ≡ (merged m word v / 2 ^ 2 % 2 ^ 5) * 2 ^ 2 = and_high (merged m word v) 5 2 in
    let other : bit_and word 0x7c ≡ (word / 2 ^ 2 % 2 ^ 5) * 2 ^ 2 = and_high word 5 2 in
    let same = beside_bits m word v beside in
    omega (arith, one, other, same)

pub lines_beside : IsBeside 0x7c00
lines_beside = record { kept = refl; none = refl }

pub timer_beside : IsBeside 0x8000
timer_beside = record { kept = refl; none = refl }

-- ---- the same bits set twice

pub set_twice : (m word v : ℕ) → bit_and (all_bits - m) (all_bits - m) ≡ all_bits - m → bit_and m (all_bits - m) ≡ 0 → merged m (merged m word v) v ≡ merged m word v
set_twice m word v own none =
    ap (λ w. bit_or w (bit_and v m))
    (spread (bit_and word (all_bits - m)) (bit_and v m) (all_bits - m)
    ∙ ap (λ w. bit_or w (bit_and (bit_and v m) (all_bits - m))) (and_assoc (all_bits - m) word (all_bits - m) ∙ ap (bit_and word) own)
    ∙ ap (λ w. bit_or (bit_and word (all_bits - m)) w) (and_assoc (all_bits - m) v m ∙ ap (bit_and v) none ∙ and_comm v 0)
    ∙ or_comm (bit_and word (all_bits - m)) 0)
