-- What a name stands for is one of 32 registers.
use Rattle.std.proofs.Common.{◌≡◌, ◌<◌, ℕ, Bool, true, false, List, [], length, Option, Some, None, nat_lt, bytes_eq, codes, drop, slice_index, ◌==◌, if◌then◌else◌, refl, subst, arith, ltb-true}
use Rattle.std.specs.List.{position}
use Rattle.std.specs.Option.{option_or}
use Rattle.std.proofs.lemmas.List.Quantifiers.{position-Some}
use Rattle.mips_text.specs.Names.{register_names, register_of, cp0_names, cp0_register_of, below_32, numbered}
use Rattle.mips_text.proofs.Naming.{register_count, cp0_count}
use Rattle.r4_words.specs.Texts.{read_dec}

below_by : (found : Option ℕ) (register : ℕ) → below_32 found ≡ Some register → register < 32
below_by None register is = absurd (cc)
below_by (Some n) register is = by_test (nat_lt n 32) refl is
  where
    by_test : (b : Bool) → nat_lt n 32 ≡ b → (if b then Some n else None) ≡ Some register → register < 32
    by_test true lt same = (let is_small = ltb-true n 32 lt in let equal : n ≡ register = cc in subst (λ r. r < 32) equal is_small)
    by_test false lt same = absurd (cc)

numbered_by : (b : Bool) (found : Option ℕ) (register : ℕ) → (if b then below_32 found else None) ≡ Some register → register < 32
numbered_by true found register is = below_by found register is
numbered_by false found register is = absurd (cc)

either_below : (named other : Option ℕ) (register : ℕ) → ((r : ℕ) → named ≡ Some r → r < 32) → ((r : ℕ) → other ≡ Some r → r < 32) → option_or named other ≡ Some register → register < 32
either_below (Some r) other register one two is = one register is
either_below None other register one two is = two register is

listed_below : (names : List (List ℕ)) (text : List ℕ) (register : ℕ) → length names ≡ 32 → position (bytes_eq text) names ≡ Some register → register < 32
listed_below names text register count is =
    let within : register < length names = (position-Some (bytes_eq text) names register [] is).0 in
    omega (arith, count, within)

fp_or : (b : Bool) (found : Option ℕ) (register : ℕ) → ((r : ℕ) → found ≡ Some r → r < 32) → (if b then Some 30 else found) ≡ Some register → register < 32
fp_or true found register small is = (let same : 30 ≡ register = cc in omega (arith, same))
fp_or false found register small is = small register is

-- a general register
pub register_below : (text : List ℕ) (register : ℕ) → register_of text ≡ Some register → register < 32
unfolding register_of
register_below text register is =
    fp_or (bytes_eq text (codes "fp")) (option_or (position (bytes_eq text) register_names) (numbered 36 text)) register
    (λ r found. either_below (position (bytes_eq text) register_names) (numbered 36 text) r (λ q. listed_below register_names text q register_count)
    (λ q. numbered_by (slice_index text 0 == 36) (read_dec (drop 1 text)) q) found)
    is

-- a register of coprocessor 0
pub cp0_register_below : (text : List ℕ) (register : ℕ) → cp0_register_of text ≡ Some register → register < 32
unfolding cp0_register_of
cp0_register_below text register is =
    either_below (position (bytes_eq text) cp0_names) (numbered 99 text) register (λ q. listed_below cp0_names text q cp0_count)
    (λ q. numbered_by (slice_index text 0 == 99) (read_dec (drop 1 text)) q) is
