-- The first name of a table that a text is.
use Rattle.std.proofs.Common.{◌≡◌, ◌<◌, ℕ, Bool, true, false, cond, List, [], length, Some, None, slice_index_or, nat_lt, refl, ap, ◌∙◌, arith, lt-ltb, bytes_eq}
use Rattle.std.specs.List.{position, position_or_len}
use Rattle.std.proofs.lemmas.List.Sums.{position_or_len_is}
use Rattle.std.proofs.lemmas.Grind.{common_steps}
use Rattle.mips_text.specs.Names.{register_names, register_name, cp0_names, cp0_name}

position_here : {X : Type 0} (p : X → Bool) (names : List X) (none : X) (i : ℕ) → i < length names → ((k : ℕ) → k < i → p (slice_index_or names k none) ≡ false) → p (slice_index_or names i none) ≡ true →
    position p names ≡ Some i
position_here p names none i within before here =
    let is : position_or_len p names ≡ i = position_or_len_is p names i none (omega arith) before (λ lt. here) in
    ap (λ n. cond (nat_lt n (length names)) (Some n) None) is ∙ ap (λ b. cond b (Some i) None) (lt-ltb _ _ within)

position_nowhere : {X : Type 0} (p : X → Bool) (names : List X) (none : X) (count : ℕ) → length names ≡ count → ((k : ℕ) → k < count → p (slice_index_or names k none) ≡ false) → position p names ≡ None
position_nowhere p names none count long before =
    let is : position_or_len p names ≡ count = position_or_len_is p names count none (omega arith) before (λ lt. absurd (omega arith)) in
    let past : nat_lt count (length names) ≡ false = grind (arith, common_steps) in
    ap (λ n. cond (nat_lt n (length names)) (Some n) None) is ∙ ap (λ b. cond b (Some count) None) past

pub register_count : length register_names ≡ 32
unfolding register_names
register_count = refl

pub cp0_count : length cp0_names ≡ 32
unfolding cp0_names
cp0_count = refl

pub register_here : (text : List ℕ) (i : ℕ) → i < 32 → ((k : ℕ) → k < i → bytes_eq text (register_name k) ≡ false) → bytes_eq text (register_name i) ≡ true → position (bytes_eq text) register_names ≡ Some i
unfolding register_name
register_here text i lt before here = let within : i < length register_names = rw register_count lt in position_here (bytes_eq text) register_names [] i within before here

pub register_nowhere : (text : List ℕ) → ((k : ℕ) → k < 32 → bytes_eq text (register_name k) ≡ false) → position (bytes_eq text) register_names ≡ None
unfolding register_name
register_nowhere text before = position_nowhere (bytes_eq text) register_names [] 32 register_count before

pub cp0_here : (text : List ℕ) (i : ℕ) → i < 32 → ((k : ℕ) → k < i → bytes_eq text (cp0_name k) ≡ false) → bytes_eq text (cp0_name i) ≡ true → position (bytes_eq text) cp0_names ≡ Some i
unfolding cp0_name
cp0_here text i lt before here = let within : i < length cp0_names = rw cp0_count lt in position_here (bytes_eq text) cp0_names [] i within before here

pub cp0_nowhere : (text : List ℕ) → ((k : ℕ) → k < 32 → bytes_eq text (cp0_name k) ≡ false) → position (bytes_eq text) cp0_names ≡ None
unfolding cp0_name
cp0_nowhere text before = position_nowhere (bytes_eq text) cp0_names [] 32 cp0_count before
