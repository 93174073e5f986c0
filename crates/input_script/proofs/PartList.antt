-- The first of the parts that the bytes of a code separate.
use Rattle.std.proofs.Common.{◌≡◌, ◌+◌, ◌<◌, ◌≤◌, ◌==◌, ℕ, Bool, true, false, List, [], ◌∷◌, Some, None, length, take, drop, cond, nat_lt, refl, arith}
use Rattle.std.specs.List.{position, position_or_len}
use Rattle.std.proofs.lemmas.Bool.{ltb-true, ltb-false}
use Rattle.std.proofs.lemmas.List.Splits.{slice_split_none, slice_split_first}
use Rattle.std.proofs.lemmas.List.Sums.{fails_before_first}
use Rattle.input_script.specs.Grammar.{parts_of}

found_at : (b : Bool) (n at : ℕ) → cond b (Some n) None ≡ Some at → (b ≡ true) × (n ≡ at)
found_at true n at is = (refl, cc)
found_at false n at is = absurd (cc)

found_nowhere : (b : Bool) (n : ℕ) → cond b (Some n) None ≡ None → b ≡ false
found_nowhere true n is = absurd (cc)
found_nowhere false n is = refl

-- where the code stands first, the first part ends
pub parts_of_more : (code at : ℕ) (text : List ℕ) → position (λ byte. byte == code) text ≡ Some at → (at < length text) × (parts_of code text ≡ take at text ∷ parts_of code (drop (at + 1) text))
parts_of_more code at text is =
    let first = position_or_len (λ byte. byte == code) text in
    let found = found_at (nat_lt first (length text)) first at is in
    let within : first < length text = ltb-true _ _ found.0 in
    let same : first ≡ at = found.1 in
    (omega arith, rw (← same) (slice_split_first (λ byte. byte == code) text 0 within))

-- a text without the code is one part
pub parts_of_last : (code : ℕ) (text : List ℕ) → position (λ byte. byte == code) text ≡ None → parts_of code text ≡ text ∷ []
parts_of_last code text is =
    let first = position_or_len (λ byte. byte == code) text in
    let past : length text ≤ first = ltb-false _ _ (found_nowhere (nat_lt first (length text)) first is) in
    slice_split_none (λ byte. byte == code) text (λ k d lt. fails_before_first (λ byte. byte == code) text k d (omega arith))
