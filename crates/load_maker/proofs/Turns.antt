-- One turn more.
use Rattle.std.proofs.Common.{◌≡◌, ◌∙◌, ℕ, zero, suc, ◌+◌, List, [], ◌∷◌, ◌++◌, refl, ap, sym, arith, add-one, add-zero, append_assoc, length, ◌*◌}
use Rattle.std.specs.List.{flat_map, range_with_len}
use Rattle.std.proofs.lemmas.List.{append-nil}
use Rattle.std.proofs.lemmas.Grind.{flat_map-append}
use Rattle.load_maker.specs.Program.{first_words, next, turn, turns, x_at, word_bytes}

-- so many numbers from one on, and one number more
counted_more : (a n : ℕ) → range_with_len a (suc n) ≡ range_with_len a n ++ (a + n) ∷ []
counted_more a zero = ap (λ k. k ∷ []) (sym (add-zero a))
counted_more a (suc n) =
    ap (λ r. a ∷ r)
    (counted_more (a + 1) n ∙ ap (λ k. range_with_len (a + 1) n ++ k ∷ []) (let e : a + 1 + n ≡ a + suc n = omega arith in e))

-- the number of the next turn
pub x_more : (number n : ℕ) → x_at number (n + 1) ≡ next (x_at number n)
x_more number n = ap (x_at number) (add-one n)

-- the words of one turn more
turns_more : (number n : ℕ) → turns number (suc n) ≡ turns number n ++ turn (x_at number (suc n))
turns_more number n =
    ap (flat_map (λ i. turn (x_at number i))) (counted_more 1 n)
    ∙ flat_map-append (λ i. turn (x_at number i)) (range_with_len 1 n) ((1 + n) ∷ [])
    ∙ ap (λ words. turns number n ++ words)
    (append-nil (turn (x_at number (1 + n))) ∙ ap (λ i. turn (x_at number i)) (let e : 1 + n ≡ suc n = omega arith in e))

-- behind the words before the turns
pub turn_taken : (number n x : ℕ) (words : List ℕ) → words ≡ first_words ++ turns number n → x ≡ x_at number n →
    words ++ turn (next x) ≡ first_words ++ turns number (n + 1)
turn_taken number n x words are is =
    ap (λ w. w ++ turn (next x)) are
    ∙ append_assoc first_words (turns number n) (turn (next x))
    ∙ ap (λ w. first_words ++ w)
    (ap (λ y. turns number n ++ turn (next y)) is ∙ sym (turns_more number n) ∙ ap (turns number) (sym (add-one n)))

-- a turn has five words
pub length_turn : (x : ℕ) → length (turn x) ≡ 5
unfolding turn
length_turn x = refl

-- and a word has four bytes
pub length_word_bytes : (words : List ℕ) → length (word_bytes words) ≡ 4 * length words
length_word_bytes [] = refl
length_word_bytes (word ∷ words) = omega (arith, length_word_bytes words)
