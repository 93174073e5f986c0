-- A list of bytes after some of them were replaced.
use Rattle.std.proofs.Common.{◌≡◌, ◌+◌, ◌-◌, ◌*◌, ◌/◌, ◌%◌, ◌^◌, ◌<◌, ◌≤◌, ℕ, List, ◌++◌, length, take, drop, get_or, refl, add-zero, sym, ap, ◌∙◌, arith, length-append, append_assoc}
use Rattle.std.proofs.lemmas.List.{take_at, drop_at, drop-drop, length-take-le}
use Rattle.std.proofs.lemmas.Grind.{common_steps}
use Rattle.flat_ram.specs.Bytes.{put_bytes, zeros_of, word_at, bytes_of}

-- at a replaced place stands the new byte
pub put_inside : (all bytes : List ℕ) (at i : ℕ) → at + length bytes ≤ length all → at ≤ i → i < at + length bytes → get_or (put_bytes all at bytes) i 0 ≡ get_or bytes (i - at) 0
put_inside all bytes at i fits low high = grind (arith, common_steps)

-- before the replaced places, and after them, stand the old bytes
pub put_before : (all bytes : List ℕ) (at i : ℕ) → at + length bytes ≤ length all → i < at → get_or (put_bytes all at bytes) i 0 ≡ get_or all i 0
put_before all bytes at i fits low = grind (arith, common_steps)

pub put_after : (all bytes : List ℕ) (at i : ℕ) → at + length bytes ≤ length all → at + length bytes ≤ i → get_or (put_bytes all at bytes) i 0 ≡ get_or all i 0
put_after all bytes at i fits high = grind (arith, common_steps)

-- the list keeps its length
pub length_put : (all bytes : List ℕ) (at : ℕ) → at + length bytes ≤ length all → length (put_bytes all at bytes) ≡ length all
length_put all bytes at fits = grind (arith, common_steps)

pub length_zeros_of : (count : ℕ) → length (zeros_of count) ≡ count
unfolding zeros_of
length_zeros_of count = grind (arith, common_steps)

-- each of them is zero
pub zero_at : (count i : ℕ) → get_or (zeros_of count) i 0 ≡ 0
unfolding zeros_of
zero_at count i = grind (arith, common_steps)

two_pieces : (front ys rest : List ℕ) (end : ℕ) → length front ≡ end → put_bytes (front ++ rest) end ys ≡ front ++ (ys ++ drop (length ys) rest)
two_pieces front ys rest end long =
    ap (λ f. f ++ (ys ++ drop (end + length ys) (front ++ rest))) (take_at front rest end long)
    ∙ ap (λ r. front ++ (ys ++ r)) (sym (drop-drop (length ys) end (front ++ rest)))
    ∙ ap (λ r. front ++ (ys ++ drop (length ys) r)) (drop_at front rest end long)

-- bytes that are put one piece after the other
pub put_twice : (all xs ys : List ℕ) (at end : ℕ) → end ≡ at + length xs → end + length ys ≤ length all → put_bytes (put_bytes all at xs) end ys ≡ put_bytes all at (xs ++ ys)
put_twice all xs ys at end is fits =
    let long : length (take at all ++ xs) ≡ end = length-append (take at all) xs ∙ ap (λ n. n + length xs) (length-take-le at all (omega arith)) ∙ sym is in
    let pieces : put_bytes all at xs ≡ (take at all ++ xs) ++ drop end all = ap (λ n. take at all ++ (xs ++ drop n all)) (sym is) ∙ sym (append_assoc (take at all) xs (drop end all)) in
    let last : end + length ys ≡ at + length (xs ++ ys) = omega (arith, length-append xs ys) in
    ap (λ l. put_bytes l end ys) pieces
    ∙ two_pieces (take at all ++ xs) ys (drop end all) end long
    ∙ ap (λ r. (take at all ++ xs) ++ (ys ++ r)) (drop-drop (length ys) end all ∙ ap (λ n. drop n all) last)
    ∙ append_assoc (take at all) xs (ys ++ drop (at + length (xs ++ ys)) all)
    ∙ ap (λ r. take at all ++ r) (sym (append_assoc xs ys (drop (at + length (xs ++ ys)) all)))

-- a word that was put stands there
put_byte : (all bytes : List ℕ) (at k byte : ℕ) → at + length bytes ≤ length all → k < length bytes → get_or bytes k 0 ≡ byte → get_or (put_bytes all at bytes) (at + k) 0 ≡ byte
put_byte all bytes at k byte fits here is =
    let same : at + k - at ≡ k = omega arith in
    put_inside all bytes at (at + k) fits (omega arith) (omega arith) ∙ ap (λ i. get_or bytes i 0) same ∙ is

word_back : (word : ℕ) → word < 2 ^ 32 → word / 2 ^ 24 % 256 * 2 ^ 24 + word / 2 ^ 16 % 256 * 2 ^ 16 + word / 2 ^ 8 % 256 * 2 ^ 8 + word % 256 ≡ word
word_back word lt = omega arith

pub word_put : (all : List ℕ) (at word : ℕ) → at + 4 ≤ length all → word < 2 ^ 32 → word_at (put_bytes all at (bytes_of word)) at ≡ word
word_put all at word fits lt =
    let high : get_or (put_bytes all at (bytes_of word)) at 0 ≡ word / 2 ^ 24 % 256 = ap (λ i. get_or (put_bytes all at (bytes_of word)) i 0) (sym (add-zero at)) ∙ put_byte all (bytes_of word) at 0 _ fits (omega arith) refl in
    let second : get_or (put_bytes all at (bytes_of word)) (at + 1) 0 ≡ word / 2 ^ 16 % 256 = put_byte all (bytes_of word) at 1 _ fits (omega arith) refl in
    let third : get_or (put_bytes all at (bytes_of word)) (at + 2) 0 ≡ word / 2 ^ 8 % 256 = put_byte all (bytes_of word) at 2 _ fits (omega arith) refl in
    let low : get_or (put_bytes all at (bytes_of word)) (at + 3) 0 ≡ word % 256 = put_byte all (bytes_of word) at 3 _ fits (omega arith) refl in
    rw (high, second, third, low) (word_back word lt)

-- a word before the replaced bytes, or after them, is the old one
pub word_before : (all bytes : List ℕ) (at i : ℕ) → at + length bytes ≤ length all → i + 4 ≤ at → word_at (put_bytes all at bytes) i ≡ word_at all i
word_before all bytes at i fits low =
    rw (put_before all bytes at i fits (omega arith), put_before all bytes at (i + 1) fits (omega arith), put_before all bytes at (i + 2) fits (omega arith), put_before all bytes at (i + 3) fits (omega arith)) refl

pub word_after : (all bytes : List ℕ) (at i : ℕ) → at + length bytes ≤ length all → at + length bytes ≤ i → word_at (put_bytes all at bytes) i ≡ word_at all i
word_after all bytes at i fits high =
    rw (put_after all bytes at i fits high, put_after all bytes at (i + 1) fits (omega arith), put_after all bytes at (i + 2) fits (omega arith), put_after all bytes at (i + 3) fits (omega arith)) refl
