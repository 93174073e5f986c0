-- The lines of a listing, one after another.
use Rattle.std.proofs.Common.{◌≡◌, ◌<◌, ◌≤◌, ◌+◌, ◌*◌, ℕ, zero, suc, List, [], ◌∷◌, ◌++◌, take, length, slice_index, refl, sym, ap, ◌∙◌, arith, append_assoc, append-nil}
use Rattle.std.specs.List.{flat_map}
use Rattle.std.proofs.lemmas.Grind.{flat_map-append}
use Rattle.flat_ram.specs.Bytes.{word_at}
use Rattle.elf_image.specs.Header.{table_of, count_of, segment_at, headers_from}
use Rattle.elf_image.proofs.Table.{more_headers}
use Rattle.image_listing.specs.Listing.{word_line, word_lines, segment_lines, listing_of}

-- the first four bytes and so many of the rest
take_past_word : (a b c d : ℕ) (rest : List ℕ) (count n : ℕ) → count ≡ 4 + n → take count (a ∷ b ∷ c ∷ d ∷ rest) ≡ a ∷ b ∷ c ∷ d ∷ take n rest
take_past_word a b c d rest zero n is = absurd (omega arith)
take_past_word a b c d rest (suc zero) n is = absurd (omega arith)
take_past_word a b c d rest (suc (suc zero)) n is = absurd (omega arith)
take_past_word a b c d rest (suc (suc (suc zero))) n is = absurd (omega arith)
take_past_word a b c d rest (suc (suc (suc (suc count)))) n is = let same : count ≡ n = omega arith in ap (λ k. a ∷ b ∷ c ∷ d ∷ take k rest) same

index_past_word : (a b c d : ℕ) (rest : List ℕ) (at n : ℕ) → at ≡ 4 + n → slice_index (a ∷ b ∷ c ∷ d ∷ rest) at ≡ slice_index rest n
index_past_word a b c d rest zero n is = absurd (omega arith)
index_past_word a b c d rest (suc zero) n is = absurd (omega arith)
index_past_word a b c d rest (suc (suc zero)) n is = absurd (omega arith)
index_past_word a b c d rest (suc (suc (suc zero))) n is = absurd (omega arith)
index_past_word a b c d rest (suc (suc (suc (suc at)))) n is = let same : at ≡ n = omega arith in ap (slice_index rest) same

word_past_word : (a b c d : ℕ) (rest : List ℕ) (at n : ℕ) → at ≡ 4 + n → word_at (a ∷ b ∷ c ∷ d ∷ rest) at ≡ word_at rest n
word_past_word a b c d rest at n is =
    let bytes = a ∷ b ∷ c ∷ d ∷ rest in
    let first : slice_index bytes at ≡ slice_index rest n = index_past_word a b c d rest at n is in
    let second : slice_index bytes (at + 1) ≡ slice_index rest (n + 1) = index_past_word a b c d rest (at + 1) (n + 1) (omega arith) in
    let third : slice_index bytes (at + 2) ≡ slice_index rest (n + 2) = index_past_word a b c d rest (at + 2) (n + 2) (omega arith) in
    let fourth : slice_index bytes (at + 3) ≡ slice_index rest (n + 3) = index_past_word a b c d rest (at + 3) (n + 3) (omega arith) in
    rw (first, second, third, fourth) refl

-- the lines of the words up to one more
pub word_lines_more : (address : ℕ) (bytes : List ℕ) (n : ℕ) → 4 * n + 4 ≤ length bytes →
    word_lines address (take (4 * (n + 1)) bytes) ≡ word_lines address (take (4 * n) bytes) ++ word_line (address + 4 * n) (word_at bytes (4 * n))
word_lines_more address (a ∷ b ∷ c ∷ d ∷ rest) zero le =
    let word = word_at (a ∷ b ∷ c ∷ d ∷ []) 0 in
    append-nil (word_line address word) ∙ ap (λ at. word_line at word) (omega arith)
word_lines_more address (a ∷ b ∷ c ∷ d ∷ rest) (suc n) le =
    let first = word_line address (word_at (a ∷ b ∷ c ∷ d ∷ []) 0) in
    let last = word_line (address + 4 + 4 * n) (word_at rest (4 * n)) in
    let place : address + 4 + 4 * n ≡ address + 4 * suc n = omega arith in
    ap (word_lines address) (take_past_word a b c d rest (4 * (suc n + 1)) (4 * (n + 1)) (omega arith))
    ∙ ap (λ more. first ++ more) (word_lines_more (address + 4) rest n (omega arith))
    ∙ sym (append_assoc first (word_lines (address + 4) (take (4 * n) rest)) last)
    ∙ ap (λ front. word_lines address front ++ last) (sym (take_past_word a b c d rest (4 * suc n) (4 * n) (omega arith)))
    ∙ ap (λ line. word_lines address (take (4 * suc n) (a ∷ b ∷ c ∷ d ∷ rest)) ++ line)
    (ap (λ at. word_line at (word_at rest (4 * n))) place ∙ ap (word_line (address + 4 * suc n)) (sym (word_past_word a b c d rest (4 * suc n) (4 * n) (omega arith))))
word_lines_more address rest n le = absurd (omega arith)

-- a rest below four bytes has no line
pub word_lines_end : (address : ℕ) (bytes : List ℕ) (n : ℕ) → 4 * n ≤ length bytes → length bytes < 4 * n + 4 → word_lines address (take (4 * n) bytes) ≡ word_lines address bytes
word_lines_end address (a ∷ b ∷ c ∷ d ∷ rest) zero le lt = absurd (omega arith)
word_lines_end address (a ∷ b ∷ c ∷ d ∷ rest) (suc n) le lt =
    ap (word_lines address) (take_past_word a b c d rest (4 * suc n) (4 * n) (omega arith))
    ∙ ap (λ more. word_line address (word_at (a ∷ b ∷ c ∷ d ∷ []) 0) ++ more) (word_lines_end (address + 4) rest n (omega arith) (omega arith))
word_lines_end address rest zero le lt = refl
word_lines_end address rest (suc n) le lt = absurd (omega arith)

-- the offsets of the headers up to one more
headers_more : (at n : ℕ) → headers_from at (n + 1) ≡ headers_from at n ++ (at + 32 * n) ∷ []
unfolding headers_from
headers_more at zero = ap (λ last. last ∷ []) (omega arith)
headers_more at (suc n) =
    let place : at + 32 + 32 * n ≡ at + 32 * suc n = omega arith in
    more_headers at (suc n + 1) (at + 32) (n + 1) refl (omega arith)
    ∙ ap (λ headers. at ∷ headers) (headers_more (at + 32) n)
    ∙ ap (λ last. at ∷ (headers_from (at + 32) n ++ last ∷ [])) place

-- the lines of the first so many segments of a file
abbrev pub first_segments : List ℕ → ℕ → List ℕ
first_segments file n = flat_map (λ header. segment_lines file (segment_at file header)) (headers_from (table_of file) n)

pub first_segments_none : (file : List ℕ) → first_segments file 0 ≡ []
unfolding headers_from
first_segments_none file = refl

pub first_segments_more : (file : List ℕ) (n : ℕ) → first_segments file (n + 1) ≡ first_segments file n ++ segment_lines file (segment_at file (table_of file + 32 * n))
first_segments_more file n =
    let lines : ℕ → List ℕ = λ header. segment_lines file (segment_at file header) in
    let last = table_of file + 32 * n in
    ap (flat_map lines) (headers_more (table_of file) n)
    ∙ flat_map-append lines (headers_from (table_of file) n) (last ∷ [])
    ∙ ap (λ line. first_segments file n ++ line) (append-nil (lines last))

pub first_segments_all : (file : List ℕ) (n : ℕ) → n ≡ count_of file → first_segments file n ≡ listing_of file
unfolding listing_of
first_segments_all file n is = ap (first_segments file) is
