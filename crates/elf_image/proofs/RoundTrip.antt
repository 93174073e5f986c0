-- An image that was written is read, and gives the RAM its bytes.
use Rattle.std.proofs.Common.{◌≡◌, ◌==◌, ℕ, drop, sym, add-zero, if◌then◌else◌, ◌+◌, ◌-◌, ◌*◌, ◌/◌, ◌%◌, ◌^◌, ◌<◌, ◌≤◌, Bool, true, false, ◌&&◌, not, List, [], ◌∷◌, ◌++◌, length, take, refl, ap, ◌∙◌, append-nil, length-append, arith, None}
use Rattle.std.proofs.lemmas.List.{drop_at, take_all, take-append-drop}
use Rattle.std.proofs.lemmas.Bool.{le-leb, eqb-true}
use Rattle.flat_ram.specs.Bytes.{bytes_at, put_bytes, zeros_of}
use Rattle.flat_ram.specs.Unmapped.{physical}
use Rattle.elf_image.specs.declared.segments.Segment.{Segment}
use Rattle.elf_image.specs.Header.{segment_at, headers_from, headers_of, entry_of, table_of, header_size_of, count_of}
use Rattle.elf_image.specs.Rules.{image_fault, short_fault, magic_fault, class_fault, machine_fault, kind_fault, table_fault, range_fault, entry_fault, breaks_range, has_place, is_stored, is_in_range, can_enter}
use Rattle.elf_image.specs.Loading.{stored, stored_all, memory_of, loaded}
use Rattle.elf_image.specs.Written.{elf_header, program_header, image_of}
use Rattle.elf_image.proofs.Accepted.{none_broken}

-- the bytes of a word as a word
word_of : ℕ → ℕ
word_of word = word / 2 ^ 24 % 256 * 2 ^ 24 + word / 2 ^ 16 % 256 * 2 ^ 16 + word / 2 ^ 8 % 256 * 2 ^ 8 + word % 256

word_back : (word : ℕ) → word < 2 ^ 32 → word_of word ≡ word
unfolding word_of
word_back word lt = omega arith

-- the one segment of a written image
segment_of : ℕ → ℕ → Segment
segment_of base count = record { kind = 1; offset = 84; address = base; file_size = count; memory_size = count }

written_segment : (base entry : ℕ) (body : List ℕ) → segment_at (image_of base entry body) 52 ≡ record { kind = 1; offset = 84; address = word_of base; file_size = word_of (length body); memory_size = word_of (length body) }
unfolding image_of elf_header program_header word_of
written_segment base entry body = refl

written_headers : (base entry : ℕ) (body : List ℕ) → headers_of (image_of base entry body) ≡ 52 ∷ []
unfolding image_of elf_header program_header headers_from
written_headers base entry body = refl

written_entry : (base entry : ℕ) (body : List ℕ) → entry_of (image_of base entry body) ≡ word_of entry
unfolding image_of elf_header program_header word_of
written_entry base entry body = refl

segment_is : (base entry : ℕ) (body : List ℕ) → base < 2 ^ 32 → length body < 2 ^ 32 → segment_at (image_of base entry body) 52 ≡ segment_of base (length body)
unfolding segment_of
segment_is base entry body address size =
    written_segment base entry body
    ∙ ap (λ a. record { kind = 1; offset = 84; address = a; file_size = word_of (length body); memory_size = word_of (length body) }) (word_back base address)
    ∙ ap (λ n. record { kind = 1; offset = 84; address = base; file_size = n; memory_size = n }) (word_back (length body) size)

headers : ℕ → ℕ → ℕ → List ℕ
headers base entry count = elf_header entry ++ program_header base count

length_headers : (base entry count : ℕ) → length (headers base entry count) ≡ 84
unfolding headers elf_header program_header
length_headers base entry count = refl

image_is : (base entry : ℕ) (body : List ℕ) → image_of base entry body ≡ headers base entry (length body) ++ body
unfolding image_of headers
image_is base entry body = refl

pub length_image_of : (base entry : ℕ) (body : List ℕ) → length (image_of base entry body) ≡ 84 + length body
length_image_of base entry body =
    ap length (image_is base entry body) ∙ length-append (headers base entry (length body)) body ∙ ap (λ n. n + length body) (length_headers base entry (length body))

all_of : (front body : List ℕ) (count : ℕ) → length front ≡ count → bytes_at (front ++ body) count (length body) ≡ body
all_of front body count long = ap (take (length body)) (drop_at front body count long) ∙ take_all (length body) body (omega arith)

body_is : (base entry : ℕ) (body : List ℕ) → bytes_at (image_of base entry body) 84 (length body) ≡ body
body_is base entry body =
    ap (λ image. bytes_at image 84 (length body)) (image_is base entry body) ∙ all_of (headers base entry (length body)) body 84 (length_headers base entry (length body))

no_zeros : (count : ℕ) → zeros_of (count - count) ≡ []
unfolding zeros_of
no_zeros count = let none : count - count ≡ 0 = omega arith in ap zeros_of none

memory_is : (base entry : ℕ) (body : List ℕ) → memory_of (image_of base entry body) (segment_of base (length body)) ≡ body
unfolding segment_of
memory_is base entry body =
    ap (λ z. bytes_at (image_of base entry body) 84 (length body) ++ z) (no_zeros (length body)) ∙ append-nil (bytes_at (image_of base entry body) 84 (length body)) ∙ body_is base entry body

-- no bytes change nothing, wherever they are put
put_nothing : (ram : List ℕ) (at : ℕ) (bytes : List ℕ) → length bytes ≡ 0 → ram ≡ put_bytes ram at bytes
put_nothing ram at [] none = sym (ap (λ n. take at ram ++ drop n ram) (add-zero at) ∙ take-append-drop at ram)
put_nothing ram at (b ∷ bytes) none = absurd (omega arith)

-- so it does not matter that a segment without bytes is not stored
stored_or_empty : (count : ℕ) (empty : Bool) (ram : List ℕ) (at : ℕ) (bytes : List ℕ) → (count == 0) ≡ empty → length bytes ≡ count →
    (if not (empty && empty) then put_bytes ram at bytes else ram) ≡ put_bytes ram at bytes
stored_or_empty count true ram at bytes is long = put_nothing ram at bytes (long ∙ eqb-true count 0 is)
stored_or_empty count false ram at bytes is long = refl

stored_segment : (bytes ram body : List ℕ) (base count : ℕ) → memory_of bytes (segment_of base count) ≡ body → length body ≡ count →
    stored bytes ram (segment_of base count) ≡ put_bytes ram (physical base) body
unfolding stored segment_of
stored_segment bytes ram body base count is long =
    ap (λ memory. if not ((count == 0) && (count == 0)) then put_bytes ram (physical base) memory else ram) is
    ∙ stored_or_empty count (count == 0) ram (physical base) body refl long

loaded_by : (bytes ram : List ℕ) → headers_of bytes ≡ 52 ∷ [] → loaded bytes ram ≡ stored bytes ram (segment_at bytes 52)
unfolding loaded
loaded_by bytes ram one = ap (stored_all bytes ram) one

-- a written image gives the RAM its bytes
pub loaded_image_of : (base entry : ℕ) (body ram : List ℕ) → base < 2 ^ 32 → length body < 2 ^ 32 → loaded (image_of base entry body) ram ≡ put_bytes ram (physical base) body
loaded_image_of base entry body ram address size =
    loaded_by (image_of base entry body) ram (written_headers base entry body)
    ∙ ap (stored (image_of base entry body) ram) (segment_is base entry body address size)
    ∙ stored_segment (image_of base entry body) ram body base (length body) (memory_is base entry body) refl

-- the rules that a written image keeps whatever its base, its entry and its bytes are
short_kept : (base entry : ℕ) (body : List ℕ) → short_fault (image_of base entry body) ≡ None
unfolding short_fault
short_kept base entry body = rw (le-leb 52 (length (image_of base entry body)) (omega (arith, length_image_of base entry body))) refl

magic_kept : (base entry : ℕ) (body : List ℕ) → magic_fault (image_of base entry body) ≡ None
unfolding magic_fault image_of elf_header program_header
magic_kept base entry body = refl

class_kept : (base entry : ℕ) (body : List ℕ) → class_fault (image_of base entry body) ≡ None
unfolding class_fault image_of elf_header program_header
class_kept base entry body = refl

machine_kept : (base entry : ℕ) (body : List ℕ) → machine_fault (image_of base entry body) ≡ None
unfolding machine_fault image_of elf_header program_header
machine_kept base entry body = refl

kind_kept : (base entry : ℕ) (body : List ℕ) → kind_fault (image_of base entry body) ≡ None
unfolding kind_fault image_of elf_header program_header
kind_kept base entry body = refl

table_by : (bytes : List ℕ) → table_of bytes ≡ 52 → header_size_of bytes ≡ 32 → count_of bytes ≡ 1 → 84 ≤ length bytes → table_fault bytes ≡ None
unfolding table_fault
table_by bytes t s c long = rw (t, s, c, le-leb 84 (length bytes) long) refl

numbers_are : (base entry : ℕ) (body : List ℕ) → (table_of (image_of base entry body) ≡ 52) × (header_size_of (image_of base entry body) ≡ 32) × (count_of (image_of base entry body) ≡ 1)
unfolding image_of elf_header program_header
numbers_are base entry body = (refl, refl, refl)

table_kept : (base entry : ℕ) (body : List ℕ) → table_fault (image_of base entry body) ≡ None
table_kept base entry body =
    let numbers = numbers_are base entry body in
    table_by (image_of base entry body) numbers.0 numbers.1 numbers.2 (omega (arith, length_image_of base entry body))

-- a segment with a place in RAM is in range
placed_in_range : (base count size : ℕ) → size ≡ 84 + count → has_place base count ≡ true → is_in_range size (segment_of base count) ≡ true
unfolding segment_of
placed_in_range base count size long placed = rw (le-leb count count (omega arith), le-leb (84 + count) size (omega arith), placed) refl

not_broken : (is in_range : Bool) → in_range ≡ true → (is && not in_range) ≡ false
not_broken true true e = refl
not_broken true false e = absurd (cc)
not_broken false in_range e = refl

range_by : (bytes : List ℕ) → headers_of bytes ≡ 52 ∷ [] → breaks_range bytes 52 ≡ false → range_fault bytes ≡ None
unfolding range_fault
range_by bytes one good = rw (one, good) refl

good_by : (bytes : List ℕ) (segment : Segment) → segment_at bytes 52 ≡ segment → is_in_range (length bytes) segment ≡ true → breaks_range bytes 52 ≡ false
unfolding breaks_range
good_by bytes segment same fits =
    ap (λ s. is_stored s && not (is_in_range (length bytes) s)) same ∙ not_broken (is_stored segment) (is_in_range (length bytes) segment) fits

range_kept : (base entry : ℕ) (body : List ℕ) → base < 2 ^ 32 → length body < 2 ^ 32 → has_place base (length body) ≡ true → range_fault (image_of base entry body) ≡ None
range_kept base entry body address size placed =
    let image = image_of base entry body in
    let inside = placed_in_range base (length body) (length image) (length_image_of base entry body) placed in
    range_by image (written_headers base entry body) (good_by image (segment_of base (length body)) (segment_is base entry body address size) inside)

entry_kept : (base entry : ℕ) (body : List ℕ) → entry < 2 ^ 32 → can_enter entry ≡ true → entry_fault (image_of base entry body) ≡ None
unfolding entry_fault
entry_kept base entry body small enters =
    let same : entry_of (image_of base entry body) ≡ entry = written_entry base entry body ∙ word_back entry small in
    let can : can_enter (entry_of (image_of base entry body)) ≡ true = ap can_enter same ∙ enters in
    rw can refl

-- a written image is read, where its bytes have a place in RAM and it can be entered
pub image_fault_image_of : (base entry : ℕ) (body : List ℕ) → base < 2 ^ 32 → entry < 2 ^ 32 → length body < 2 ^ 32 → has_place base (length body) ≡ true → can_enter entry ≡ true →
    image_fault (image_of base entry body) ≡ None
image_fault_image_of base entry body address small size placed enters =
    none_broken (image_of base entry body) (short_kept base entry body) (magic_kept base entry body) (class_kept base entry body) (machine_kept base entry body) (kind_kept base entry body)
    (table_kept base entry body) (range_kept base entry body address size placed) (entry_kept base entry body small enters)
