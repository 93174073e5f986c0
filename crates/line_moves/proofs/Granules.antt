-- Lines by their granules, each of which is as long as a primary line.
use Rattle.std.proofs.Common.{◌≡◌, ℕ, ◌+◌, ◌*◌, ◌/◌, ◌<◌, ◌≤◌, List, ◌++◌, take, inl, inr, length, IsSome, refl, sym, ap, ◌∙◌, arith}
use Rattle.std.proofs.Math.Seq.{take-add, take-length}
use Rattle.std.proofs.lemmas.Bool.{cases_Bool}
use Rattle.flat_ram.specs.Bytes.{bytes_at, put_bytes}
use Rattle.flat_ram.proofs.Replaced.{put_twice}
use Rattle.r4_shape.specs.Numbers.{Numbers, IsShape, IsLine, IsGroup}
use Rattle.line_moves.specs.declared.places.Side.{Side}
use Rattle.line_moves.specs.declared.places.Side.TheVariants.{I, D, S}
use Rattle.line_moves.specs.declared.places.Place.{Place}
use Rattle.line_moves.specs.Lines.{CacheLines, AreLines, IsPlace, line_at, line_bytes, line_size, places_on}
use Rattle.line_moves.proofs.Cuts.{length_bytes_at}
use Rattle.line_moves.proofs.SideLines.{next_place}
use Rattle.line_moves.proofs.Sides.{no_place}
use Rattle.line_moves.proofs.Stored.{bytes_there}

-- ---- the bytes of a line are its granules' one after the other

bytes_of_line : (bytes : List ℕ) (part line : ℕ) → bytes_at bytes 0 ((part + 1) * line) ≡ bytes_at bytes 0 (part * line) ++ bytes_at bytes (part * line) line
bytes_of_line bytes part line =
    let next : (part + 1) * line ≡ part * line + line = grind arith in
    ap (λ n. take n bytes) next ∙ take-add (part * line) line bytes

-- ---- RAM after one more granule was put

one_more_put : (ram bytes : List ℕ) (pa part line : ℕ) → part * line + line ≤ length bytes → pa + length bytes ≤ length ram
    → put_bytes (put_bytes ram pa (bytes_at bytes 0 (part * line))) (pa + part * line) (bytes_at bytes (part * line) line)
    ≡ put_bytes ram pa (bytes_at bytes 0 ((part + 1) * line))
one_more_put ram bytes pa part line inside fits =
    let front : length (bytes_at bytes 0 (part * line)) ≡ part * line = length_bytes_at bytes 0 (part * line) (omega arith) in
    let next : length (bytes_at bytes (part * line) line) ≡ line = length_bytes_at bytes (part * line) line inside in
    put_twice ram (bytes_at bytes 0 (part * line)) (bytes_at bytes (part * line) line) pa (pa + part * line) (ap (λ n. pa + n) (sym front)) (rw next (omega arith))
    ∙ ap (λ xs. put_bytes ram pa xs) (sym (bytes_of_line bytes part line))

-- ---- granules of a line

-- they fill it
parts_fill : (line group : ℕ) → IsLine line → IsGroup group → line ≤ group → group / line * line ≡ group
parts_fill line group l g le = elim l [
  | inl e ↦ rw e (elim g [ inl q ↦ rw q refl | inr o ↦ elim o [ inl q ↦ rw q refl | inr p ↦ elim p [ inl q ↦ rw q refl | inr q ↦ rw q refl ] ] ])
  | inr e ↦ rw e (elim g [ inl q ↦ absurd (let le' : 32 ≤ 16 = rw (e, q) at le in omega arith) | inr o ↦ elim o [ inl q ↦ rw q refl | inr p ↦ elim p [ inl q ↦ rw q refl | inr q ↦ rw q refl ] ] ])
]

line_fills : (line : ℕ) → IsLine line → line / line * line ≡ line
line_fills line l = elim l [ inl e ↦ rw e refl | inr e ↦ rw e refl ]

granules_fill : (s : Numbers) (side : Side) (index : ℕ) → IsShape s → index < places_on side s → line_size side s / s.line * s.line ≡ line_size side s
granules_fill s I index is lt = line_fills s.line is.line
granules_fill s D index is lt = line_fills s.line is.line
granules_fill s S index is lt = elim (cases_Bool s.sc) [ inl has ↦ parts_fill s.line s.group is.line (is.group has) (is.holds has) | inr alone ↦ absurd (no_place s index is alone lt) ]

-- each lies in it
pub granule_inside : (s : Numbers) (side : Side) (index part : ℕ) → IsShape s → index < places_on side s → part < line_size side s / s.line
    → part * s.line + s.line ≤ line_size side s
granule_inside s side index part is lt within =
    let fill = granules_fill s side index is lt in
    let next = next_place s.line part (line_size side s / s.line) within in
    omega arith

-- all of them are the line
all_put : (bytes : List ℕ) (count line : ℕ) → count * line ≡ length bytes → bytes_at bytes 0 (count * line) ≡ bytes
all_put bytes count line is = ap (λ n. take n bytes) is ∙ take-length bytes

-- ---- the granules of the line at a place go to RAM

pub granule_put : (c : CacheLines) (p : Place) (ram : List ℕ) (pa part line : ℕ) → AreLines c → IsPlace c.shape p → IsSome (line_at p c) → line ≡ c.shape.line
    → part < line_size p.side c.shape / c.shape.line → pa + line_size p.side c.shape ≤ length ram
    → put_bytes (put_bytes ram pa (bytes_at (line_bytes (line_at p c)) 0 (part * line))) (pa + part * line) (bytes_at (line_bytes (line_at p c)) (part * line) line)
    ≡ put_bytes ram pa (bytes_at (line_bytes (line_at p c)) 0 ((part + 1) * line))
granule_put c p ram pa part line lines lt some line_is within fits =
    let long = bytes_there c p lines lt some in
    let inside = granule_inside c.shape p.side p.index part lines.shape lt within in
    one_more_put ram (line_bytes (line_at p c)) pa part line (rw (line_is, long) inside) (rw long fits)

pub granules_put : (c : CacheLines) (p : Place) (count line : ℕ) → AreLines c → IsPlace c.shape p → IsSome (line_at p c) → line ≡ c.shape.line
    → count ≡ line_size p.side c.shape / c.shape.line → bytes_at (line_bytes (line_at p c)) 0 (count * line) ≡ line_bytes (line_at p c)
granules_put c p count line lines lt some line_is count_is =
    all_put (line_bytes (line_at p c)) count line
    (rw (count_is, line_is, bytes_there c p lines lt some) (granules_fill c.shape p.side p.index lines.shape lt))
