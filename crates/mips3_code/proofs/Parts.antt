-- A number put together from parts, each within a mask of its own: what stands in a part's mask is the part.
use Rattle.std.specs.List.{list_all}
use Rattle.std.proofs.lemmas.Bool.{and_parts, eqb-true}
use Rattle.std.proofs.Common.{◌≡◌, ◌==◌, ◌&&◌, Bool, true, ℕ, zero, suc, ◌+◌, ◌-◌, ◌*◌, ◌/◌, ◌%◌, ◌^◌, ◌<◌, List, [], ◌∷◌, length, bit_and, slice_index_or, refl, sym, ap, ◌∙◌, arith}
use Rattle.std.proofs.lemmas.Nat.{and_assoc, and_comm, and_or_apart, and_or_self, or_disjoint, and-not, shl-shr, and_le_l, and_mask}
use Rattle.std.proofs.lemmas.Nat.Bits.{and_high}
use Rattle.std.proofs.Math.Nat.{mod-eq_of_lt}
use Rattle.mips3_table.specs.Operands.{bits_of, ones}

-- a part of a number, and the bits in which it stands
pub record Part : Type 0 where
  pub bits : ℕ
  pub mask : ℕ

abbrev pub no_part : Part
no_part = record { bits = 0; mask = 0 }

abbrev pub total : List Part → ℕ
total [] = 0
total (part ∷ parts) = total parts + part.bits

-- the mask shares no bit with the masks of these parts
abbrev pub Apart : ℕ → List Part → Type 0
Apart mask [] = Unit {0}
Apart mask (part ∷ parts) = (bit_and part.mask mask ≡ 0) × Apart mask parts

-- each part lies within its mask, and no two masks share a bit
abbrev pub Laid : List Part → Type 0
Laid [] = Unit {0}
Laid (part ∷ parts) = (bit_and part.bits part.mask ≡ part.bits) × Apart part.mask parts × Laid parts

-- bits within a mask share none with a number that the mask shares none with
pub within_apart : (bits mask other : ℕ) → bit_and bits mask ≡ bits → bit_and mask other ≡ 0 → bit_and bits other ≡ 0
within_apart bits mask other within apart =
    ap (λ b. bit_and b other) (sym within) ∙ and_assoc other bits mask ∙ ap (bit_and bits) apart ∙ and_comm bits 0

-- a part outside a mask adds nothing to what stands in the mask
pub and_add : (rest bits mask : ℕ) → bit_and rest bits ≡ 0 → bit_and bits mask ≡ 0 → bit_and (rest + bits) mask ≡ bit_and rest mask
and_add rest bits mask alone outside = ap (λ n. bit_and n mask) (sym (or_disjoint rest bits alone)) ∙ and_or_apart mask rest bits outside

pub total_apart : (mask : ℕ) (parts : List Part) → Laid parts → Apart mask parts → bit_and (total parts) mask ≡ 0
total_apart mask [] laid apart = refl
total_apart mask (part ∷ parts) laid apart =
    let alone : bit_and (total parts) part.bits ≡ 0 =
    and_comm (total parts) part.bits
    ∙ within_apart part.bits part.mask (total parts) laid.0 (and_comm part.mask (total parts) ∙ total_apart part.mask parts laid.2 laid.1) in
    and_add (total parts) part.bits mask alone (within_apart part.bits part.mask mask laid.0 apart.0) ∙ total_apart mask parts laid.2 apart.1

-- the first part, and what stands behind it
pub first_read : (part : Part) (parts : List Part) → Laid (part ∷ parts) → bit_and (total parts + part.bits) part.mask ≡ part.bits
first_read part parts laid =
    let others : bit_and (total parts) part.mask ≡ 0 = total_apart part.mask parts laid.2 laid.1 in
    let alone : bit_and part.bits (total parts) ≡ 0 = within_apart part.bits part.mask (total parts) laid.0 (and_comm part.mask (total parts) ∙ others) in
    let turned : total parts + part.bits ≡ part.bits + total parts = omega arith in
    ap (λ n. bit_and n part.mask) turned ∙ and_add part.bits (total parts) part.mask alone others ∙ laid.0

pub behind_read : (part : Part) (parts : List Part) (mask : ℕ) → Laid (part ∷ parts) → bit_and part.mask mask ≡ 0 → bit_and (total parts + part.bits) mask ≡ bit_and (total parts) mask
behind_read part parts mask laid apart =
    let alone : bit_and (total parts) part.bits ≡ 0 =
    and_comm (total parts) part.bits
    ∙ within_apart part.bits part.mask (total parts) laid.0 (and_comm part.mask (total parts) ∙ total_apart part.mask parts laid.2 laid.1) in
    and_add (total parts) part.bits mask alone (within_apart part.bits part.mask mask laid.0 apart)

pub apart_at : (mask : ℕ) (parts : List Part) (at : ℕ) → Apart mask parts → at < length parts → bit_and (slice_index_or parts at no_part).mask mask ≡ 0
apart_at mask [] at apart within = absurd (omega arith)
apart_at mask (part ∷ parts) zero apart within = apart.0
apart_at mask (part ∷ parts) (suc at) apart within = apart_at mask parts at apart.1 (omega arith)

-- what stands in a part's mask is the part
pub part_read : (parts : List Part) (at : ℕ) → Laid parts → at < length parts → bit_and (total parts) (slice_index_or parts at no_part).mask ≡ (slice_index_or parts at no_part).bits
part_read [] at laid within = absurd (omega arith)
part_read (part ∷ parts) zero laid within = first_read part parts laid
part_read (part ∷ parts) (suc at) laid within =
    let here : at < length parts = omega arith in
    behind_read part parts (slice_index_or parts at no_part).mask laid (and_comm part.mask (slice_index_or parts at no_part).mask ∙ apart_at part.mask parts at laid.1 here)
    ∙ part_read parts at laid.2 here

-- a field at its place lies within the field's bits
pub field_within : (low width value : ℕ) → value < 2 ^ width → bit_and (value * 2 ^ low) (ones low width) ≡ value * 2 ^ low
field_within low width value small =
    and_high (value * 2 ^ low) width low ∙ ap (λ v. v % 2 ^ width * 2 ^ low) (shl-shr value low) ∙ ap (λ v. v * 2 ^ low) (mod-eq_of_lt small)

-- and is what is read there
pub field_read : (word low width value : ℕ) → value < 2 ^ width → bit_and word (ones low width) ≡ value * 2 ^ low → bits_of word low width ≡ value
field_read word low width value small read =
    let same : bits_of word low width * 2 ^ low ≡ value * 2 ^ low = sym (and_high word width low) ∙ read in
    sym (shl-shr (bits_of word low width) low) ∙ ap (λ v. v / 2 ^ low) same ∙ shl-shr value low

-- what stands in two masks that share no bit stands in each
pub and_sum : (word one other : ℕ) → bit_and one other ≡ 0 → one + other < 2 ^ 32 → word < 2 ^ 32 → bit_and word (one + other) ≡ bit_and word one + bit_and word other
and_sum word one other apart fits small =
    let mask = one + other in
    let read = bit_and word mask in
    let read_fits : read < 2 ^ 32 = omega (arith, and_le_l word mask) in
    let one_fits : one < 2 ^ 32 = omega arith in
    let whole : bit_and one mask ≡ one =
    and_comm one mask ∙ ap (λ n. bit_and n one) (let turned : mask ≡ other + one = omega arith in turned ∙ sym (or_disjoint other one (and_comm other one ∙ apart))) ∙ and_or_self one other in
    let rest : bit_and (2 ^ 32 - 1 - one) mask ≡ other = let split = and-not 32 one mask one_fits fits in omega (arith, split, whole) in
    let at_one : bit_and one read ≡ bit_and word one =
    sym (and_assoc mask one word) ∙ ap (λ n. bit_and n mask) (and_comm one word) ∙ and_assoc mask word one ∙ ap (bit_and word) whole in
    let at_rest : bit_and (2 ^ 32 - 1 - one) read ≡ bit_and word other =
    sym (and_assoc mask (2 ^ 32 - 1 - one) word) ∙ ap (λ n. bit_and n mask) (and_comm (2 ^ 32 - 1 - one) word) ∙ and_assoc mask word (2 ^ 32 - 1 - one) ∙ ap (bit_and word) rest in
    let split = and-not 32 one read one_fits read_fits in
    omega (arith, split, at_one, at_rest)

-- masks of which no two share a bit
abbrev pub disjoint : List ℕ → Bool
disjoint [] = true
disjoint (mask ∷ masks) = list_all (λ other. bit_and other mask == 0) masks && disjoint masks

abbrev pub masks_of : List Part → List ℕ
masks_of [] = []
masks_of (part ∷ parts) = part.mask ∷ masks_of parts

abbrev pub Within : List Part → Type 0
Within [] = Unit {0}
Within (part ∷ parts) = (bit_and part.bits part.mask ≡ part.bits) × Within parts

pub apart_from : (mask : ℕ) (parts : List Part) → list_all (λ other. bit_and other mask == 0) (masks_of parts) ≡ true → Apart mask parts
apart_from mask [] all = tt
apart_from mask (part ∷ parts) all =
    let split = and_parts (bit_and part.mask mask == 0) _ all in
    (eqb-true _ _ split.0, apart_from mask parts split.1)

pub laid_from : (parts : List Part) → disjoint (masks_of parts) ≡ true → Within parts → Laid parts
laid_from [] apart within = tt
laid_from (part ∷ parts) apart within =
    let split = and_parts (list_all (λ other. bit_and other part.mask == 0) (masks_of parts)) (disjoint (masks_of parts)) apart in
    (within.0, apart_from part.mask parts split.0, laid_from parts split.1 within.1)

-- the masks themselves as parts
abbrev pub whole : List ℕ → List Part
whole [] = []
whole (mask ∷ masks) = record { bits = mask; mask = mask } ∷ whole masks

pub masks_of_whole : (masks : List ℕ) → masks_of (whole masks) ≡ masks
masks_of_whole [] = refl
masks_of_whole (mask ∷ masks) = ap (λ rest. mask ∷ rest) (masks_of_whole masks)

pub and_self : (mask : ℕ) → bit_and mask mask ≡ mask
and_self mask = and_or_self mask 0

pub within_whole : (masks : List ℕ) → Within (whole masks)
within_whole [] = tt
within_whole (mask ∷ masks) = (and_self mask, within_whole masks)

-- what stands of a word in each of some masks
abbrev pub read_in : ℕ → List ℕ → List Part
read_in word [] = []
read_in word (mask ∷ masks) = record { bits = bit_and word mask; mask = mask } ∷ read_in word masks

-- is together what stands in all of them
pub total_read : (word : ℕ) (masks : List ℕ) → word < 2 ^ 32 → disjoint masks ≡ true → total (whole masks) < 2 ^ 32 → total (read_in word masks) ≡ bit_and word (total (whole masks))
total_read word [] small apart fits = sym (and_comm word 0)
total_read word (mask ∷ masks) small apart fits =
    let split = and_parts (list_all (λ other. bit_and other mask == 0) masks) (disjoint masks) apart in
    let others : Laid (whole masks) = laid_from (whole masks) (ap disjoint (masks_of_whole masks) ∙ split.1) (within_whole masks) in
    let outside : Apart mask (whole masks) = apart_from mask (whole masks) (ap (list_all (λ other. bit_and other mask == 0)) (masks_of_whole masks) ∙ split.0) in
    ap (λ n. n + bit_and word mask) (total_read word masks small split.1 (omega arith))
    ∙ sym (and_sum word (total (whole masks)) mask (total_apart mask (whole masks) others outside) fits small)

-- a word is what stands in masks that are together all of it
pub word_read : (word : ℕ) (masks : List ℕ) → word < 2 ^ 32 → disjoint masks ≡ true → total (whole masks) ≡ 2 ^ 32 - 1 → total (read_in word masks) ≡ word
word_read word masks small apart all =
    total_read word masks small apart (omega arith) ∙ ap (bit_and word) all ∙ and_mask word 32 ∙ mod-eq_of_lt small
