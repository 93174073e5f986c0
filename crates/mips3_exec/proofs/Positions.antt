-- What loads and stores make of a register, at every position, without lists.
use Rattle.std.proofs.Common.{◌≡◌, ℕ, zero, suc, ◌+◌, ◌-◌, ◌*◌, ◌/◌, ◌%◌, ◌^◌, ◌<◌, ◌≤◌, refl, sym, ap, ◌∙◌, arith, IsTrue, mul_comm, mul_assoc}
use Rattle.std.proofs.Math.Nat.{div-add-mod, mod-eq_of_lt}
use Rattle.std.proofs.lemmas.Nat.{pow-add, div_below, mod_below}
use Rattle.mips3_table.specs.declared.operations.Width.{Width}
use Rattle.mips3_table.specs.declared.operations.Width.TheVariants.{Word, Double}
use Rattle.mips3_table.specs.declared.operations.Size.{Size}
use Rattle.mips3_table.specs.declared.operations.Size.TheVariants.{Byte, Half, Wide}
use Rattle.mips3_table.specs.declared.operations.Signedness.{Signedness}
use Rattle.mips3_table.specs.declared.operations.Signedness.TheVariants.{Signed, Unsigned}
use Rattle.mips3_table.specs.declared.operations.Operation.{Operation}
use Rattle.mips3_table.specs.declared.operations.Operation.TheVariants.{Load, LoadLeft, LoadRight, LoadLinked, Store, StoreLeft, StoreRight, StoreConditional}
use Rattle.mips3_alu.specs.Arithmetic.{extended, reduced, unsigned}
use Rattle.mips3_exec.specs.Accesses.{whole, left, right, merged, as_register, bytes_of_width, bytes_of_size, loaded_by, stored_by, moved, is_store}
use Rattle.mips3_exec.proofs.Pieces.{some_bytes, piece_is, merged_is}

-- a shifted one is a power of 256
pub power_is : (count : ℕ) → count < 8 → 1 * 2 ^ (8 * count) % 2 ^ 64 ≡ 256 ^ count
power_is zero small = refl
power_is (suc zero) small = refl
power_is (suc (suc zero)) small = refl
power_is (suc (suc (suc zero))) small = refl
power_is (suc (suc (suc (suc zero)))) small = refl
power_is (suc (suc (suc (suc (suc zero))))) small = refl
power_is (suc (suc (suc (suc (suc (suc zero)))))) small = refl
power_is (suc (suc (suc (suc (suc (suc (suc zero))))))) small = refl
power_is (suc (suc (suc (suc (suc (suc (suc (suc count)))))))) small = absurd (omega arith)

-- only the low bits of a number count
as_register_same : (signedness : Signedness) (width one other : ℕ) → one % 2 ^ width ≡ other % 2 ^ width → as_register signedness width one ≡ as_register signedness width other
unfolding reduced unsigned
as_register_same Signed width one other same = ap (extended width) same
as_register_same Unsigned width one other same = same

-- ---- whole units

whole_1 : (high bytes old : ℕ) → ((high * 256 ^ 1 + bytes % 256 ^ 1) * 256 ^ 0 + old % 256 ^ 0) % 2 ^ 8 ≡ bytes % 2 ^ 8
whole_1 high bytes old = omega arith

whole_2 : (high bytes old : ℕ) → ((high * 256 ^ 2 + bytes % 256 ^ 2) * 256 ^ 0 + old % 256 ^ 0) % 2 ^ 16 ≡ bytes % 2 ^ 16
whole_2 high bytes old = omega arith

whole_4 : (high bytes old : ℕ) → ((high * 256 ^ 4 + bytes % 256 ^ 4) * 256 ^ 0 + old % 256 ^ 0) % 2 ^ 32 ≡ bytes % 2 ^ 32
whole_4 high bytes old = omega arith

whole_8 : (high bytes old : ℕ) → ((high * 256 ^ 8 + bytes % 256 ^ 8) * 256 ^ 0 + old % 256 ^ 0) % 2 ^ 64 ≡ bytes % 2 ^ 64
whole_8 high bytes old = omega arith

pub whole_loaded : (size : Size) (signedness : Signedness) (old va bytes : ℕ) → loaded_by (Load size signedness) old va bytes ≡ as_register signedness (8 * bytes_of_size size) bytes
unfolding loaded_by
whole_loaded Byte signedness old va bytes =
    as_register_same signedness 8 (merged (whole 1 va) old bytes) bytes (ap (λ v. v % 2 ^ 8) (merged_is 7 1 0 old bytes refl) ∙ whole_1 _ bytes old)
whole_loaded Half signedness old va bytes =
    as_register_same signedness 16 (merged (whole 2 va) old bytes) bytes (ap (λ v. v % 2 ^ 16) (merged_is 6 2 0 old bytes refl) ∙ whole_2 _ bytes old)
whole_loaded (Wide Word) signedness old va bytes =
    as_register_same signedness 32 (merged (whole 4 va) old bytes) bytes (ap (λ v. v % 2 ^ 32) (merged_is 4 4 0 old bytes refl) ∙ whole_4 _ bytes old)
whole_loaded (Wide Double) signedness old va bytes =
    as_register_same signedness 64 (merged (whole 8 va) old bytes) bytes (ap (λ v. v % 2 ^ 64) (merged_is 0 8 0 old bytes refl) ∙ whole_8 _ bytes old)

pub linked_loaded : (width : Width) (old va bytes : ℕ) → loaded_by (LoadLinked width) old va bytes ≡ as_register Signed (8 * bytes_of_width width) bytes
unfolding loaded_by
linked_loaded width old va bytes = whole_loaded (Wide width) Signed old va bytes

-- ---- the left rows: so many units of the bytes above the low bytes of the register

-- the units of the parts of a word or doubleword
parts : (n offset : ℕ) → offset ≤ n → 256 ^ (n - offset) * 256 ^ offset ≡ 256 ^ n
parts n offset within =
    let whole_of : n - offset + offset ≡ n = omega arith in
    sym (pow-add 256 (n - offset) offset) ∙ ap (λ k. 256 ^ k) whole_of

small_mod : (n m : ℕ) → n < m → n % m ≡ n
small_mod n m small = mod-eq_of_lt small

left_sum : (high s p bytes rest all : ℕ) → s * p ≡ all → bytes < s → (high * s + bytes % s) * p + rest ≡ high * all + bytes * p + rest
left_sum high s p bytes rest all parts_of small =
    ap (λ b. (high * s + b) * p + rest) (small_mod bytes s small)
    ∙ distributed ∙ ap (λ k. high * k + bytes * p + rest) parts_of
  where
    distributed : (high * s + bytes) * p + rest ≡ high * (s * p) + bytes * p + rest
    distributed = grind (arith, mul_assoc high s p)

left_word : (high product rest : ℕ) → (high * 256 ^ 4 + product + rest) % 2 ^ 32 ≡ (product % 2 ^ 64 + rest) % 2 ^ 64 % 2 ^ 32
left_word high product rest = omega arith

left_double : (high product rest : ℕ) → (high * 256 ^ 8 + product + rest) % 2 ^ 64 ≡ (product % 2 ^ 64 + rest) % 2 ^ 64 % 2 ^ 64
left_double high product rest = omega arith

pub left_loaded : (width : Width) (old va bytes : ℕ) → bytes < 256 ^ (left (bytes_of_width width) va).size
    → loaded_by (LoadLeft width) old va bytes
    ≡ as_register Signed (8 * bytes_of_width width) ((bytes * 256 ^ (va % bytes_of_width width) % 2 ^ 64 + old % 256 ^ (va % bytes_of_width width)) % 2 ^ 64)
unfolding loaded_by
left_loaded Word old va bytes fits =
    let offset = va % 4 in
    as_register_same Signed 32 (merged (left 4 va) old bytes) _
    (ap (λ v. v % 2 ^ 32)
    (merged_is 4 (4 - offset) offset old bytes (omega arith)
    ∙ left_sum (old / 256 ^ (4 - offset + offset) % 256 ^ 4) (256 ^ (4 - offset)) (256 ^ offset) bytes (old % 256 ^ offset) (256 ^ 4) (parts 4 offset (omega arith)) fits)
    ∙ left_word _ (bytes * 256 ^ offset) (old % 256 ^ offset))
left_loaded Double old va bytes fits =
    let offset = va % 8 in
    as_register_same Signed 64 (merged (left 8 va) old bytes) _
    (ap (λ v. v % 2 ^ 64)
    (merged_is 0 (8 - offset) offset old bytes (omega arith)
    ∙ left_sum (old / 256 ^ (8 - offset + offset) % 256 ^ 0) (256 ^ (8 - offset)) (256 ^ offset) bytes (old % 256 ^ offset) (256 ^ 8) (parts 8 offset (omega arith)) fits)
    ∙ left_double _ (bytes * 256 ^ offset) (old % 256 ^ offset))

-- ---- the right rows: the bytes, below the high bytes of the register

right_sum : (old u c bytes : ℕ) → 0 < u → c * u ≡ 2 ^ 64 → old < 2 ^ 64 → bytes < u
    → (old / u % c * u + bytes % u) * 256 ^ 0 + old % 256 ^ 0 ≡ old - old % u + bytes
right_sum old u c bytes some parts_of is_register small =
    let high : old / u < c = div_below old u c some (rw parts_of is_register) in
    ap (λ q. (q * u + bytes % u) * 256 ^ 0 + old % 256 ^ 0) (small_mod (old / u) c high)
    ∙ ap (λ b. (old / u * u + b) * 256 ^ 0 + old % 256 ^ 0) (small_mod bytes u small)
    ∙ plain (old / u * u) (old % u) (mul_comm (old / u) u) (div-add-mod old u)
  where
    plain : (below rest : ℕ) → below ≡ u * (old / u) → u * (old / u) + rest ≡ old → (below + bytes) * 256 ^ 0 + old % 256 ^ 0 ≡ old - rest + bytes
    plain below rest is whole_of = omega arith

right_is : (offset old bytes : ℕ) → offset ≤ 7 → old < 2 ^ 64 → bytes < 256 ^ (offset + 1)
    → (old / 256 ^ (offset + 1 + 0) % 256 ^ (7 - offset) * 256 ^ (offset + 1) + bytes % 256 ^ (offset + 1)) * 256 ^ 0 + old % 256 ^ 0
    ≡ old - old % 256 ^ (offset + 1) + bytes
right_is offset old bytes within is_register small =
    let same : offset + 1 + 0 ≡ offset + 1 = omega arith in
    let rest : 8 - (offset + 1) ≡ 7 - offset = omega arith in
    let parts_of : 256 ^ (7 - offset) * 256 ^ (offset + 1) ≡ 2 ^ 64 = ap (λ k. 256 ^ k * 256 ^ (offset + 1)) (sym rest) ∙ parts 8 (offset + 1) (omega arith) in
    ap (λ k. (old / 256 ^ k % 256 ^ (7 - offset) * 256 ^ (offset + 1) + bytes % 256 ^ (offset + 1)) * 256 ^ 0 + old % 256 ^ 0) same
    ∙ right_sum old (256 ^ (offset + 1)) (256 ^ (7 - offset)) bytes (some_bytes (offset + 1)) parts_of is_register small

wraps_word : (n : ℕ) → n % 2 ^ 32 ≡ n % 2 ^ 64 % 2 ^ 32
wraps_word n = omega arith

wraps_double : (n : ℕ) → n % 2 ^ 64 ≡ n % 2 ^ 64 % 2 ^ 64
wraps_double n = omega arith

pub right_loaded : (width : Width) (old va bytes : ℕ) → old < 2 ^ 64 → bytes < 256 ^ (right (bytes_of_width width) va).size
    → loaded_by (LoadRight width) old va bytes
    ≡ as_register Signed (8 * bytes_of_width width) ((old - old % 256 ^ (va % bytes_of_width width + 1) + bytes) % 2 ^ 64)
unfolding loaded_by
right_loaded Word old va bytes is_register fits =
    let offset = va % 4 in
    let within : offset ≤ 7 = omega arith in
    as_register_same Signed 32 (merged (right 4 va) old bytes) _
    (ap (λ v. v % 2 ^ 32) (merged_is (7 - offset) (offset + 1) 0 old bytes (omega arith) ∙ right_is offset old bytes within is_register fits)
    ∙ wraps_word (old - old % 256 ^ (offset + 1) + bytes))
right_loaded Double old va bytes is_register fits =
    let offset = va % 8 in
    let within : offset ≤ 7 = omega arith in
    as_register_same Signed 64 (merged (right 8 va) old bytes) _
    (ap (λ v. v % 2 ^ 64) (merged_is (7 - offset) (offset + 1) 0 old bytes (omega arith) ∙ right_is offset old bytes within is_register fits)
    ∙ wraps_double (old - old % 256 ^ (offset + 1) + bytes))

-- what each load leaves in the register
pub ruleset loads = (whole_loaded, linked_loaded, left_loaded, right_loaded)

-- ---- stores

whole_piece : (n value : ℕ) → value / 256 ^ 0 % n ≡ value % n
whole_piece n value = let same : value / 256 ^ 0 ≡ value = omega arith in ap (λ v. v % n) same

pub whole_stored : (size : Size) (value va : ℕ) → stored_by (Store size) value va ≡ value % 256 ^ bytes_of_size size
unfolding stored_by
whole_stored Byte value va = piece_is 7 1 0 value refl ∙ whole_piece (256 ^ 1) value
whole_stored Half value va = piece_is 6 2 0 value refl ∙ whole_piece (256 ^ 2) value
whole_stored (Wide Word) value va = piece_is 4 4 0 value refl ∙ whole_piece (256 ^ 4) value
whole_stored (Wide Double) value va = piece_is 0 8 0 value refl ∙ whole_piece (256 ^ 8) value

pub conditional_stored : (width : Width) (value va : ℕ) → stored_by (StoreConditional width) value va ≡ value % 256 ^ bytes_of_width width
unfolding stored_by
conditional_stored width value va = whole_stored (Wide width) value va

pub left_stored : (width : Width) (value va : ℕ)
    → stored_by (StoreLeft width) value va ≡ value / 256 ^ (va % bytes_of_width width) % 256 ^ (bytes_of_width width - va % bytes_of_width width)
unfolding stored_by
left_stored Word value va = piece_is 4 (4 - va % 4) (va % 4) value (omega arith)
left_stored Double value va = piece_is 0 (8 - va % 8) (va % 8) value (omega arith)

pub right_stored : (width : Width) (value va : ℕ) → stored_by (StoreRight width) value va ≡ value % 256 ^ (va % bytes_of_width width + 1)
unfolding stored_by
right_stored Word value va = piece_is (7 - va % 4) (va % 4 + 1) 0 value (omega arith) ∙ whole_piece (256 ^ (va % 4 + 1)) value
right_stored Double value va = piece_is (7 - va % 8) (va % 8 + 1) 0 value (omega arith) ∙ whole_piece (256 ^ (va % 8 + 1)) value

-- what each store puts into memory
pub ruleset stores = (whole_stored, conditional_stored, left_stored, right_stored)

-- a store's number fits its bytes
pub stored_fits : (operation : Operation) (value va : ℕ) → IsTrue (is_store operation) → stored_by operation value va < 256 ^ (moved operation va).size
stored_fits (Store size) value va is = rw (whole_stored size value va) (mod_below value (256 ^ bytes_of_size size) (some_bytes (bytes_of_size size)))
stored_fits (StoreLeft width) value va is =
    rw (left_stored width value va) (mod_below _ (256 ^ (bytes_of_width width - va % bytes_of_width width)) (some_bytes (bytes_of_width width - va % bytes_of_width width)))
stored_fits (StoreRight width) value va is =
    rw (right_stored width value va) (mod_below value (256 ^ (va % bytes_of_width width + 1)) (some_bytes (va % bytes_of_width width + 1)))
stored_fits (StoreConditional width) value va is =
    rw (conditional_stored width value va) (mod_below value (256 ^ bytes_of_width width) (some_bytes (bytes_of_width width)))
stored_fits _ value va is = cc
