-- A field that was made a number holds that number.
use Rattle.std.proofs.Common.{◌≡◌, ◌∙◌, sym, ap, ℕ, ◌<◌, ◌≤◌, ◌+◌, ◌-◌, ◌*◌, ◌/◌, ◌%◌, ◌^◌, List, length, arith}
use Rattle.std.specs.Prelude.{bit_and, bit_or, slice_index}
use Rattle.std.specs.Int.Bits.{and_self}
use Rattle.std.proofs.Math.Nat.{mod-eq_of_lt}
use Rattle.std.proofs.Math.Pow.{pow_mono}
use Rattle.std.proofs.lemmas.Nat.{and_assoc, and_comm, and_or_apart, and-not, or_shr, or_mod, shl-shr, pow_pos}
use Rattle.std.proofs.lemmas.Nat.Bits.{and_high}
use Rattle.std.proofs.lemmas.List.{get_or-set_same}
use Rattle.cp0_regs.specs.declared.fields.Field.{Field}
use Rattle.cp0_regs.specs.Bits.{all_bits, bits, field, merged}
use Rattle.cp0_regs.specs.Fields.{bits_of}
use Rattle.cp0_regs.specs.State.{IsField, value_of, with_value}

-- a mask and the bits outside it have none in common
outside_is_apart : (mask : ℕ) → mask < 2 ^ 32 → bit_and (all_bits - mask) mask ≡ 0
outside_is_apart mask small =
    let split : bit_and (2 ^ 32 - 1 - mask) mask + bit_and mask mask ≡ mask = and-not 32 mask mask small small in
    omega (arith, split, and_self mask)

-- the number in bits high..low, moved up again, is what their mask keeps
moved_up : (word high low : ℕ) → low ≤ high → field word high low * 2 ^ low ≡ bit_and word (bits high low)
moved_up word high low order =
    let top : (high - low + 1) + low ≡ high + 1 = omega arith in
    sym (and_high word (high - low + 1) low) ∙ ap (λ n. bit_and word (2 ^ n - 2 ^ low)) top

bits_small : (high low : ℕ) → high < 32 → bits high low < 2 ^ 32
bits_small high low in_word =
    let within : high + 1 ≤ 32 = omega arith in
    let up : 2 ^ (high + 1) ≤ 2 ^ 32 = pow_mono within in
    omega (arith, up, pow_pos low, pow_pos (high + 1))

-- what is moved up from is what moving down gives
moved_down : (number low other : ℕ) → number * 2 ^ low ≡ other → number ≡ other / 2 ^ low
moved_down number low other same = sym (shl-shr number low) ∙ ap (λ n. n / 2 ^ low) same

-- what is left of a word outside a field is nothing in the field
nothing_left : (word high low : ℕ) → low ≤ high → high < 32 → field (bit_and word (all_bits - bits high low)) high low ≡ 0
nothing_left word high low order in_word =
    let outside : ℕ = all_bits - bits high low in
    let none : bit_and (bit_and word outside) (bits high low) ≡ 0 =
    and_assoc (bits high low) word outside ∙ ap (bit_and word) (outside_is_apart (bits high low) (bits_small high low in_word)) ∙ and_comm word 0 in
    let no_number : 0 ≡ 0 / 2 ^ low = moved_down 0 low 0 (omega arith) in
    moved_down (field (bit_and word outside) high low) low 0 (moved_up (bit_and word outside) high low order ∙ none) ∙ sym no_number

-- a number that fits is all that stands in a field of it
all_there : (value high low : ℕ) → low ≤ high → value < 2 ^ (high - low + 1) → field (bit_and (value * 2 ^ low) (bits high low)) high low ≡ value
all_there value high low order fits =
    let inside : bit_and (value * 2 ^ low) (bits high low) ≡ value * 2 ^ low =
    sym (moved_up (value * 2 ^ low) high low order)
    ∙ ap (λ n. n % 2 ^ (high - low + 1) * 2 ^ low) (shl-shr value low)
    ∙ ap (λ n. n * 2 ^ low) (mod-eq_of_lt fits) in
    ap (λ n. field n high low) inside ∙ ap (λ n. n % 2 ^ (high - low + 1)) (shl-shr value low) ∙ mod-eq_of_lt fits

-- a field goes into `|`
field_of_or : (one other high low : ℕ) → field (bit_or one other) high low ≡ bit_or (field one high low) (field other high low)
field_of_or one other high low =
    ap (λ n. n % 2 ^ (high - low + 1)) (or_shr one other low) ∙ or_mod (one / 2 ^ low) (other / 2 ^ low) (high - low + 1)

pub read_back : (cp0 : List ℕ) (f : Field) (value : ℕ) → IsField f → f.register < length cp0 → value < 2 ^ (f.high - f.low + 1) → value_of (with_value cp0 f value) f ≡ value
read_back cp0 f value is_field inside fits =
    let word : ℕ = slice_index cp0 f.register in
    let kept : ℕ = bit_and word (all_bits - bits_of f) in
    let put : ℕ = bit_and (value * 2 ^ f.low) (bits_of f) in
    ap (λ n. field n f.high f.low) (get_or-set_same cp0 f.register (bit_or kept put) 0 inside)
    ∙ field_of_or kept put f.high f.low
    ∙ ap (λ n. bit_or n (field put f.high f.low)) (nothing_left word f.high f.low is_field.order is_field.in_word)
    ∙ all_there value f.high f.low is_field.order fits

-- a write under a mask leaves a field alone with which the mask shares no bit
pub field_apart : (mask word value high low : ℕ) → low ≤ high → bit_and mask (bits high low) ≡ 0 → bit_and (all_bits - mask) (bits high low) ≡ bits high low
    → field (merged mask word value) high low ≡ field word high low
field_apart mask word value high low order apart outside =
    let none : bit_and (bit_and value mask) (bits high low) ≡ 0 = and_assoc (bits high low) value mask ∙ ap (bit_and value) apart ∙ and_comm value 0 in
    let same : bit_and (merged mask word value) (bits high low) ≡ bit_and word (bits high low) =
    and_or_apart (bits high low) (bit_and word (all_bits - mask)) (bit_and value mask) none
    ∙ and_assoc (bits high low) word (all_bits - mask) ∙ ap (bit_and word) outside in
    moved_down (field (merged mask word value) high low) low (bit_and word (bits high low)) (moved_up (merged mask word value) high low order ∙ same)
    ∙ sym (moved_down (field word high low) low (bit_and word (bits high low)) (moved_up word high low order))
