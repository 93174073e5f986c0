-- A number whose magnitude is 2 ^ 32 or more lies in no span.
use Rattle.std.proofs.Common.{◌≡◌, ◌+◌, ◌-◌, ◌<◌, ◌≤◌, ◌^◌, ◌&&◌, ℕ, ℤ, pos, negsuc, Bool, true, false, nat_le, int_le, if◌then◌else◌, Some, is_some, ap, sym, ◌∙◌, subst, leb-true, refl, arith, None}
use Rattle.std.proofs.Math.Pow.{pow_mono}
use Rattle.std.proofs.Math.Nat.{mod-eq_of_lt}
use Rattle.std.proofs.lemmas.Nat.{pow_pos}
use Rattle.std.proofs.lemmas.Bool.{and_parts}
use Rattle.std.proofs.lemmas.Grind.{common_steps}
use Rattle.mips_text.specs.declared.operand.Range.{Range}
use Rattle.mips_text.specs.declared.operand.Range.TheVariants.{Unsigned, WithSign, EitherSign}
use Rattle.mips_text.specs.Forms.{in_range, width_of, in_bits, bits_in}
use Rattle.mips_text.specs.Values.{bounded}
use Rattle.mips_text.specs.Line.{alignment_of}
use Rattle.mips_asm.specs.StatementsOf.{IsNarrow, low_bits_of}

past : (n k : ℕ) → bounded (pos n) ≡ None → k < 2 ^ 32 → nat_le n k ≡ false
past n k none lt = grind (arith, common_steps)

below : (n k : ℕ) → bounded (negsuc n) ≡ None → k + 1 < 2 ^ 32 → nat_le n k ≡ false
below n k none lt = grind (arith, common_steps)

unsigned_outside : (high : ℕ) (n : ℤ) → bounded n ≡ None → high < 2 ^ 32 → (int_le (pos 0) n && int_le n (pos high)) ≡ false
unsigned_outside high (pos n) none lt = grind (arith, common_steps, past n high none lt)
unsigned_outside high (negsuc n) none lt = refl

signed_outside : (low high : ℕ) (n : ℤ) → bounded n ≡ None → low + 1 < 2 ^ 32 → high < 2 ^ 32 → (int_le (negsuc low) n && int_le n (pos high)) ≡ false
signed_outside low high (pos n) none lt lt2 = past n high none lt2
signed_outside low high (negsuc n) none lt lt2 = grind (arith, common_steps, below n low none lt)

outside : (range : Range) (n : ℤ) → bounded n ≡ None → IsNarrow range → in_range range n ≡ false
outside (Unsigned width) n none narrow =
    let most : 2 ^ width ≤ 2 ^ 32 = pow_mono {i = width} {j = 32} narrow in
    unsigned_outside (2 ^ width - 1) n none (omega arith)
outside (WithSign width) n none narrow =
    let most : 2 ^ (width - 1) ≤ 2 ^ 31 = pow_mono {i = width - 1} {j = 31} (omega arith) in
    signed_outside (2 ^ (width - 1) - 1) (2 ^ (width - 1) - 1) n none (omega arith) (omega arith)
outside (EitherSign width) n none narrow =
    let most : 2 ^ (width - 1) ≤ 2 ^ 31 = pow_mono {i = width - 1} {j = 31} (omega arith) in
    let more : 2 ^ width ≤ 2 ^ 32 = pow_mono {i = width} {j = 32} (omega arith) in
    signed_outside (2 ^ (width - 1) - 1) (2 ^ width - 1) n none (omega arith) (omega arith)

pub far_outside : (range : Range) (n : ℤ) → bounded n ≡ None → IsNarrow range → bits_in range n ≡ None
far_outside range n none narrow = ap (λ b. if b then Some (in_bits (width_of range) n) else None) (outside range n none narrow)

-- a number that lies in a range has its bits
bits_by : (b : Bool) (value : ℕ) → is_some (if b then Some value else None) ≡ b
bits_by true value = refl
bits_by false value = refl

pub some_in_range : (range : Range) (n : ℤ) → is_some (bits_in range n) ≡ in_range range n
some_in_range range n = bits_by (in_range range n) (in_bits (width_of range) n)

below_width : (width high : ℕ) (n : ℤ) → high < 2 ^ width → int_le n (pos high) ≡ true → in_bits width n < 2 ^ width
below_width width high (pos n) lt is = (let le = leb-true n high is in omega arith)
below_width width high (negsuc n) lt is = omega (arith, pow_pos width)

high_of : Range → ℕ
high_of (Unsigned width) = 2 ^ width - 1
high_of (WithSign width) = 2 ^ (width - 1) - 1
high_of (EitherSign width) = 2 ^ width - 1

is_high : (range : Range) (n : ℤ) → in_range range n ≡ true → int_le n (pos (high_of range)) ≡ true
unfolding high_of
is_high (Unsigned width) n is = (and_parts (int_le (pos 0) n) (int_le n (pos (2 ^ width - 1))) is).1
is_high (WithSign width) n is = (and_parts (int_le (negsuc (2 ^ (width - 1) - 1)) n) (int_le n (pos (2 ^ (width - 1) - 1))) is).1
is_high (EitherSign width) n is = (and_parts (int_le (negsuc (2 ^ (width - 1) - 1)) n) (int_le n (pos (2 ^ width - 1))) is).1

high_small : (range : Range) → high_of range < 2 ^ width_of range
unfolding high_of
high_small (Unsigned width) = omega (arith, pow_pos width)
high_small (WithSign width) = omega (arith, pow_pos (width - 1), pow_mono {i = width - 1} {j = width} (omega arith))
high_small (EitherSign width) = omega (arith, pow_pos width)

small_by : (range : Range) (n : ℤ) (b : Bool) (bits : ℕ) → in_range range n ≡ b → (if b then Some (in_bits (width_of range) n) else None) ≡ Some bits → bits < 2 ^ width_of range
small_by range n true bits within is =
    let same : in_bits (width_of range) n ≡ bits = cc in
    subst (λ value. value < 2 ^ width_of range) same (below_width (width_of range) (high_of range) n (high_small range) (is_high range n within))
small_by range n false bits within is = absurd (cc)

pub small_bits : (range : Range) (n : ℤ) (bits : ℕ) → bits_in range n ≡ Some bits → bits < 2 ^ width_of range
small_bits range n bits is = small_by range n (in_range range n) bits refl is

-- the low bits of a number that lies in a range are the number's
is_low : (range : Range) (n : ℕ) → in_range range (negsuc n) ≡ true → n < 2 ^ width_of range
is_low (Unsigned width) n is = absurd (cc)
is_low (WithSign width) n is =
    let le = leb-true n (2 ^ (width - 1) - 1) (and_parts (int_le (negsuc (2 ^ (width - 1) - 1)) (negsuc n)) true is).0 in
    omega (arith, le, pow_pos (width - 1), pow_mono {i = width - 1} {j = width} (omega arith))
is_low (EitherSign width) n is =
    let le = leb-true n (2 ^ (width - 1) - 1) (and_parts (int_le (negsuc (2 ^ (width - 1) - 1)) (negsuc n)) true is).0 in
    omega (arith, le, pow_pos (width - 1), pow_mono {i = width - 1} {j = width} (omega arith))

low_bits_are : (range : Range) (n : ℤ) → in_range range n ≡ true → low_bits_of (width_of range) n ≡ in_bits (width_of range) n
low_bits_are range (pos n) is = mod-eq_of_lt (let le = leb-true n (high_of range) (is_high range (pos n) is) in omega (arith, le, high_small range))
low_bits_are range (negsuc n) is = ap (λ m. 2 ^ width_of range - 1 - m) (mod-eq_of_lt (is_low range n is))

pub bits_there : (range : Range) (n : ℤ) → in_range range n ≡ true → Some (low_bits_of (width_of range) n) ≡ bits_in range n
bits_there range n is = ap Some (low_bits_are range n is) ∙ ap (λ b. if b then Some (in_bits (width_of range) n) else None) (sym is)

pub no_bits : (range : Range) (n : ℤ) → in_range range n ≡ false → None ≡ bits_in range n
no_bits range n is = ap (λ b. if b then Some (in_bits (width_of range) n) else None) (sym is)

pub far_alignment : (n : ℤ) → bounded n ≡ None → alignment_of n ≡ None
far_alignment (pos n) none = grind (arith, common_steps, past n 12 none (omega arith))
far_alignment (negsuc n) none = refl
