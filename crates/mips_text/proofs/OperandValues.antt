-- What stands at the places of an operand agrees with what is expected there, and gives the operand's fields back.
use Rattle.std.proofs.Common.{◌≡◌, ◌<◌, ◌-◌, ◌==◌, ◌^◌, ℕ, ℤ, pos, neg_ℤ, negsuc, suc, Bool, true, false, ◌&&◌, List, [], ◌∷◌, Option, Some, None, option_map, option_and_then, nat_lt, nat_le, is_none, if◌then◌else◌, refl, ap, ◌∙◌, arith, le-leb, ltb-true, ltb-false}
use Rattle.std.proofs.lemmas.Grind.{common_steps}
use Rattle.mips3_code.specs.Targets.{branch_target, jump_target}
use Rattle.mips3_table.specs.declared.instruction.Inst.{Inst}
use Rattle.mips3_code.proofs.Reach.{branch_target_below, jump_target_below}
use Rattle.mips_text.specs.declared.token.TokenKind.TheVariants.{Name, Number}
use Rattle.mips_text.specs.Names.{cp0_name}
use Rattle.r4_words.specs.Texts.{dec_of}
use Rattle.mips_text.specs.Values.{hex_text, signed_text, number_of}
use Rattle.mips_text.specs.declared.operand.Field.{Field}
use Rattle.mips_text.specs.declared.operand.Field.TheVariants.{Rs, Rd, Imm}
use Rattle.mips_text.specs.declared.operand.Operand.{Operand}
use Rattle.mips_text.specs.declared.operand.Operand.TheVariants.{Register, Cp0Register, Decimal, Hexadecimal, Signed, Based, BranchTarget, JumpTarget}
use Rattle.mips_text.specs.declared.operand.Expected.TheVariants.{ACp0Register, ANumber}
use Rattle.mips_text.specs.declared.operand.Range.{Range}
use Rattle.mips_text.specs.declared.operand.Range.TheVariants.{Unsigned, WithSign}
use Rattle.mips_text.specs.Forms.{in_range, width_of, in_bits, bits_in}
use Rattle.mips_text.specs.Printed.{field_of, OperandFits, AllFit}
use Rattle.mips_text.specs.Line.{with_field}
use Rattle.mips_text.proofs.ReadValues.{register_read, cp0_read, decimal_read, hexadecimal_read, signed_value, signed_read}
use Rattle.mips_text.proofs.Places.{Place, place, Agrees, AllAgree, with_places}
use Rattle.mips_text.proofs.OperandPlaces.{register_place, signed_place, target_place, mark_place, places_before, places_of}

-- a general register
register_agrees : (field : Field) (register : ℕ) → register < 32 → Agrees (register_place field register)
register_agrees field register lt = record { known = ap is_none (register_read register lt); kind = refl; range = refl }

-- a register of coprocessor 0
cp0_agrees : (register : ℕ) → register < 32 → Agrees (place (ACp0Register Rd) Name (cp0_name register))
cp0_agrees register lt = record { known = ap is_none (cp0_read register lt); kind = refl; range = refl }

-- a number without a sign
unsigned_range : (width n : ℕ) → n < 2 ^ width → in_range (Unsigned width) (pos n) ≡ true
unsigned_range width n lt = let within : nat_le n (2 ^ width - 1) ≡ true = le-leb n (2 ^ width - 1) (omega arith) in grind (arith, common_steps)

number_agrees : (field : Field) (width n : ℕ) (text : List ℕ) → number_of text ≡ pos n → n < 2 ^ width → Agrees (place (ANumber field (Unsigned width)) Number text)
number_agrees field width n text is lt = record { known = refl; kind = refl; range = ap (in_range (Unsigned width)) is ∙ unsigned_range width n lt }

in_bits_of : (range : Range) (n : ℤ) → in_range range n ≡ true → bits_in range n ≡ Some (in_bits (width_of range) n)
in_bits_of range n within = ap (λ b. if b then Some (in_bits (width_of range) n) else None) within

pub number_back : (width n : ℕ) (text : List ℕ) → number_of text ≡ pos n → n < 2 ^ width → bits_in (Unsigned width) (number_of text) ≡ Some n
number_back width n text is lt = ap (bits_in (Unsigned width)) is ∙ in_bits_of (Unsigned width) (pos n) (unsigned_range width n lt)

-- an address
target_agrees : (target : ℕ) → target < 2 ^ 32 → Agrees (target_place target)
target_agrees target lt = record { known = refl; kind = refl; range = ap (in_range (Unsigned 32)) (hexadecimal_read target) ∙ unsigned_range 32 target lt }

pub target_back : (target : ℕ) → target < 2 ^ 32 → bits_in (Unsigned 32) (number_of (hex_text target)) ≡ Some target
target_back target lt = number_back 32 target (hex_text target) (hexadecimal_read target) lt

-- a number in two's complement
negated : (half : ℕ) → half < 2 ^ 16 → neg_ℤ (pos (2 ^ 16 - half)) ≡ negsuc (2 ^ 16 - 1 - half)
negated half lt = let one_more : 2 ^ 16 - half ≡ suc (2 ^ 16 - 1 - half) = omega arith in ap (λ n. neg_ℤ (pos n)) one_more

range_by : (half : ℕ) (low : Bool) → half < 2 ^ 16 → nat_lt half (2 ^ 15) ≡ low → in_range (WithSign 16) (if low then pos half else neg_ℤ (pos (2 ^ 16 - half))) ≡ true
range_by half true lt is =
    let small = ltb-true half (2 ^ 15) is in
    let within : nat_le half (2 ^ 15 - 1) ≡ true = le-leb half (2 ^ 15 - 1) (omega arith) in
    grind (arith, common_steps)
range_by half false lt is =
    let large = ltb-false half (2 ^ 15) is in
    let within : nat_le (2 ^ 16 - 1 - half) (2 ^ 15 - 1) ≡ true = le-leb (2 ^ 16 - 1 - half) (2 ^ 15 - 1) (omega arith) in
    ap (in_range (WithSign 16)) (negated half lt) ∙ ap (λ b. b && true) within

signed_range : (half : ℕ) → half < 2 ^ 16 → in_range (WithSign 16) (signed_value half) ≡ true
signed_range half lt = range_by half (nat_lt half (2 ^ 15)) lt refl

signed_agrees : (half : ℕ) → half < 2 ^ 16 → Agrees (signed_place half)
signed_agrees half lt = record { known = refl; kind = refl; range = ap (in_range (WithSign 16)) (signed_read half lt) ∙ signed_range half lt }

bits_by : (half : ℕ) (low : Bool) → half < 2 ^ 16 → nat_lt half (2 ^ 15) ≡ low → in_bits 16 (if low then pos half else neg_ℤ (pos (2 ^ 16 - half))) ≡ half
bits_by half true lt is = refl
bits_by half false lt is =
    let same : 2 ^ 16 - 1 - (2 ^ 16 - 1 - half) ≡ half = omega arith in
    ap (in_bits 16) (negated half lt) ∙ same

signed_back : (half : ℕ) → half < 2 ^ 16 → bits_in (WithSign 16) (number_of (signed_text half)) ≡ Some half
signed_back half lt =
    ap (bits_in (WithSign 16)) (signed_read half lt) ∙ in_bits_of (WithSign 16) (signed_value half) (signed_range half lt)
    ∙ ap Some (bits_by half (nat_lt half (2 ^ 15)) lt refl)

-- a mark
mark_agrees : (code : ℕ) → Agrees (mark_place code)
mark_agrees code = record { known = refl; kind = eq_same code; range = refl }
  where
    eq_same : (n : ℕ) → (n == n) ≡ true
    eq_same n = grind (arith, common_steps)

-- each operand agrees with what its form expects
agree_before : (inst : Inst) (at : ℕ) (one : Operand) (more : List Place) → OperandFits inst one → AllAgree more → AllAgree (places_before inst at one more)
agree_before inst at (Register field) more fits agree = (register_agrees field (field_of field inst) fits, agree)
agree_before inst at Cp0Register more fits agree = (cp0_agrees inst.rd fits, agree)
agree_before inst at (Decimal field width) more fits agree =
    (number_agrees field width (field_of field inst) (dec_of (field_of field inst)) (decimal_read (field_of field inst)) fits.0, agree)
agree_before inst at (Hexadecimal field width) more fits agree =
    (number_agrees field width (field_of field inst) (hex_text (field_of field inst)) (hexadecimal_read (field_of field inst)) fits.0, agree)
agree_before inst at Signed more fits agree = (signed_agrees inst.imm fits, agree)
agree_before inst at Based more fits agree = (signed_agrees inst.imm fits.0, (mark_agrees 40, (register_agrees Rs inst.rs fits.1, (mark_agrees 41, agree))))
agree_before inst at BranchTarget more fits agree = (target_agrees (branch_target at inst.imm) (branch_target_below at inst.imm), agree)
agree_before inst at JumpTarget more fits agree = (target_agrees (jump_target at inst.imm) (jump_target_below at inst.imm fits), agree)

pub agree_places : (inst : Inst) (at : ℕ) (operands : List Operand) → AllFit inst operands → AllAgree (places_of inst at operands)
agree_places inst at [] fit = tt
agree_places inst at (one ∷ []) fit = agree_before inst at one [] fit.0 tt
agree_places inst at (one ∷ next ∷ more) fit =
    agree_before inst at one (mark_place 44 ∷ places_of inst at (next ∷ more)) fit.0 (mark_agrees 44, agree_places inst at (next ∷ more) fit.1)

-- an instruction with the fields that another one's operand says; a target says none
abbrev pub taken : Operand → Inst → Inst → Inst
taken (Register field) inst to = with_field field to (field_of field inst)
taken Cp0Register inst to = with_field Rd to inst.rd
taken (Decimal field width) inst to = with_field field to (field_of field inst)
taken (Hexadecimal field width) inst to = with_field field to (field_of field inst)
taken Signed inst to = with_field Imm to inst.imm
taken Based inst to = with_field Rs (with_field Imm to inst.imm) inst.rs
taken BranchTarget inst to = to
taken JumpTarget inst to = to

abbrev pub all_taken : List Operand → Inst → Inst → Inst
all_taken [] inst to = to
all_taken (one ∷ more) inst to = all_taken more inst (taken one inst to)

-- an instruction with a field, and with what later places give
abbrev then_places : List Place → Field → Inst → Option ℕ → Option Inst
then_places more field to value = option_and_then (with_places more) (option_map (with_field field to) value)

with_before : (inst : Inst) (at : ℕ) (one : Operand) (more : List Place) (to : Inst) → OperandFits inst one → with_places (places_before inst at one more) to ≡ with_places more (taken one inst to)
with_before inst at (Register field) more to fits = ap (then_places more field to) (register_read (field_of field inst) fits)
with_before inst at Cp0Register more to fits = ap (then_places more Rd to) (cp0_read inst.rd fits)
with_before inst at (Decimal field width) more to fits =
    ap (then_places more field to) (number_back width (field_of field inst) (dec_of (field_of field inst)) (decimal_read (field_of field inst)) fits.0)
with_before inst at (Hexadecimal field width) more to fits =
    ap (then_places more field to) (number_back width (field_of field inst) (hex_text (field_of field inst)) (hexadecimal_read (field_of field inst)) fits.0)
with_before inst at Signed more to fits = ap (then_places more Imm to) (signed_back inst.imm fits)
with_before inst at Based more to fits =
    ap (then_places (mark_place 40 ∷ register_place Rs inst.rs ∷ mark_place 41 ∷ more) Imm to) (signed_back inst.imm fits.0)
    ∙ ap (then_places (mark_place 41 ∷ more) Rs (with_field Imm to inst.imm)) (register_read inst.rs fits.1)
with_before inst at BranchTarget more to fits = refl
with_before inst at JumpTarget more to fits = refl

pub with_operands_back : (inst : Inst) (at : ℕ) (operands : List Operand) (to : Inst) → AllFit inst operands → with_places (places_of inst at operands) to ≡ Some (all_taken operands inst to)
with_operands_back inst at [] to fit = refl
with_operands_back inst at (one ∷ []) to fit = with_before inst at one [] to fit.0
with_operands_back inst at (one ∷ next ∷ more) to fit =
    with_before inst at one (mark_place 44 ∷ places_of inst at (next ∷ more)) to fit.0 ∙ with_operands_back inst at (next ∷ more) (taken one inst to) fit.1
