-- The text of a word is short: a name of at most 8 bytes, and at most three operands of at most 27 bytes each.
use Rattle.std.proofs.Common.{◌≡◌, ◌<◌, ◌≤◌, ◌+◌, ◌-◌, ◌*◌, ◌^◌, ◌==◌, ℕ, zero, suc, Bool, true, false, nat_le, nat_lt, if◌then◌else◌, List, [], ◌∷◌, ◌++◌, map, length, slice_index_or, codes, Option, Some, None, refl, arith, length-append}
use Rattle.std.specs.Prelude.{IfSome}
use Rattle.std.specs.List.{list_all}
use Rattle.std.proofs.lemmas.Bool.{leb-true, and_parts}
use Rattle.mips3_code.specs.Targets.{branch_target, jump_target}
use Rattle.r4_words.specs.Texts.{dec_of}
use Rattle.r4_words.proofs.Written.{length_dec_of}
use Rattle.mips3_table.specs.declared.instruction.Inst.{Inst}
use Rattle.mips3_table.specs.declared.operand_forms.Form.{Form}
use Rattle.mips3_table.specs.declared.operand_forms.Form.TheVariants.{Target}
use Rattle.mips3_table.specs.Instructions.{IsInst}
use Rattle.mips3_table.specs.Rows.{row_at}
use Rattle.mips3_table.proofs.InRange.{rs_below, rt_below, rd_below, sa_below, imm_below}
use Rattle.mips3_code.specs.Coding.{decoded, encoded}
use Rattle.mips3_code.proofs.RoundTrip.{decoded_in_range}
use Rattle.mips_text.specs.Names.{register_names, register_name, cp0_names, cp0_name}
use Rattle.mips_text.specs.Values.{hex_digits_of, hex_text, signed_text}
use Rattle.mips_text.specs.declared.operand.Field.{Field}
use Rattle.mips_text.specs.declared.operand.Field.TheVariants.{Rs, Rt, Rd, Sa, Imm}
use Rattle.mips_text.specs.declared.operand.Operand.{Operand}
use Rattle.mips_text.specs.declared.operand.Operand.TheVariants.{Register, Cp0Register, Decimal, Hexadecimal, Signed, Based, BranchTarget, JumpTarget}
use Rattle.mips_text.specs.Forms.{operands_of}
use Rattle.mips_text.specs.Printed.{field_of, based_text, operand_text, operand_texts, with_commas, after_name, by_form, text_of, decoded_text, word_text}
use Rattle.mips_text.proofs.Digits.{length_hex_digits_of}
use Rattle.mips_text.proofs.RowNames.{length_name}

-- where all names are short, so is the one at a place
each_short : (most : ℕ) (names : List (List ℕ)) (at : ℕ) → list_all (λ name. nat_le (length name) most) names ≡ true → length (slice_index_or names at []) ≤ most
each_short most [] at all = omega arith
each_short most (name ∷ rest) zero all = leb-true _ _ (and_parts (nat_le (length name) most) (list_all (λ one. nat_le (length one) most) rest) all).0
each_short most (name ∷ rest) (suc at) all = each_short most rest at (and_parts (nat_le (length name) most) (list_all (λ one. nat_le (length one) most) rest) all).1

register_short : (register : ℕ) → length (register_name register) ≤ 4
unfolding register_name register_names
register_short register = each_short 4 register_names register refl

cp0_short : (register : ℕ) → length (cp0_name register) ≤ 8
unfolding cp0_name cp0_names
cp0_short register = each_short 8 cp0_names register refl

hexadecimal_short : (n : ℕ) → n < 2 ^ 32 → length (hex_text n) ≤ 10
unfolding hex_text
hexadecimal_short n lt = omega (arith, length-append (codes "0x") (hex_digits_of n), length_hex_digits_of n lt)

signed_cases : (b : Bool) (half : ℕ) → half < 2 ^ 64 → length (if b then dec_of half else codes "-" ++ dec_of (2 ^ 16 - half)) ≤ 21
signed_cases true half lt = omega (arith, length_dec_of half lt)
signed_cases false half lt =
    let negated : 2 ^ 16 - half < 2 ^ 64 = omega arith in
    omega (arith, length-append (codes "-") (dec_of (2 ^ 16 - half)), length_dec_of (2 ^ 16 - half) negated)

signed_short : (half : ℕ) → half < 2 ^ 64 → length (signed_text half) ≤ 21
unfolding signed_text
signed_short half lt = signed_cases (nat_lt half (2 ^ 15)) half lt

based_short : (offset base : ℕ) → offset < 2 ^ 64 → length (based_text offset base) ≤ 27
unfolding based_text
based_short offset base lt =
    omega (arith, length-append (signed_text offset ++ codes "(" ++ register_name base) (codes ")"), length-append (signed_text offset ++ codes "(") (register_name base), length-append (signed_text offset) (codes "("), signed_short offset lt, register_short base)

branch_below : (at distance : ℕ) → branch_target at distance < 2 ^ 32
unfolding branch_target
branch_below at distance = omega arith

jump_below : (at number : ℕ) → number < 2 ^ 26 → jump_target at number < 2 ^ 32
unfolding jump_target
jump_below at number lt = omega arith

field_below : (field : Field) (inst : Inst) → IsInst inst → field_of field inst < 2 ^ 26
field_below Rs inst is = omega (arith, rs_below inst is)
field_below Rt inst is = omega (arith, rt_below inst is)
field_below Rd inst is = omega (arith, rd_below inst is)
field_below Sa inst is = omega (arith, sa_below inst is)
field_below Imm inst is = imm_below inst is

operand_short : (inst : Inst) (at : ℕ) (operand : Operand) → IsInst inst → length (operand_text inst at operand) ≤ 27
operand_short inst at (Register field) is = omega (arith, register_short (field_of field inst))
operand_short inst at Cp0Register is = omega (arith, cp0_short inst.rd)
operand_short inst at (Decimal field width) is =
    let below : field_of field inst < 2 ^ 64 = omega (arith, field_below field inst is) in
    omega (arith, length_dec_of (field_of field inst) below)
operand_short inst at (Hexadecimal field width) is =
    let below : field_of field inst < 2 ^ 32 = omega (arith, field_below field inst is) in
    omega (arith, hexadecimal_short (field_of field inst) below)
operand_short inst at Signed is =
    let below : inst.imm < 2 ^ 64 = omega (arith, imm_below inst is) in
    omega (arith, signed_short inst.imm below)
operand_short inst at Based is =
    let below : inst.imm < 2 ^ 64 = omega (arith, imm_below inst is) in
    based_short inst.imm inst.rs below
operand_short inst at BranchTarget is = omega (arith, hexadecimal_short (branch_target at inst.imm) (branch_below at inst.imm))
operand_short inst at JumpTarget is = omega (arith, hexadecimal_short (jump_target at inst.imm) (jump_below at inst.imm (imm_below inst is)))

-- each operand with its comma has at most 28 bytes
operands_short : (inst : Inst) (at : ℕ) (operands : List Operand) → IsInst inst → length (with_commas (map (operand_text inst at) operands)) ≤ 28 * length operands
operands_short inst at [] is = omega arith
operands_short inst at (one ∷ []) is = omega (arith, operand_short inst at one is)
operands_short inst at (one ∷ next ∷ more) is =
    let first = operand_text inst at one in
    let others = with_commas (map (operand_text inst at) (next ∷ more)) in
    omega (arith, length-append (first ++ codes ",") others, length-append first (codes ","), operand_short inst at one is, operands_short inst at (next ∷ more) is)

after_name_short : (inst : Inst) (at : ℕ) (operands : List Operand) → IsInst inst → length (after_name (map (operand_text inst at) operands)) ≤ 1 + 28 * length operands
after_name_short inst at [] is = omega arith
after_name_short inst at (one ∷ more) is =
    omega (arith, length-append (codes " ") (with_commas (map (operand_text inst at) (one ∷ more))), operands_short inst at (one ∷ more) is)

-- no form has more than three operands
few_operands : (form : Form) → length (operands_of form) ≤ 3
few_operands Target = omega arith
few_operands _ = omega arith

by_form_short : (name : List ℕ) (form : Form) (inst : Inst) (at : ℕ) → IsInst inst → length name ≤ 8 → length (by_form name form inst at) ≤ 100
by_form_short name form inst at is short =
    omega (arith, length-append name (after_name (operand_texts form inst at)), after_name_short inst at (operands_of form) is, few_operands form)

or_nop : (b : Bool) (text : List ℕ) → length text ≤ 100 → length (if b then codes "nop" else text) ≤ 100
or_nop true text short = omega arith
or_nop false text short = short

text_short : (inst : Inst) (at : ℕ) → IsInst inst → length (text_of inst at) ≤ 100
unfolding text_of
text_short inst at is =
    or_nop (encoded inst == 0) (by_form (row_at inst.row).name (row_at inst.row).form inst at)
    (by_form_short (row_at inst.row).name (row_at inst.row).form inst at is (length_name inst.row is.row))

decoded_short : (word at : ℕ) (inst : Option Inst) → word < 2 ^ 32 → IfSome inst IsInst → length (decoded_text word inst at) ≤ 100
decoded_short word at (Some inst) small is = text_short inst at is
decoded_short word at None small is = omega (arith, length-append (codes ".word ") (hex_text word), hexadecimal_short word small)

-- a line has room for the text of a word after the address and the word
pub length_word_text : (word at : ℕ) → word < 2 ^ 32 → length (word_text word at) ≤ 100
length_word_text word at small = decoded_short word at (decoded word) small (decoded_in_range word small)
