-- Texts that have no newline are lines; what is printed of an instruction is one.
use Rattle.std.proofs.Common.{◌≡◌, ◌<◌, ◌-◌, ◌^◌, ◌==◌, ◌&&◌, ℕ, Bool, true, false, not, codes, List, [], ◌∷◌, ◌++◌, length, map, cond, nat_lt, if◌then◌else◌, refl, ap, ◌∙◌, arith, length-append}
use Rattle.std.specs.List.{list_all}
use Rattle.std.proofs.lemmas.Bool.{and_parts}
use Rattle.std.proofs.lemmas.List.Folds.{list_all-append}
use Rattle.std.proofs.lemmas.List.Sums.{AllPass-from_list_all}
use Rattle.std.proofs.lemmas.Grind.{common_steps}
use Rattle.mips3_code.specs.Targets.{branch_target, jump_target}
use Rattle.r4_words.specs.Texts.{dec_of, is_digit}
use Rattle.mips3_table.specs.declared.instruction.Inst.{Inst}
use Rattle.mips3_table.specs.Rows.{Row, rows, row_at}
use Rattle.mips3_table.specs.Instructions.{IsInst}
use Rattle.mips3_table.proofs.Apart.{each_at, rows_count}
use Rattle.mips3_code.specs.Coding.{encoded}
use Rattle.mips_text.specs.declared.operand.Operand.{Operand}
use Rattle.mips_text.specs.declared.operand.Operand.TheVariants.{Register, Cp0Register, Decimal, Hexadecimal, Signed, Based, BranchTarget, JumpTarget}
use Rattle.mips_text.specs.Tokens.{is_hex_digit}
use Rattle.mips_text.specs.Names.{register_names, register_name, cp0_names, cp0_name}
use Rattle.mips_text.specs.Values.{hex_digits_of, hex_text, signed_text}
use Rattle.mips_text.specs.Forms.{operands_of}
use Rattle.mips_text.specs.Printed.{field_of, based_text, operand_text, with_commas, after_name, by_form, text_of, OperandFits, AllFit}
use Rattle.mips_text.proofs.Naming.{register_count, cp0_count}
use Rattle.mips_text.proofs.DigitTexts.{all_decimal, all_hexadecimal}
use Rattle.mips_text.proofs.FormOperands.{fit_form}
use Rattle.mips_text.proofs.Pieces.{row_piece}
use Rattle.mips_asm.specs.Layout.{before_lines, lines_of}
use Rattle.mips_asm.specs.LabelsOf.{in_line}

-- a text without a newline
abbrev pub InLine : List ℕ → Type 0
InLine text = list_all in_line text ≡ true

-- LINES

no_newline : (b : Bool) → not b ≡ true → b ≡ false
no_newline true is = absurd (cc)
no_newline false is = refl

-- the first of two lines
pub lines_of_first : (front back : List ℕ) → InLine front → lines_of (front ++ 10 ∷ back) ≡ front ∷ lines_of back
lines_of_first [] back all = refl
lines_of_first (code ∷ front) back all =
    let parts = and_parts (in_line code) (list_all in_line front) all in
    ap (λ b. cond b ([] ∷ lines_of (front ++ 10 ∷ back)) (before_lines code (lines_of (front ++ 10 ∷ back)))) (no_newline (code == 10) parts.0)
    ∙ ap (before_lines code) (lines_of_first front back parts.1)

-- the last line
pub lines_of_only : (text : List ℕ) → 0 < length text → InLine text → lines_of text ≡ text ∷ []
lines_of_only [] some all = absurd (omega arith)
lines_of_only (code ∷ []) some all =
    let parts = and_parts (in_line code) true all in
    ap (λ b. cond b ([] ∷ []) (before_lines code [])) (no_newline (code == 10) parts.0)
lines_of_only (code ∷ next ∷ rest) some all =
    let parts = and_parts (in_line code) (list_all in_line (next ∷ rest)) all in
    ap (λ b. cond b ([] ∷ lines_of (next ∷ rest)) (before_lines code (lines_of (next ∷ rest)))) (no_newline (code == 10) parts.0)
    ∙ ap (before_lines code) (lines_of_only (next ∷ rest) (omega arith) parts.1)

-- WHAT IS PRINTED

pub joined : (front back : List ℕ) → InLine front → InLine back → InLine (front ++ back)
joined front back first last = list_all-append in_line front back ∙ ap (λ b. b && list_all in_line back) first ∙ last

digit_in_line : (code : ℕ) → is_digit code ≡ true → in_line code ≡ true
digit_in_line code is = grind (arith, common_steps)

hex_digit_in_line : (code : ℕ) → is_hex_digit code ≡ true → in_line code ≡ true
hex_digit_in_line code is = grind (arith, common_steps)

all_in : (test : ℕ → Bool) → ((code : ℕ) → test code ≡ true → in_line code ≡ true) → (text : List ℕ) → list_all test text ≡ true → InLine text
all_in test each [] all = refl
all_in test each (code ∷ text) all =
    let parts = and_parts (test code) (list_all test text) all in
    ap (λ b. b && list_all in_line text) (each code parts.0) ∙ all_in test each text parts.1

decimal_in_line : (n : ℕ) → InLine (dec_of n)
decimal_in_line n = all_in is_digit digit_in_line (dec_of n) (all_decimal n)

pub hexadecimal_in_line : (n : ℕ) → InLine (hex_text n)
unfolding hex_text
hexadecimal_in_line n = joined (codes "0x") (hex_digits_of n) refl (all_in is_hex_digit hex_digit_in_line (hex_digits_of n) (all_hexadecimal n))

signed_by : (is_small : Bool) (n magnitude : ℕ) → InLine (if is_small then dec_of n else codes "-" ++ dec_of magnitude)
signed_by true n magnitude = decimal_in_line n
signed_by false n magnitude = joined (codes "-") (dec_of magnitude) refl (decimal_in_line magnitude)

signed_in_line : (half : ℕ) → InLine (signed_text half)
unfolding signed_text
signed_in_line half = signed_by (nat_lt half (2 ^ 15)) half (2 ^ 16 - half)

registers_in_line : list_all (list_all in_line) register_names ≡ true
unfolding register_names
registers_in_line = refl

register_in_line : (register : ℕ) → register < 32 → InLine (register_name register)
unfolding register_name
register_in_line register lt =
    let within : register < length register_names = rw register_count lt in
    AllPass-from_list_all (list_all in_line) register_names registers_in_line register [] within

all_cp0_in_line : list_all (list_all in_line) cp0_names ≡ true
unfolding cp0_names
all_cp0_in_line = refl

cp0_in_line : (register : ℕ) → register < 32 → InLine (cp0_name register)
unfolding cp0_name
cp0_in_line register lt =
    let within : register < length cp0_names = rw cp0_count lt in
    AllPass-from_list_all (list_all in_line) cp0_names all_cp0_in_line register [] within

rows_in_line : list_all (λ (row : Row). list_all in_line row.name) rows ≡ true
unfolding rows
rows_in_line = refl

row_in_line : (row : ℕ) → row < 129 → InLine (row_at row).name
unfolding row_at
row_in_line row lt =
    let within : row < length rows = rw rows_count lt in
    each_at (λ (one : Row). list_all in_line one.name) rows row rows_in_line within

based_in_line : (offset base : ℕ) → base < 32 → InLine (based_text offset base)
unfolding based_text
based_in_line offset base lt =
    joined (signed_text offset ++ codes "(" ++ register_name base) (codes ")")
    (joined (signed_text offset ++ codes "(") (register_name base) (joined (signed_text offset) (codes "(") (signed_in_line offset) refl) (register_in_line base lt)) refl

operand_in_line : (inst : Inst) (at : ℕ) (operand : Operand) → OperandFits inst operand → InLine (operand_text inst at operand)
operand_in_line inst at (Register field) fits = register_in_line (field_of field inst) fits
operand_in_line inst at Cp0Register fits = cp0_in_line inst.rd fits
operand_in_line inst at (Decimal field width) fits = decimal_in_line (field_of field inst)
operand_in_line inst at (Hexadecimal field width) fits = hexadecimal_in_line (field_of field inst)
operand_in_line inst at Signed fits = signed_in_line inst.imm
operand_in_line inst at Based fits = based_in_line inst.imm inst.rs fits.1
operand_in_line inst at BranchTarget fits = hexadecimal_in_line (branch_target at inst.imm)
operand_in_line inst at JumpTarget fits = hexadecimal_in_line (jump_target at inst.imm)

operands_in_line : (inst : Inst) (at : ℕ) (operands : List Operand) → AllFit inst operands → InLine (with_commas (map (operand_text inst at) operands))
operands_in_line inst at [] fits = refl
operands_in_line inst at (one ∷ []) fits = operand_in_line inst at one fits.0
operands_in_line inst at (one ∷ next ∷ more) fits =
    joined (operand_text inst at one ++ codes ",") (with_commas (map (operand_text inst at) (next ∷ more)))
    (joined (operand_text inst at one) (codes ",") (operand_in_line inst at one fits.0) refl) (operands_in_line inst at (next ∷ more) fits.1)

after_in_line : (inst : Inst) (at : ℕ) (operands : List Operand) → AllFit inst operands → InLine (after_name (map (operand_text inst at) operands))
after_in_line inst at [] fits = refl
after_in_line inst at (one ∷ more) fits = joined (codes " ") (with_commas (map (operand_text inst at) (one ∷ more))) refl (operands_in_line inst at (one ∷ more) fits)

-- a line that is not empty
pub record IsLine (text : List ℕ) : Type 0 where
  pub some : 0 < length text
  pub in_one : InLine text

form_is_line : (inst : Inst) (at : ℕ) → IsInst inst → IsLine (by_form (row_at inst.row).name (row_at inst.row).form inst at)
form_is_line inst at is =
    let name = (row_at inst.row).name in
    let operands = operands_of (row_at inst.row).form in
    let after = after_name (map (operand_text inst at) operands) in
    record {
      some = omega (arith, (row_piece inst.row is.row).some, length-append name after);
      in_one = joined name after (row_in_line inst.row is.row) (after_in_line inst at operands (fit_form (row_at inst.row).form inst is.fields));
    }

printed_by : (inst : Inst) (at : ℕ) (none : Bool) → IsInst inst → IsLine (if none then codes "nop" else by_form (row_at inst.row).name (row_at inst.row).form inst at)
printed_by inst at true is = record { some = omega arith; in_one = refl }
printed_by inst at false is = form_is_line inst at is

-- what is printed of an instruction
pub printed_is_line : (inst : Inst) (at : ℕ) → IsInst inst → IsLine (text_of inst at)
unfolding text_of
printed_is_line inst at is = printed_by inst at (encoded inst == 0) is

-- and of a reserved word
pub reserved_is_line : (word : ℕ) → IsLine (codes ".word " ++ hex_text word)
reserved_is_line word = record {
  some = omega (arith, length-append (codes ".word ") (hex_text word));
  in_one = joined (codes ".word ") (hex_text word) refl (hexadecimal_in_line word);
}
