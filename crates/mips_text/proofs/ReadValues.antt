-- Names and numbers that are printed are read as what they stand for.
use Rattle.std.proofs.Common.{◌≡◌, ◌<◌, ◌+◌, ◌-◌, ◌^◌, ◌==◌, ◌&&◌, ℕ, ℤ, pos, neg_ℤ, zero, suc, Bool, true, false, if◌then◌else◌, codes, List, [], ◌∷◌, ◌++◌, length, slice_index, slice_index_or, Option, Some, None, nat_lt, refl, ap, sym, ◌∙◌, subst, arith, append-nil, eqb-true}
use Rattle.std.proofs.lemmas.Bool.{cond-false, cond-true, and_parts}
use Rattle.std.proofs.lemmas.List.Sums.{AllPass-from_list_all}
use Rattle.std.proofs.lemmas.Grind.{common_steps}
use Rattle.r4_words.specs.Texts.{dec_of, is_digit}
use Rattle.mips3_table.specs.Rows.{Row, rows, row_at, no_row}
use Rattle.mips3_table.proofs.Apart.{rows_count}
use Rattle.mips_text.specs.Tokens.{is_hexadecimal}
use Rattle.mips_text.specs.Names.{register_names, register_name, register_of, cp0_names, cp0_name, cp0_register_of}
use Rattle.mips_text.specs.Values.{number_of, magnitude_of, hex_digits_of, hex_text, signed_text}
use Rattle.mips_text.specs.declared.statement.Statement.{Statement}
use Rattle.mips_text.specs.declared.statement.Statement.TheVariants.{Instruction}
use Rattle.mips3_table.specs.Matching.{row_named}
use Rattle.mips_text.specs.Forms.{statement_named}
use Rattle.mips_text.proofs.Naming.{register_count, cp0_count}
use Rattle.mips_text.proofs.DigitTexts.{some_decimal, all_decimal, some_hexadecimal, all_hexadecimal, number_of_decimal, number_of_hexadecimal}
use Rattle.mips_text.proofs.Starts.{no_hexadecimal, is_hexadecimal_of}

-- NAMES

-- each element passes the test of its place
abbrev each_from : {X : Type 0} → (ℕ → X → Bool) → ℕ → List X → Bool
each_from test first [] = true
each_from test first (one ∷ more) = test first one && each_from test (first + 1) more

each_from_at : {X : Type 0} (test : ℕ → X → Bool) (first : ℕ) (all : List X) (at : ℕ) (none : X) → each_from test first all ≡ true → at < length all → test (first + at) (slice_index_or all at none) ≡ true
each_from_at test first [] at none is within = absurd (omega arith)
each_from_at test first (one ∷ more) zero none is within =
    let here : first ≡ first + zero = omega arith in
    subst (λ n. test n one ≡ true) here (and_parts (test first one) (each_from test (first + 1) more) is).0
each_from_at test first (one ∷ more) (suc at) none is within =
    let later = each_from_at test (first + 1) more at none (and_parts (test first one) (each_from test (first + 1) more) is).1 (omega arith) in
    let same : first + 1 + at ≡ first + suc at = omega arith in
    subst (λ n. test n (slice_index_or more at none) ≡ true) same later

abbrev is_number : ℕ → Option ℕ → Bool
is_number n (Some m) = m == n
is_number n None = false

number_is : (n : ℕ) (read : Option ℕ) → is_number n read ≡ true → read ≡ Some n
number_is n (Some m) is = ap Some (eqb-true m n is)
number_is n None is = absurd (cc)

registers_are_read : each_from (λ n name. is_number n (register_of name)) 0 register_names ≡ true
unfolding register_names register_of
registers_are_read = refl

pub register_read : (register : ℕ) → register < 32 → register_of (register_name register) ≡ Some register
unfolding register_name
register_read register lt =
    let within : register < length register_names = rw register_count lt in
    let here : 0 + register ≡ register = omega arith in
    number_is register _ (subst (λ n. is_number n (register_of (slice_index_or register_names register [])) ≡ true) here
    (each_from_at (λ n name. is_number n (register_of name)) 0 register_names register [] registers_are_read within))

cp0_are_read : each_from (λ n name. is_number n (cp0_register_of name)) 0 cp0_names ≡ true
unfolding cp0_names cp0_register_of
cp0_are_read = refl

pub cp0_read : (register : ℕ) → register < 32 → cp0_register_of (cp0_name register) ≡ Some register
unfolding cp0_name
cp0_read register lt =
    let within : register < length cp0_names = rw cp0_count lt in
    let here : 0 + register ≡ register = omega arith in
    number_is register _ (subst (λ n. is_number n (cp0_register_of (slice_index_or cp0_names register [])) ≡ true) here
    (each_from_at (λ n name. is_number n (cp0_register_of name)) 0 cp0_names register [] cp0_are_read within))

abbrev is_instruction : ℕ → Option Statement → Bool
is_instruction n (Some (Instruction row)) = row == n
is_instruction n _ = false

instruction_is : (n : ℕ) (read : Option Statement) → is_instruction n read ≡ true → read ≡ Some (Instruction n)
instruction_is n (Some (Instruction row)) is = ap (λ r. Some (Instruction r)) (eqb-true row n is)
instruction_is n _ is = absurd (cc)

-- no two rows have one name, and no row has the name of a further statement
rows_are_read : each_from (λ n (row : Row). is_instruction n (statement_named row.name)) 0 rows ≡ true
unfolding rows row_named statement_named
rows_are_read = refl

-- the row of a name is that row, and no further statement has its name
pub name_read : (row : ℕ) → row < 129 → statement_named (row_at row).name ≡ Some (Instruction row)
unfolding row_at
name_read row lt =
    let within : row < length rows = rw rows_count lt in
    let here : 0 + row ≡ row = omega arith in
    instruction_is row _ (subst (λ n. is_instruction n (statement_named (slice_index_or rows row no_row).name) ≡ true) here
    (each_from_at (λ n (other : Row). is_instruction n (statement_named other.name)) 0 rows row no_row rows_are_read within))

-- NUMBERS

digit_no_minus : (code : ℕ) → is_digit code ≡ true → (code == 45) ≡ false
digit_no_minus code is = grind (arith, common_steps)

number_of_digits : (text : List ℕ) → is_digit (slice_index text 0) ≡ true → number_of text ≡ pos (magnitude_of text)
unfolding number_of
number_of_digits text is = cond-false _ _ _ (digit_no_minus (slice_index text 0) is)

number_of_minus : (text : List ℕ) → number_of (45 ∷ text) ≡ neg_ℤ (pos (magnitude_of text))
unfolding number_of
number_of_minus text = refl

magnitude_decimal : (n : ℕ) → magnitude_of (dec_of n) ≡ n
magnitude_decimal n =
    let bare : is_hexadecimal (dec_of n) ≡ false = ap is_hexadecimal (sym (append-nil (dec_of n))) ∙ no_hexadecimal (dec_of n) [] (some_decimal n) (all_decimal n) refl in
    cond-false _ _ _ bare ∙ number_of_decimal n

magnitude_hexadecimal : (n : ℕ) → magnitude_of (48 ∷ 120 ∷ hex_digits_of n) ≡ n
magnitude_hexadecimal n =
    let text : List ℕ = 48 ∷ 120 ∷ hex_digits_of n in
    let prefixed : is_hexadecimal text ≡ true = ap (λ digits. is_hexadecimal (48 ∷ 120 ∷ digits)) (sym (append-nil (hex_digits_of n))) ∙ is_hexadecimal_of (hex_digits_of n) [] (some_hexadecimal n) (all_hexadecimal n) in
    cond-true _ _ _ prefixed ∙ number_of_hexadecimal n

pub decimal_read : (n : ℕ) → number_of (dec_of n) ≡ pos n
decimal_read n =
    let first : is_digit (slice_index (dec_of n) 0) ≡ true = AllPass-from_list_all is_digit (dec_of n) (all_decimal n) 0 0 (some_decimal n) in
    number_of_digits (dec_of n) first ∙ ap pos (magnitude_decimal n)

pub hexadecimal_read : (n : ℕ) → number_of (hex_text n) ≡ pos n
unfolding hex_text
hexadecimal_read n = number_of_digits (48 ∷ 120 ∷ hex_digits_of n) refl ∙ ap pos (magnitude_hexadecimal n)

-- what 16 bits in two's complement stand for
abbrev pub signed_value : ℕ → ℤ
signed_value half = if nat_lt half (2 ^ 15) then pos half else neg_ℤ (pos (2 ^ 16 - half))

signed_by : (is_small : Bool) (n magnitude : ℕ) →
    number_of (if is_small then dec_of n else codes "-" ++ dec_of magnitude) ≡ (if is_small then pos n else neg_ℤ (pos magnitude))
signed_by true n magnitude = decimal_read n
signed_by false n magnitude = number_of_minus (dec_of magnitude) ∙ ap (λ m. neg_ℤ (pos m)) (magnitude_decimal magnitude)

pub signed_read : (half : ℕ) → half < 2 ^ 16 → number_of (signed_text half) ≡ signed_value half
unfolding signed_text
signed_read half lt = signed_by (nat_lt half (2 ^ 15)) half (2 ^ 16 - half)
