-- The fields that operands give lie in the widths of their form.
use Rattle.std.proofs.Common.{◌≡◌, ◌<◌, ◌≤◌, ◌^◌, ℕ, Bool, true, false, List, [], ◌∷◌, ◌++◌, Option, Some, None, option_map, option_and_then, refl, sym, ◌∙◌, subst, arith, append_assoc, rules}
use Rattle.std.proofs.Math.Pow.{pow_mono}
use Rattle.std.proofs.lemmas.Nat.{pow_pos}
use Rattle.mips3_table.specs.declared.instruction.Inst.{Inst}
use Rattle.mips3_table.specs.declared.operand_forms.Form.{Form}
use Rattle.mips3_table.specs.declared.operand_forms.Form.TheVariants as form
use Rattle.mips3_table.specs.declared.operand_forms.Widths.{Widths}
use Rattle.mips3_table.specs.Operands.{widths_of}
use Rattle.mips3_table.specs.Rows.{rows, row_at}
use Rattle.mips3_table.specs.Instructions.{FitsWidths, IsInst, widths_at}
use Rattle.mips_text.specs.declared.token.Token.{Token}
use Rattle.mips_text.specs.declared.operand.Field.{Field}
use Rattle.mips_text.specs.declared.operand.Field.TheVariants.{Rs, Rt, Rd, Sa, Imm}
use Rattle.mips_text.specs.declared.operand.Expected.{Expected}
use Rattle.mips_text.specs.declared.operand.Expected.TheVariants.{ARegister, ACp0Register, ANumber, AnAlignment, ATarget, ALabel, AText, AMark}
use Rattle.mips_text.specs.declared.statement.Statement.TheVariants.{Instruction, Move}
use Rattle.r4_words.specs.Ascii.{comma}
use Rattle.mips_text.specs.Names.{register_of, cp0_register_of}
use Rattle.mips_text.specs.Values.{number_of}
use Rattle.mips_text.specs.Forms.{width_of, bits_in, operands_of, separated, token_text}
use Rattle.mips_text.specs.Line.{with_field, with_operand, with_operands, with_number, bare, or_row, inst_of}
use Rattle.mips_text.proofs.Registers.{register_below, cp0_register_below}
use Rattle.mips_asm.specs.Shown.{IsSoundBy}
use Rattle.mips_asm.specs.StatementsOf.{FitsField, IsOfField, ArePut}
use Rattle.mips_asm.proofs.Bounds.{small_bits}
use Rattle.mips_asm.proofs.InstRows.{sound_by_operands}
use Rattle.mips_asm.proofs.NamedRows.{or_is}

-- bits that a field has room for are a value of the field
pub bits_of_field : (field : Field) (width bits : ℕ) → FitsField field width → bits < 2 ^ width → IsOfField field bits
bits_of_field Imm width bits fits lt = tt
bits_of_field Rs width bits fits lt = omega (arith, pow_mono {i = width} {j = 5} fits)
bits_of_field Rt width bits fits lt = omega (arith, pow_mono {i = width} {j = 5} fits)
bits_of_field Rd width bits fits lt = omega (arith, pow_mono {i = width} {j = 5} fits)
bits_of_field Sa width bits fits lt = omega (arith, pow_mono {i = width} {j = 5} fits)

-- the width of a field
abbrev field_width : Widths → Field → ℕ
field_width w Rs = w.rs
field_width w Rt = w.rt
field_width w Rd = w.rd
field_width w Sa = w.sa
field_width w Imm = w.number

-- an expected token gives no more bits than its field has
abbrev Holds : Widths → Expected → Type 0
Holds w (ARegister field) = 5 ≤ field_width w field
Holds w (ACp0Register field) = 5 ≤ field_width w field
Holds w (ANumber field range) = width_of range ≤ field_width w field
Holds w one = Unit {0}

abbrev AllHold : Widths → List Expected → Type 0
AllHold w [] = Unit {0}
AllHold w (one ∷ expected) = Holds w one × AllHold w expected

-- an instruction of this row whose fields have these widths
record Fitting (w : Widths) (row : ℕ) (inst : Inst) : Type 0 where
  row_is : inst.row ≡ row
  fields : FitsWidths w inst

field_fits : (w : Widths) (row : ℕ) (field : Field) (inst : Inst) (value : ℕ) → value < 2 ^ field_width w field → Fitting w row inst → Fitting w row (with_field field inst value)
field_fits w row Rs inst value lt fits = record { row_is = fits.row_is; fields = record { rs = lt; rt = fits.fields.rt; rd = fits.fields.rd; sa = fits.fields.sa; imm = fits.fields.imm } }
field_fits w row Rt inst value lt fits = record { row_is = fits.row_is; fields = record { rs = fits.fields.rs; rt = lt; rd = fits.fields.rd; sa = fits.fields.sa; imm = fits.fields.imm } }
field_fits w row Rd inst value lt fits = record { row_is = fits.row_is; fields = record { rs = fits.fields.rs; rt = fits.fields.rt; rd = lt; sa = fits.fields.sa; imm = fits.fields.imm } }
field_fits w row Sa inst value lt fits = record { row_is = fits.row_is; fields = record { rs = fits.fields.rs; rt = fits.fields.rt; rd = fits.fields.rd; sa = lt; imm = fits.fields.imm } }
field_fits w row Imm inst value lt fits = record { row_is = fits.row_is; fields = record { rs = fits.fields.rs; rt = fits.fields.rt; rd = fits.fields.rd; sa = fits.fields.sa; imm = lt } }

same_fits : (w : Widths) (row : ℕ) (inst out : Inst) → Fitting w row inst → Some inst ≡ Some out → Fitting w row out
same_fits w row inst out fits is = let same : inst ≡ out = cc in subst (λ (i : Inst). Fitting w row i) same fits

-- a value that is given, if one is, fits the field
given_fits : (w : Widths) (row : ℕ) (field : Field) (inst out : Inst) (found : Option ℕ) → ((value : ℕ) → found ≡ Some value → value < 2 ^ field_width w field) → Fitting w row inst → option_map (with_field field inst) found ≡ Some out →
    Fitting w row out
given_fits w row field inst out None small fits is = absurd (cc)
given_fits w row field inst out (Some value) small fits is = same_fits w row (with_field field inst value) out (field_fits w row field inst value (small value refl) fits) is

wide : (value width other : ℕ) → width ≤ other → value < 2 ^ width → value < 2 ^ other
wide value width other le lt = omega (arith, pow_mono {i = width} {j = other} le)

operand_fits : (w : Widths) (row : ℕ) (one : Expected) (text : List ℕ) (inst out : Inst) → Holds w one → Fitting w row inst → with_operand one text inst ≡ Some out → Fitting w row out
operand_fits w row (ARegister field) text inst out holds fits is =
    given_fits w row field inst out (register_of text) (λ value found. wide value 5 (field_width w field) holds (register_below text value found)) fits is
operand_fits w row (ACp0Register field) text inst out holds fits is =
    given_fits w row field inst out (cp0_register_of text) (λ value found. wide value 5 (field_width w field) holds (cp0_register_below text value found)) fits is
operand_fits w row (ANumber field range) text inst out holds fits is =
    given_fits w row field inst out (bits_in range (number_of text)) (λ value found. wide value (width_of range) (field_width w field) holds (small_bits range (number_of text) value found)) fits is
operand_fits w row AnAlignment text inst out holds fits is = same_fits w row inst out fits is
operand_fits w row ATarget text inst out holds fits is = same_fits w row inst out fits is
operand_fits w row ALabel text inst out holds fits is = same_fits w row inst out fits is
operand_fits w row AText text inst out holds fits is = same_fits w row inst out fits is
operand_fits w row (AMark code) text inst out holds fits is = same_fits w row inst out fits is

then_fits : (w : Widths) (row : ℕ) (later : Inst → Option Inst) (found : Option Inst) (out : Inst) → ((next : Inst) → found ≡ Some next → Fitting w row next) → ((next : Inst) → Fitting w row next → later next ≡ Some out → Fitting w row out) →
    option_and_then later found ≡ Some out → Fitting w row out
then_fits w row later None out first rest is = absurd (cc)
then_fits w row later (Some next) out first rest is = rest next (first next refl) is

-- so an instruction with operands fits its widths
operands_fit : (w : Widths) (row : ℕ) (line : List ℕ) (expected : List Expected) (tokens : List Token) (inst out : Inst) → AllHold w expected → Fitting w row inst → with_operands line expected tokens inst ≡ Some out → Fitting w row out
operands_fit w row line [] tokens inst out hold fits is = same_fits w row inst out fits is
operands_fit w row line (one ∷ expected) [] inst out hold fits is = absurd (cc)
operands_fit w row line (one ∷ expected) (token ∷ tokens) inst out hold fits is =
    then_fits w row (with_operands line expected tokens) (with_operand one (token_text line token) inst) out
    (λ next found. operand_fits w row one (token_text line token) inst next hold.0 fits found)
    (λ next next_fits found. operands_fit w row line expected tokens next out hold.1 next_fits found) is

bare_fits : (w : Widths) (row : ℕ) → Fitting w row (bare row)
bare_fits w row = record { row_is = refl; fields = record { rs = pow_pos w.rs; rt = pow_pos w.rt; rd = pow_pos w.rd; sa = pow_pos w.sa; imm = pow_pos w.number } }

form_holds : (one : Form) → AllHold (widths_of one) (separated (operands_of one))
form_holds form.Target = search rules
form_holds _ = search rules

-- an instruction that was read can be coded
pub sound_of_row : (line : List ℕ) (row : ℕ) (tokens : List Token) (inst : Inst) → inst_of line row (Instruction row) tokens ≡ Some inst → row < 129 → IsSoundBy (operands_of (row_at row).form) inst
sound_of_row line row tokens inst is lt =
    let fits = operands_fit (widths_at row) row line (separated (operands_of (row_at row).form)) tokens (bare row) inst (form_holds (row_at row).form) (bare_fits (widths_at row) row) is in
    sound_by_operands row inst lt fits.row_is fits.fields

move_holds_there : AllHold (widths_at 91) (ARegister Rd ∷ AMark comma ∷ ARegister Rs ∷ [])
unfolding row_at rows
move_holds_there = (omega arith, (tt, (omega arith, tt)))

move_holds : AllHold (widths_at or_row) (ARegister Rd ∷ AMark comma ∷ ARegister Rs ∷ [])
move_holds = subst (λ row. AllHold (widths_at row) (ARegister Rd ∷ AMark comma ∷ ARegister Rs ∷ [])) (sym or_is) move_holds_there

pub sound_of_move : (line : List ℕ) (tokens : List Token) (inst : Inst) → inst_of line or_row Move tokens ≡ Some inst → IsInst inst
sound_of_move line tokens inst is =
    let fits = operands_fit (widths_at or_row) or_row line (ARegister Rd ∷ AMark comma ∷ ARegister Rs ∷ []) tokens (bare or_row) inst move_holds (bare_fits (widths_at or_row) or_row) is in
    record { row = (let same = fits.row_is in let place = or_is in omega arith); fields = subst (λ row. FitsWidths (widths_at row) inst) (sym fits.row_is) fits.fields }

-- numbers that are put one after another
pub put_first : (found : Option (List ℕ)) (done : Bool) (number : ℕ) (old new : List ℕ) → ArePut found done (old ++ number ∷ []) new → ArePut (with_number (Some number) found) done old new
put_first (Some more) true number old new are = are ∙ append_assoc old (number ∷ []) more
put_first (Some more) false number old new are = are
put_first None true number old new are = are
put_first None false number old new are = tt
