-- What is printed of an instruction is read back as the instruction's word.
use Rattle.std.proofs.Common.{Some, option_map, option_and_then, ◌≡◌, ◌<◌, ◌%◌, ◌^◌, ◌==◌, ℕ, Bool, true, false, List, [], ◌∷◌, codes, if◌then◌else◌, refl, ap, sym, ◌∙◌, subst, arith, eqb-true}
use Rattle.mips3_code.proofs.Reach.{branch_target_below, jump_target_below}
use Rattle.mips3_code.specs.Targets.{branch_target, jump_target}
use Rattle.mips3_table.specs.declared.instruction.Inst.{Inst}
use Rattle.mips3_table.specs.declared.operand_forms.Form.{Form}
use Rattle.mips3_table.specs.declared.operand_forms.Form.TheVariants.{Target, CompareBranch, ZeroBranch}
use Rattle.mips3_table.specs.Operands.{widths_of}
use Rattle.mips3_table.specs.Rows.{row_at}
use Rattle.mips3_table.specs.Instructions.{FitsWidths, IsInst}
use Rattle.mips3_code.specs.Coding.{encoded}
use Rattle.mips_text.specs.declared.token.TokenKind.TheVariants.{Name}
use Rattle.mips_text.specs.Tokens.{tokens_of, cut_from, start_of}
use Rattle.mips_text.specs.declared.statement.Statement.TheVariants.{Instruction}
use Rattle.mips3_table.specs.Matching.{row_named}
use Rattle.mips_text.specs.Forms.{operands_of, statement_named}
use Rattle.mips_text.specs.Printed.{AllFit, by_form, text_of}
use Rattle.mips_text.proofs.Reached.{distance_found, number_found}
use Rattle.mips_text.proofs.FormOperands.{fit_form, few_operands}
use Rattle.mips_text.specs.declared.item.Target.TheVariants.{Address}
use Rattle.mips_text.specs.declared.item.Item.{Item}
use Rattle.mips_text.specs.declared.item.Item.TheVariants.{Plain, BranchTo, JumpTo, Words}
use Rattle.mips_text.specs.Line.{read_line, read_statement, operands_fault, item_of, read_cut, parts_of, bare, item_by}
use Rattle.mips_text.specs.Coded.{word_of, word_with, branch_to, jump_to, coded_at}
use Rattle.mips_text.specs.ReadBack.{ReadsAs}
use Rattle.mips_text.proofs.Pieces.{piece, row_piece}
use Rattle.mips_text.proofs.ReadValues.{name_read}
use Rattle.mips_text.proofs.Places.{target_placed, item_placed, item_of_spelled, cut_spelled}
use Rattle.mips_text.proofs.OperandPlaces.{places_of, expected_places, colon_places, cut_line}
use Rattle.mips_text.proofs.OperandValues.{agree_places, all_taken, with_operands_back, target_back}

-- an instruction by its fields
same_fields : (one other : Inst) → one.row ≡ other.row → one.rs ≡ other.rs → one.rt ≡ other.rt → one.rd ≡ other.rd → one.sa ≡ other.sa → one.imm ≡ other.imm → one ≡ other
same_fields one other row rs rt rd sa imm = λ i. record { row = row i; rs = rs i; rt = rt i; rd = rd i; sa = sa i; imm = imm i }

-- the instruction that is read by the operands of a form
abbrev read_by : Form → Inst → Inst
read_by form inst = all_taken (operands_of form) inst (bare inst.row)

-- the number that the operands of a form say: a target says none
abbrev number_said : Form → ℕ → ℕ
number_said Target number = 0
number_said CompareBranch number = 0
number_said ZeroBranch number = 0
number_said _ number = number

-- that number is what is read
number_read : (form : Form) (inst : Inst) → FitsWidths (widths_of form) inst → (read_by form inst).imm ≡ number_said form inst.imm
number_read Target inst fits = refl
number_read form inst fits = omega arith

-- the instruction, but for the number of a target
read_fields : (form : Form) (inst : Inst) → FitsWidths (widths_of form) inst → read_by form inst ≡ record inst { imm = number_said form inst.imm }
read_fields Target inst fits = same_fields (read_by Target inst) (record inst { imm = 0 }) refl (omega arith) (omega arith) (omega arith) (omega arith) (omega arith)
read_fields form inst fits =
    same_fields (read_by form inst) (record inst { imm = number_said form inst.imm }) refl (omega arith) (omega arith) (omega arith) (omega arith) (number_read form inst fits)

-- a jump and a branch reach the address that was printed
jump_back : (read inst : Inst) (at place target : ℕ) → read ≡ record inst { imm = 0 } → inst.imm < 2 ^ 26 → place ≡ at → target ≡ jump_target at inst.imm → jump_to read place target ≡ word_of inst
unfolding jump_to
jump_back read inst at place target same lt here is =
    ap (λ a. jump_to read a target) here ∙ ap (word_with read) (number_found at target inst.imm (record { small = lt; reaches = sym is }))
    ∙ ap (λ (r : Inst). word_of (record r { imm = inst.imm })) same

branch_back : (read inst : Inst) (at place target : ℕ) → read ≡ record inst { imm = 0 } → inst.imm < 2 ^ 16 → place ≡ at → target ≡ branch_target at inst.imm → branch_to read place target ≡ word_of inst
unfolding branch_to
branch_back read inst at place target same lt here is =
    ap (λ a. branch_to read a target) here ∙ ap (word_with read) (distance_found at target inst.imm (record { small = lt; reaches = sym is }))
    ∙ ap (λ (r : Inst). word_of (record r { imm = inst.imm })) same

-- what the operands of a form say, where this instruction was read
abbrev pub said : Form → Inst → Inst → ℕ → Item
said Target read inst at = JumpTo read (Address (jump_target at inst.imm))
said CompareBranch read inst at = BranchTo read (Address (branch_target at inst.imm))
said ZeroBranch read inst at = BranchTo read (Address (branch_target at inst.imm))
said _ read inst at = Plain read

item_said : (form : Form) (read inst : Inst) (at : ℕ) → FitsWidths (widths_of form) inst → item_by (operands_of form) read (target_placed (places_of inst at (operands_of form))) ≡ Some (said form read inst at)
item_said Target read inst at fits = ap (λ t. option_map (JumpTo read) (option_map Address t)) (target_back (jump_target at inst.imm) (jump_target_below at inst.imm fits.imm))
item_said CompareBranch read inst at fits = ap (λ t. option_map (BranchTo read) (option_map Address t)) (target_back (branch_target at inst.imm) (branch_target_below at inst.imm))
item_said ZeroBranch read inst at fits = ap (λ t. option_map (BranchTo read) (option_map Address t)) (target_back (branch_target at inst.imm) (branch_target_below at inst.imm))
item_said form read inst at fits = refl

-- and that puts the word
word_back : (form : Form) (inst : Inst) (at : ℕ) (labels : List (List ℕ × ℕ)) → FitsWidths (widths_of form) inst → at < 2 ^ 32 →
    coded_at labels at (said form (read_by form inst) inst at) ≡ word_of inst
unfolding coded_at
word_back Target inst at labels fits within =
    let here : at % 2 ^ 32 ≡ at = omega arith in
    jump_back (read_by Target inst) inst at (at % 2 ^ 32) (jump_target at inst.imm) (read_fields Target inst fits) fits.imm here refl
word_back CompareBranch inst at labels fits within =
    let here : at % 2 ^ 32 ≡ at = omega arith in
    branch_back (read_by CompareBranch inst) inst at (at % 2 ^ 32) (branch_target at inst.imm) (read_fields CompareBranch inst fits) fits.imm here refl
word_back ZeroBranch inst at labels fits within =
    let here : at % 2 ^ 32 ≡ at = omega arith in
    branch_back (read_by ZeroBranch inst) inst at (at % 2 ^ 32) (branch_target at inst.imm) (read_fields ZeroBranch inst fits) fits.imm here refl
word_back form inst at labels fits within = ap word_of (read_fields form inst fits)

-- the line that was printed of an instruction, but for the word 0
form_read : (inst : Inst) (at : ℕ) → IsInst inst → at < 2 ^ 32 → ReadsAs (by_form (row_at inst.row).name (row_at inst.row).form inst at) at (encoded inst)
unfolding read_line
form_read inst at is within =
    let form = (row_at inst.row).form in
    let name = (row_at inst.row).name in
    let operands = operands_of form in
    let places = places_of inst at operands in
    let line = by_form name form inst at in
    let fit : AllFit inst operands = fit_form form inst is.fields in
    let expected = expected_places inst at operands in
    let cut = cut_line (piece Name name) inst at operands (row_piece inst.row is.row) fit (few_operands form) in
    let item : Item = said form (read_by form inst) inst at in
    let puts : item_placed inst.row places ≡ Some item =
    ap (option_and_then (λ read. item_by operands read (target_placed places))) (with_operands_back inst at operands (bare inst.row) fit)
    ∙ item_said form (read_by form inst) inst at is.fields in
    record {
      item = item;
      is_read =
          ap (λ r. read_cut line r (parts_of line (tokens_of line).tokens)) cut.0
          ∙ cut_spelled line name (Instruction inst.row) places item (tokens_of line).tokens cut.1 (name_read inst.row is.row) (sym expected) (agree_places inst at operands fit)
          (colon_places inst at operands) (λ tokens spells. item_of_spelled line inst.row places tokens spells expected ∙ puts);
      is_word = λ labels. word_back form inst at labels is.fields within;
    }

-- and that of the word 0
nop_read : (at : ℕ) → ReadsAs (codes "nop") at 0
unfolding read_line read_statement item_of operands_fault coded_at tokens_of cut_from start_of statement_named row_named
nop_read at = record { item = Words (0 ∷ []); is_read = refl; is_word = λ labels. refl }

-- either, by whether the word is 0
printed_by : (inst : Inst) (at : ℕ) (none : Bool) → IsInst inst → at < 2 ^ 32 → (encoded inst == 0) ≡ none →
    ReadsAs (if none then codes "nop" else by_form (row_at inst.row).name (row_at inst.row).form inst at) at (encoded inst)
printed_by inst at true is within zero = subst (ReadsAs (codes "nop") at) (sym (eqb-true (encoded inst) 0 zero)) (nop_read at)
printed_by inst at false is within some = form_read inst at is within

-- what is printed of an instruction is read back
pub printed_is_read : (inst : Inst) (at : ℕ) → IsInst inst → at < 2 ^ 32 → ReadsAs (text_of inst at) at (encoded inst)
unfolding text_of
printed_is_read inst at is within = printed_by inst at (encoded inst == 0) is within refl
