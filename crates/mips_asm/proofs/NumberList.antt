-- The tokens that are expected: those of a list of numbers, and their ranges.
use Rattle.std.proofs.Common.{◌≡◌, ◌-◌, ◌<◌, ℕ, zero, suc, [], ◌∷◌, refl, ap, arith, rules}
use Rattle.std.specs.List.{All}
use Rattle.std.proofs.lemmas.Grind.{common_steps}
use Rattle.std.proofs.lemmas.List.Elements.{All-cons, All-nil}
use Rattle.mips3_table.specs.declared.operand_forms.Form.{Form}
use Rattle.mips3_table.specs.declared.operand_forms.Form.TheVariants as form
use Rattle.mips3_table.specs.Rows.{row_at}
use Rattle.mips_text.specs.declared.operand.Range.{Range}
use Rattle.mips_text.specs.declared.operand.Range.TheVariants.{EitherSign}
use Rattle.mips_text.specs.declared.operand.Field.TheVariants.{Imm}
use Rattle.mips_text.specs.declared.operand.Expected.TheVariants.{ANumber, AMark}
use Rattle.mips_text.specs.declared.statement.Statement.{Statement}
use Rattle.mips_text.specs.declared.statement.Statement.TheVariants.{Instruction, Word, Byte}
use Rattle.mips_text.specs.Forms.{operands_of, separated, shape_of}
use Rattle.mips_text.specs.Line.{numbers_expected, tokens_expected}
use Rattle.mips_asm.specs.StatementsOf.{IsNarrow, IsNarrowAt}

pub numbers_more : (more : ℕ) (range : Range) → 0 < more → numbers_expected more range ≡ ANumber Imm range ∷ AMark 44 ∷ numbers_expected (more - 1) range
numbers_more zero range lt = absurd (omega arith)
numbers_more (suc more) range lt = let same : more ≡ suc more - 1 = omega arith in ap (λ n. ANumber Imm range ∷ AMark 44 ∷ numbers_expected n range) same

pub numbers_last : (more : ℕ) (range : Range) → more ≡ 0 → numbers_expected more range ≡ ANumber Imm range ∷ []
numbers_last zero range none = refl
numbers_last (suc more) range none = absurd (omega arith)

-- a list of numbers one by one
pub ruleset number_by_number = (numbers_more, numbers_last, common_steps)

narrow_numbers : (more : ℕ) (range : Range) → IsNarrow range → All IsNarrowAt (numbers_expected more range)
narrow_numbers zero range narrow = All-cons IsNarrowAt (ANumber Imm range) [] (narrow, tt) (All-nil IsNarrowAt)
narrow_numbers (suc more) range narrow =
    All-cons IsNarrowAt (ANumber Imm range) (AMark 44 ∷ numbers_expected more range) (narrow, tt)
    (All-cons IsNarrowAt (AMark 44) (numbers_expected more range) tt (narrow_numbers more range narrow))

narrow_form : (one : Form) → All IsNarrowAt (separated (operands_of one))
narrow_form form.Target = search rules
narrow_form _ = search rules

pub narrow_tokens : (statement : Statement) (count : ℕ) → All IsNarrowAt (tokens_expected (shape_of statement) count)
narrow_tokens (Instruction row) count = narrow_form (row_at row).form
narrow_tokens Word count = narrow_numbers _ (EitherSign 32) (omega arith, omega arith)
narrow_tokens Byte count = narrow_numbers _ (EitherSign 8) (omega arith, omega arith)
narrow_tokens _ count = search rules
