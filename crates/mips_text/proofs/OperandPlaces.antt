-- The places of the operands of an instruction: their texts are the printed ones, they chain, and what is expected at
-- them is what the operands' form expects.
use Rattle.std.proofs.Common.{◌≡◌, ◌<◌, ◌≤◌, ◌+◌, ◌*◌, ℕ, true, List, [], ◌∷◌, ◌++◌, map, codes, length, slice_index, None, refl, ap, sym, ◌∙◌, subst, arith, append_assoc, append-nil}
use Rattle.mips3_code.specs.Targets.{branch_target, jump_target}
use Rattle.mips3_table.specs.declared.instruction.Inst.{Inst}
use Rattle.mips_text.specs.declared.token.TokenKind.TheVariants.{Name, Number, Mark}
use Rattle.mips_text.specs.Tokens.{tokens_of}
use Rattle.mips_text.specs.Names.{register_name, cp0_name}
use Rattle.mips_text.specs.Values.{hex_text, signed_text}
use Rattle.r4_words.specs.Texts.{dec_of}
use Rattle.mips_text.specs.declared.operand.Field.{Field}
use Rattle.mips_text.specs.declared.operand.Field.TheVariants.{Rs, Rd, Imm}
use Rattle.mips_text.specs.declared.operand.Operand.{Operand}
use Rattle.mips_text.specs.declared.operand.Operand.TheVariants.{Register, Cp0Register, Decimal, Hexadecimal, Signed, Based, BranchTarget, JumpTarget}
use Rattle.mips_text.specs.declared.operand.Expected.TheVariants.{ARegister, ACp0Register, ANumber, ATarget, AMark}
use Rattle.mips_text.specs.declared.operand.Range.TheVariants.{Unsigned, WithSign}
use Rattle.mips_text.specs.Forms.{expected_of, separated}
use Rattle.mips_text.specs.Printed.{field_of, based_text, operand_text, with_commas, after_name, OperandFits, AllFit}
use Rattle.mips_text.proofs.Pieces.{Piece, is_end, IsPiece, text_of_pieces, Chain, Spells, line_of_one, line_of_more, register_piece, cp0_piece, decimal_piece, hexadecimal_piece, signed_piece, mark_piece}
use Rattle.mips_text.proofs.Places.{Place, place, pieces_at, expected_at, NoColon}

-- a general register, which this field has
abbrev pub register_place : Field → ℕ → Place
register_place field register = place (ARegister field) Name (register_name register)

abbrev pub signed_place : ℕ → Place
signed_place half = place (ANumber Imm (WithSign 16)) Number (signed_text half)

-- an address
abbrev pub target_place : ℕ → Place
target_place target = place ATarget Number (hex_text target)

abbrev pub mark_place : ℕ → Place
mark_place code = place (AMark code) Mark (code ∷ [])

-- the places of an operand, and after them these
abbrev pub places_before : Inst → ℕ → Operand → List Place → List Place
places_before inst at (Register field) more = register_place field (field_of field inst) ∷ more
places_before inst at Cp0Register more = place (ACp0Register Rd) Name (cp0_name inst.rd) ∷ more
places_before inst at (Decimal field width) more = place (ANumber field (Unsigned width)) Number (dec_of (field_of field inst)) ∷ more
places_before inst at (Hexadecimal field width) more = place (ANumber field (Unsigned width)) Number (hex_text (field_of field inst)) ∷ more
places_before inst at Signed more = signed_place inst.imm ∷ more
places_before inst at Based more = signed_place inst.imm ∷ mark_place 40 ∷ register_place Rs inst.rs ∷ mark_place 41 ∷ more
places_before inst at BranchTarget more = target_place (branch_target at inst.imm) ∷ more
places_before inst at JumpTarget more = target_place (jump_target at inst.imm) ∷ more

-- the places of operands, with commas between them
abbrev pub places_of : Inst → ℕ → List Operand → List Place
places_of inst at [] = []
places_of inst at (one ∷ []) = places_before inst at one []
places_of inst at (one ∷ next ∷ more) = places_before inst at one (mark_place 44 ∷ places_of inst at (next ∷ more))

-- what is expected
expected_before : (inst : Inst) (at : ℕ) (one : Operand) (more : List Place) → expected_at (places_before inst at one more) ≡ expected_of one ++ expected_at more
expected_before inst at (Register field) more = refl
expected_before inst at Cp0Register more = refl
expected_before inst at (Decimal field width) more = refl
expected_before inst at (Hexadecimal field width) more = refl
expected_before inst at Signed more = refl
expected_before inst at Based more = refl
expected_before inst at BranchTarget more = refl
expected_before inst at JumpTarget more = refl

pub expected_places : (inst : Inst) (at : ℕ) (operands : List Operand) → expected_at (places_of inst at operands) ≡ separated operands
expected_places inst at [] = refl
expected_places inst at (one ∷ []) = expected_before inst at one [] ∙ append-nil (expected_of one)
expected_places inst at (one ∷ next ∷ more) =
    expected_before inst at one (mark_place 44 ∷ places_of inst at (next ∷ more)) ∙ ap (λ e. expected_of one ++ AMark 44 ∷ e) (expected_places inst at (next ∷ more))

-- the text
abbrev text_at : List Place → List ℕ
text_at places = text_of_pieces (pieces_at places)

text_before : (inst : Inst) (at : ℕ) (one : Operand) (more : List Place) → text_at (places_before inst at one more) ≡ operand_text inst at one ++ text_at more
unfolding based_text
text_before inst at (Register field) more = refl
text_before inst at Cp0Register more = refl
text_before inst at (Decimal field width) more = refl
text_before inst at (Hexadecimal field width) more = refl
text_before inst at Signed more = refl
text_before inst at Based more = simp append_assoc
text_before inst at BranchTarget more = refl
text_before inst at JumpTarget more = refl

text_places : (inst : Inst) (at : ℕ) (operands : List Operand) → text_at (places_of inst at operands) ≡ with_commas (map (operand_text inst at) operands)
text_places inst at [] = refl
text_places inst at (one ∷ []) = text_before inst at one [] ∙ append-nil (operand_text inst at one)
text_places inst at (one ∷ next ∷ more) =
    text_before inst at one (mark_place 44 ∷ places_of inst at (next ∷ more)) ∙ ap (λ t. operand_text inst at one ++ 44 ∷ t) (text_places inst at (next ∷ more))
    ∙ sym (append_assoc (operand_text inst at one) (codes ",") (with_commas (map (operand_text inst at) (next ∷ more))))

-- each token ends where the next one begins
chain_before : (inst : Inst) (at : ℕ) (one : Operand) (more : List Place) → OperandFits inst one → is_end (slice_index (text_at more) 0) ≡ true → Chain (pieces_at more) →
    Chain (pieces_at (places_before inst at one more))
chain_before inst at (Register field) more fits ends chain = (register_piece (field_of field inst) fits, ends, chain)
chain_before inst at Cp0Register more fits ends chain = (cp0_piece inst.rd fits, ends, chain)
chain_before inst at (Decimal field width) more fits ends chain = (decimal_piece (field_of field inst), ends, chain)
chain_before inst at (Hexadecimal field width) more fits ends chain = (hexadecimal_piece (field_of field inst), ends, chain)
chain_before inst at Signed more fits ends chain = (signed_piece inst.imm fits, ends, chain)
chain_before inst at Based more fits ends chain =
    (signed_piece inst.imm fits.0, refl, (mark_piece 40 refl, tt, (register_piece inst.rs fits.1, refl, (mark_piece 41 refl, tt, chain))))
chain_before inst at BranchTarget more fits ends chain = (hexadecimal_piece (branch_target at inst.imm), ends, chain)
chain_before inst at JumpTarget more fits ends chain = (hexadecimal_piece (jump_target at inst.imm), ends, chain)

chain_places : (inst : Inst) (at : ℕ) (operands : List Operand) → AllFit inst operands → Chain (pieces_at (places_of inst at operands))
chain_places inst at [] fit = tt
chain_places inst at (one ∷ []) fit = chain_before inst at one [] fit.0 refl tt
chain_places inst at (one ∷ next ∷ more) fit =
    chain_before inst at one (mark_place 44 ∷ places_of inst at (next ∷ more)) fit.0 refl (mark_piece 44 refl, tt, chain_places inst at (next ∷ more) fit.1)

-- the first token of operands is no colon
colon_before : (inst : Inst) (at : ℕ) (one : Operand) (more : List Place) → NoColon (places_before inst at one more)
colon_before inst at (Register field) more = refl
colon_before inst at Cp0Register more = refl
colon_before inst at (Decimal field width) more = refl
colon_before inst at (Hexadecimal field width) more = refl
colon_before inst at Signed more = refl
colon_before inst at Based more = refl
colon_before inst at BranchTarget more = refl
colon_before inst at JumpTarget more = refl

pub colon_places : (inst : Inst) (at : ℕ) (operands : List Operand) → NoColon (places_of inst at operands)
colon_places inst at [] = tt
colon_places inst at (one ∷ []) = colon_before inst at one []
colon_places inst at (one ∷ next ∷ more) = colon_before inst at one (mark_place 44 ∷ places_of inst at (next ∷ more))

-- an operand has one token or more, and four at most
abbrev count_at : List Place → ℕ
count_at places = length (pieces_at places)

some_before : (inst : Inst) (at : ℕ) (one : Operand) (more : List Place) → (0 < count_at (places_before inst at one more)) × (count_at (places_before inst at one more) ≤ 4 + count_at more)
some_before inst at Based more = (omega arith, omega arith)
some_before inst at _ more = (omega arith, omega arith)

some_places : (inst : Inst) (at : ℕ) (one : Operand) (more : List Operand) → 0 < count_at (places_of inst at (one ∷ more))
some_places inst at one [] = (some_before inst at one []).0
some_places inst at one (next ∷ more) = (some_before inst at one (mark_place 44 ∷ places_of inst at (next ∷ more))).0

few_places : (inst : Inst) (at : ℕ) (operands : List Operand) → count_at (places_of inst at operands) ≤ 5 * length operands
few_places inst at [] = omega arith
few_places inst at (one ∷ []) = (let most = (some_before inst at one []).1 in omega arith)
few_places inst at (one ∷ next ∷ more) =
    let most = (some_before inst at one (mark_place 44 ∷ places_of inst at (next ∷ more))).1 in
    let rest = few_places inst at (next ∷ more) in
    omega arith

-- what a line of a name and such tokens is cut into
abbrev IsCut : List ℕ → List Piece → Type 0
IsCut line pieces = ((tokens_of line).refusal ≡ None) × Spells line (tokens_of line).tokens pieces

cut_pieces : (name : Piece) (pieces : List Piece) → IsPiece name → Chain pieces → 0 < length pieces → length pieces < 63 → IsCut (name.text ++ 32 ∷ text_of_pieces pieces) (name ∷ pieces)
cut_pieces name [] is chain some few = absurd (omega arith)
cut_pieces name (first ∷ more) is chain some few = line_of_more name first more is chain (omega arith)

pub cut_line : (name : Piece) (inst : Inst) (at : ℕ) (operands : List Operand) → IsPiece name → AllFit inst operands → length operands ≤ 3 →
    IsCut (name.text ++ after_name (map (operand_text inst at) operands)) (name ∷ pieces_at (places_of inst at operands))
cut_line name inst at [] is fit few = subst (λ line. IsCut line (name ∷ [])) (sym (append-nil name.text)) (line_of_one name is)
cut_line name inst at (one ∷ more) is fit few =
    let pieces = pieces_at (places_of inst at (one ∷ more)) in
    let count : length pieces ≤ 5 * length (one ∷ more) = few_places inst at (one ∷ more) in
    subst (λ t. IsCut (name.text ++ 32 ∷ t) (name ∷ pieces)) (text_places inst at (one ∷ more))
    (cut_pieces name pieces is (chain_places inst at (one ∷ more) fit) (some_places inst at one more) (omega arith))
