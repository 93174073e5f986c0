-- An `.org` of an address, as a line.
use Rattle.std.proofs.Common.{◌≡◌, ◌<◌, ◌-◌, ◌^◌, ℕ, List, [], ◌∷◌, ◌++◌, codes, Some, None, option_map, refl, ap, ◌∙◌, subst, arith, append-nil, le-leb, ◌&&◌, nat_le, Ok}
use Rattle.mips_text.specs.declared.token.TokenKind.TheVariants.{Name, Number}
use Rattle.mips_text.specs.Tokens.{tokens_of}
use Rattle.mips_text.specs.Values.{hex_text, number_of}
use Rattle.mips_text.specs.declared.operand.Field.TheVariants.{Imm}
use Rattle.mips_text.specs.declared.operand.Expected.TheVariants.{ANumber}
use Rattle.mips_text.specs.declared.statement.Statement.TheVariants.{Org}
use Rattle.mips_text.specs.declared.operand.Range.TheVariants.{Unsigned}
use Rattle.mips_text.specs.Forms.{in_range, bits_in, statement_named}
use Rattle.mips_text.specs.declared.item.Item.TheVariants.{Origin}
use Rattle.mips_text.specs.Line.{read_line, read_cut, parts_of, item_of}
use Rattle.mips_text.proofs.Pieces.{Piece, piece, Spells, name_piece, hexadecimal_piece, line_of_more}
use Rattle.mips_text.proofs.ReadValues.{hexadecimal_read}
use Rattle.mips_text.proofs.Places.{Place, place, pieces_at, Agrees, Puts, cut_spelled}
use Rattle.mips_text.proofs.OperandValues.{target_back}

-- the number of an address
abbrev origin_place : ℕ → Place
origin_place at = place (ANumber Imm (Unsigned 32)) Number (hex_text at)

origin_agrees : (at : ℕ) → at < 2 ^ 32 → Agrees (origin_place at)
origin_agrees at small = record { known = refl; kind = refl; range = ap (in_range (Unsigned 32)) (hexadecimal_read at) ∙ ap (λ b. b && nat_le at (2 ^ 32 - 1)) (le-leb 0 at (omega arith)) ∙ le-leb at (2 ^ 32 - 1) (omega arith) }

org_named : statement_named (codes ".org") ≡ Some Org
unfolding statement_named
org_named = refl

origin_puts : (line : List ℕ) (at : ℕ) → at < 2 ^ 32 → Puts line Org (origin_place at ∷ []) (Origin at)
unfolding item_of
origin_puts line at small [] spells = absurd spells
origin_puts line at small (token ∷ next ∷ tokens) spells = absurd spells.2
origin_puts line at small (token ∷ []) spells = ap (λ t. option_map Origin (bits_in (Unsigned 32) (number_of t))) spells.1 ∙ ap (option_map Origin) (target_back at small)

-- the line of an `.org`
pub org_is_read : (at : ℕ) → at < 2 ^ 32 → read_line (codes ".org " ++ hex_text at) ≡ Ok (record { label = None; item = Some (Origin at) })
unfolding read_line
org_is_read at small =
    let line : List ℕ = codes ".org " ++ hex_text at in
    let pieces : List Piece = piece Name (codes ".org") ∷ pieces_at (origin_place at ∷ []) in
    let cut = subst (λ text. let one : List ℕ = codes ".org " ++ text in ((tokens_of one).refusal ≡ None) × Spells one (tokens_of one).tokens pieces) (append-nil (hex_text at))
    (line_of_more (piece Name (codes ".org")) (piece Number (hex_text at)) [] (name_piece (codes ".org") refl) (hexadecimal_piece at, refl, tt) (omega arith)) in
    ap (λ r. read_cut line r (parts_of line (tokens_of line).tokens)) cut.0
    ∙ cut_spelled line (codes ".org") Org (origin_place at ∷ []) (Origin at) (tokens_of line).tokens cut.1 org_named refl (origin_agrees at small, tt) refl (origin_puts line at small)
