-- What is printed of a reserved word is read back as the word.
use Rattle.std.proofs.Common.{◌≡◌, ◌<◌, ◌-◌, ◌^◌, ℕ, List, [], ◌∷◌, ◌++◌, codes, Some, None, option_map, if◌then◌else◌, refl, ap, ◌∙◌, subst, arith, append-nil, le-leb}
use Rattle.mips_text.specs.declared.token.TokenKind.TheVariants.{Name, Number}
use Rattle.mips_text.specs.Tokens.{tokens_of}
use Rattle.mips_text.specs.Values.{hex_text, number_of}
use Rattle.mips_text.specs.declared.operand.Field.TheVariants.{Imm}
use Rattle.mips_text.specs.declared.operand.Expected.TheVariants.{ANumber}
use Rattle.mips_text.specs.declared.statement.Statement.TheVariants.{Word}
use Rattle.mips_text.specs.declared.operand.Range.TheVariants.{EitherSign}
use Rattle.mips_text.specs.Forms.{in_range, bits_in, token_text, statement_named}
use Rattle.mips_text.specs.declared.item.Item.TheVariants.{Words}
use Rattle.mips_text.specs.Line.{read_line, read_cut, parts_of, with_number, with_token, item_of}
use Rattle.mips_text.specs.Coded.{coded_at}
use Rattle.mips_text.specs.ReadBack.{ReadsAs}
use Rattle.mips_text.proofs.Pieces.{Piece, piece, Spells, name_piece, hexadecimal_piece, line_of_more}
use Rattle.mips_text.proofs.ReadValues.{hexadecimal_read}
use Rattle.mips_text.proofs.Places.{Place, place, pieces_at, Agrees, Puts, cut_spelled}

-- the number of a word
abbrev word_place : ℕ → Place
word_place word = place (ANumber Imm (EitherSign 32)) Number (hex_text word)

word_agrees : (word : ℕ) → word < 2 ^ 32 → Agrees (word_place word)
word_agrees word small = record { known = refl; kind = refl; range = ap (in_range (EitherSign 32)) (hexadecimal_read word) ∙ le-leb word (2 ^ 32 - 1) (omega arith) }

word_bits : (word : ℕ) → word < 2 ^ 32 → bits_in (EitherSign 32) (number_of (hex_text word)) ≡ Some word
word_bits word small =
    ap (bits_in (EitherSign 32)) (hexadecimal_read word) ∙ ap (λ b. if b then Some word else None) (le-leb word (2 ^ 32 - 1) (omega arith))

word_named : statement_named (codes ".word") ≡ Some Word
unfolding statement_named
word_named = refl

-- the statement puts the word
word_puts : (line : List ℕ) (word : ℕ) → word < 2 ^ 32 → Puts line Word (word_place word ∷ []) (Words (word ∷ []))
unfolding item_of
word_puts line word small [] spells = absurd spells
word_puts line word small (token ∷ next ∷ tokens) spells = absurd spells.2
word_puts line word small (token ∷ []) spells =
    ap (λ k. option_map Words (with_token (EitherSign 32) k (token_text line token) (Some []))) spells.0
    ∙ ap (λ t. option_map Words (with_number (bits_in (EitherSign 32) (number_of t)) (Some []))) spells.1
    ∙ ap (λ n. option_map Words (with_number n (Some []))) (word_bits word small)

-- the line that was printed of a reserved word
pub reserved_is_read : (word at : ℕ) → word < 2 ^ 32 → ReadsAs (codes ".word " ++ hex_text word) at word
unfolding read_line coded_at
reserved_is_read word at small =
    let line : List ℕ = codes ".word " ++ hex_text word in
    let pieces : List Piece = piece Name (codes ".word") ∷ pieces_at (word_place word ∷ []) in
    let cut = subst (λ text. let one : List ℕ = codes ".word " ++ text in ((tokens_of one).refusal ≡ None) × Spells one (tokens_of one).tokens pieces) (append-nil (hex_text word))
    (line_of_more (piece Name (codes ".word")) (piece Number (hex_text word)) [] (name_piece (codes ".word") refl) (hexadecimal_piece word, refl, tt) (omega arith)) in
    record {
      item = Words (word ∷ []);
      is_read =
          ap (λ r. read_cut line r (parts_of line (tokens_of line).tokens)) cut.0
          ∙ cut_spelled line (codes ".word") Word (word_place word ∷ []) (Words (word ∷ [])) (tokens_of line).tokens cut.1 word_named refl (word_agrees word small, tt) refl (word_puts line word small);
      is_word = λ labels. refl;
    }
