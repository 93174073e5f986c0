-- Tokens by their kinds and texts: a line that is put together of them is cut into them again.
use Rattle.std.proofs.Common.{◌≡◌, ◌<◌, ◌≤◌, ◌+◌, ◌-◌, ◌^◌, ◌==◌, ℕ, suc, Bool, true, false, if◌then◌else◌, codes, List, [], ◌∷◌, ◌++◌, length, take, drop, slice_index, None, nat_lt, refl, ap, sym, ◌∙◌, subst, arith, length-append, length-drop, append_assoc, append-nil, drop-drop}
use Rattle.std.specs.List.{list_all}
use Rattle.std.proofs.lemmas.Bool.{cond-false, and_parts}
use Rattle.std.proofs.lemmas.List.Sums.{AllPass-from_list_all}
use Rattle.std.proofs.lemmas.List.{get_or-append-add}
use Rattle.std.proofs.Math.Seq.{drop-append_seam, take-append_seam}
use Rattle.std.proofs.lemmas.Grind.{common_steps}
use Rattle.r4_words.specs.Texts.{dec_of, is_digit}
use Rattle.mips3_table.specs.Rows.{Row, rows, row_at}
use Rattle.mips3_table.proofs.Apart.{each_at, rows_count}
use Rattle.mips_text.specs.declared.token.Token.{Token}
use Rattle.mips_text.specs.declared.token.TokenKind.{TokenKind}
use Rattle.mips_text.specs.declared.token.TokenKind.TheVariants.{Name, Number, Text, Mark}
use Rattle.mips_text.specs.declared.token.Start.TheVariants.{Blank, Begins}
use Rattle.mips_text.specs.Tokens.{Cut, cut_from, start_of, without_return, at_most, tokens_of, is_mark, is_hex_digit, is_name_start, is_name_byte}
use Rattle.mips_text.specs.Forms.{token_text}
use Rattle.mips_text.proofs.Cutting.{cut_token, cut_blank, cut_end, at_most_within}
use Rattle.mips_text.specs.Names.{register_names, register_name, cp0_names, cp0_name}
use Rattle.mips_text.specs.Values.{hex_digits_of, hex_text, signed_text}
use Rattle.mips_text.proofs.Naming.{register_count, cp0_count}
use Rattle.mips_text.proofs.DigitTexts.{some_decimal, all_decimal, some_hexadecimal, all_hexadecimal}
use Rattle.mips_text.proofs.Starts.{start_blank, start_mark, is_name_text, name_some, name_starts, decimal_starts, minus_starts, hexadecimal_starts, no_return_of}
pub use Rattle.mips_text.proofs.Starts.{is_end}

-- a token by its kind and its bytes
pub record Piece : Type 0 where
  pub kind : TokenKind
  pub text : List ℕ

abbrev pub piece : TokenKind → List ℕ → Piece
piece kind text = record { kind = kind; text = text }

-- what follows a token ends it
abbrev pub Follows : TokenKind → List ℕ → Type 0
Follows Mark rest = Unit {0}
Follows kind rest = is_end (slice_index rest 0) ≡ true

pub follows_from : (kind : TokenKind) (rest : List ℕ) → is_end (slice_index rest 0) ≡ true → Follows kind rest
follows_from Mark rest ends = tt
follows_from Name rest ends = ends
follows_from Number rest ends = ends
follows_from Text rest ends = ends

-- a token is cut off whole wherever what follows ends it
pub record IsPiece (one : Piece) : Type 0 where
  pub some : 0 < length one.text
  pub no_return : (slice_index one.text (length one.text - 1) == 13) ≡ false
  pub starts : (rest : List ℕ) → Follows one.kind rest → start_of (one.text ++ rest) ≡ Begins one.kind (length one.text)

-- the texts of tokens, one after another
abbrev pub text_of_pieces : List Piece → List ℕ
text_of_pieces [] = []
text_of_pieces (one ∷ more) = one.text ++ text_of_pieces more

-- each is a token, and the next ones end it
abbrev pub Chain : List Piece → Type 0
Chain [] = Unit {0}
Chain (one ∷ more) = IsPiece one × Follows one.kind (text_of_pieces more) × Chain more

-- these tokens of a line have these kinds and texts
abbrev pub Spells : List ℕ → List Token → List Piece → Type 0
Spells line [] [] = Unit {0}
Spells line (token ∷ tokens) (one ∷ more) = (token.kind ≡ one.kind) × (token_text line token ≡ one.text) × Spells line tokens more
Spells line _ _ = ⊥

-- THE CUT

-- a line is cut, from a byte on, into these tokens
record IsCut (line : List ℕ) (at : ℕ) (pieces : List Piece) : Type 0 where
  unrefused : (cut_from 0 at (drop at line)).refusal ≡ None
  many : length (cut_from 0 at (drop at line)).tokens ≡ length pieces
  spelled : Spells line (cut_from 0 at (drop at line)).tokens pieces

cut_none : (line : List ℕ) (at : ℕ) → length line ≤ at → IsCut line at []
cut_none line at past =
    let is = cut_end at line past in
    record {
      unrefused = ap (λ (cut : Cut). cut.refusal) is;
      many = ap (λ (cut : Cut). length cut.tokens) is;
      spelled = subst (λ (cut : Cut). Spells line cut.tokens []) (sym is) tt;
    }

cut_one : (line : List ℕ) (at : ℕ) (one : Piece) (more : List Piece) → at + length one.text ≤ length line → 0 < length one.text →
    start_of (drop at line) ≡ Begins one.kind (length one.text) → take (length one.text) (drop at line) ≡ one.text → IsCut line (at + length one.text) more → IsCut line at (one ∷ more)
cut_one line at one more within some starts text later =
    let size = length one.text in
    let is = cut_token at size one.kind line within some starts in
    let long : at + size - at ≡ size = omega arith in
    record {
      unrefused = ap (λ (cut : Cut). cut.refusal) is ∙ later.unrefused;
      many = ap (λ (cut : Cut). length cut.tokens) is ∙ ap suc later.many;
      spelled = subst (λ (cut : Cut). Spells line cut.tokens (one ∷ more)) (sym is) (refl, ap (λ n. take n (drop at line)) long ∙ text, later.spelled);
    }

cut_after_blank : (line : List ℕ) (at : ℕ) (pieces : List Piece) → at < length line → start_of (drop at line) ≡ Blank → IsCut line (at + 1) pieces → IsCut line at pieces
cut_after_blank line at pieces within blank later =
    let is = cut_blank at line within blank in
    record {
      unrefused = ap (λ (cut : Cut). cut.refusal) is ∙ later.unrefused;
      many = ap (λ (cut : Cut). length cut.tokens) is ∙ later.many;
      spelled = subst (λ (cut : Cut). Spells line cut.tokens pieces) (sym is) later.spelled;
    }

-- the text of one token, and what stands after it
cut_first : (line : List ℕ) (at : ℕ) (one : Piece) (more : List Piece) (rest : List ℕ) → IsPiece one → Follows one.kind rest → at ≤ length line → drop at line ≡ one.text ++ rest →
    (drop (at + length one.text) line ≡ rest → at + length one.text ≤ length line → IsCut line (at + length one.text) more) → IsCut line at (one ∷ more)
cut_first line at one more rest is_piece follows within is later =
    let size = length one.text in
    let long : length (drop at line) ≡ size + length rest = ap length is ∙ length-append one.text rest in
    let room : at + size ≤ length line = omega (arith, length-drop at line) in
    let after : drop (at + size) line ≡ rest = sym (drop-drop size at line) ∙ ap (drop size) is ∙ drop-append_seam one.text rest in
    cut_one line at one more room is_piece.some (ap start_of is ∙ is_piece.starts rest follows) (ap (take size) is ∙ take-append_seam one.text rest) (later after room)

cut_chain : (line : List ℕ) (at : ℕ) (pieces : List Piece) → Chain pieces → at ≤ length line → drop at line ≡ text_of_pieces pieces → IsCut line at pieces
cut_chain line at [] chain within is = cut_none line at (omega (arith, length-drop at line, ap length is))
cut_chain line at (one ∷ more) chain within is =
    cut_first line at one more (text_of_pieces more) chain.0 chain.1 within is (λ after room. cut_chain line (at + length one.text) more chain.2 room after)

-- THE LINE

last_of : (front text : List ℕ) → 0 < length text → slice_index (front ++ text) (length (front ++ text) - 1) ≡ slice_index text (length text - 1)
last_of front text some =
    let at : length (front ++ text) - 1 ≡ length front + (length text - 1) = omega (arith, length-append front text) in
    ap (slice_index (front ++ text)) at ∙ get_or-append-add front text (length text - 1) 0

-- tokens end in no carriage return
last_no_return : (front : List ℕ) (one : Piece) (more : List Piece) → Chain (one ∷ more) →
    (slice_index (front ++ text_of_pieces (one ∷ more)) (length (front ++ text_of_pieces (one ∷ more)) - 1) == 13) ≡ false
last_no_return front one [] chain =
    let bare : one.text ++ [] ≡ one.text = append-nil one.text in
    ap (λ text. slice_index (front ++ text) (length (front ++ text) - 1) == 13) bare ∙ ap (λ code. code == 13) (last_of front one.text chain.0.some) ∙ chain.0.no_return
last_no_return front one (next ∷ more) chain =
    ap (λ line. slice_index line (length line - 1) == 13) (sym (append_assoc front one.text (text_of_pieces (next ∷ more)))) ∙ last_no_return (front ++ one.text) next more chain.2

-- a line that ends in no carriage return, and is cut into 64 tokens at most
tokens_by : (line : List ℕ) (pieces : List Piece) → (slice_index line (length line - 1) == 13) ≡ false → length pieces ≤ 64 → IsCut line 0 pieces →
    ((tokens_of line).refusal ≡ None) × Spells line (tokens_of line).tokens pieces
unfolding tokens_of
tokens_by line pieces no_return few is_cut =
    let same : without_return line ≡ line = cond-false _ _ _ no_return in
    let short : length (cut_from 0 0 line).tokens ≤ 64 = omega (arith, is_cut.many) in
    let is : at_most 64 (cut_from 0 0 (without_return line)) ≡ cut_from 0 0 line = ap (λ text. at_most 64 (cut_from 0 0 text)) same ∙ at_most_within 64 (cut_from 0 0 line) short in
    (ap (λ (cut : Cut). cut.refusal) is ∙ is_cut.unrefused, subst (λ (cut : Cut). Spells line cut.tokens pieces) (sym is) is_cut.spelled)

-- a name alone
pub line_of_one : (name : Piece) → IsPiece name → ((tokens_of name.text).refusal ≡ None) × Spells name.text (tokens_of name.text).tokens (name ∷ [])
line_of_one name is_piece =
    let first : IsCut name.text 0 (name ∷ []) =
    cut_first name.text 0 name [] [] is_piece (follows_from name.kind [] refl) (omega arith) (sym (append-nil name.text)) (λ after room. cut_none name.text (0 + length name.text) (omega arith)) in
    tokens_by name.text (name ∷ []) is_piece.no_return (omega arith) first

-- a name, a blank and further tokens
pub line_of_more : (name first : Piece) (more : List Piece) → IsPiece name → Chain (first ∷ more) → length more < 62 →
    ((tokens_of (name.text ++ 32 ∷ text_of_pieces (first ∷ more))).refusal ≡ None)
    × Spells (name.text ++ 32 ∷ text_of_pieces (first ∷ more)) (tokens_of (name.text ++ 32 ∷ text_of_pieces (first ∷ more))).tokens (name ∷ first ∷ more)
line_of_more name first more is_piece chain few =
    let rest : List ℕ = 32 ∷ text_of_pieces (first ∷ more) in
    let line : List ℕ = name.text ++ rest in
    let no_return : (slice_index line (length line - 1) == 13) ≡ false =
    ap (λ text. slice_index text (length text - 1) == 13) (sym (append_assoc name.text (32 ∷ []) (text_of_pieces (first ∷ more)))) ∙ last_no_return (name.text ++ 32 ∷ []) first more chain in
    let further : drop (0 + length name.text) line ≡ rest → 0 + length name.text ≤ length line → IsCut line (0 + length name.text) (first ∷ more) =
    λ after room.
    let at : ℕ = 0 + length name.text in
    let within : at < length line = omega (arith, length-append name.text rest) in
    let next : drop (at + 1) line ≡ text_of_pieces (first ∷ more) = sym (drop-drop 1 at line) ∙ ap (drop 1) after in
    cut_after_blank line at (first ∷ more) within (ap start_of after ∙ start_blank (text_of_pieces (first ∷ more))) (cut_chain line (at + 1) (first ∷ more) chain (omega arith) next) in
    let all : IsCut line 0 (name ∷ first ∷ more) = cut_first line 0 name (first ∷ more) rest is_piece (follows_from name.kind rest refl) (omega arith) refl further in
    tokens_by line (name ∷ first ∷ more) no_return (omega arith) all

-- WHAT IS PRINTED

pub name_piece : (text : List ℕ) → is_name_text text ≡ true → IsPiece (piece Name text)
name_piece text is = record {
  some = name_some text is;
  no_return = no_return_of is_name_byte text refl (and_parts (is_name_start (slice_index text 0)) (list_all is_name_byte text) is).1 (name_some text is);
  starts = λ rest ends. name_starts text rest is ends;
}

rows_are_names : list_all (λ (row : Row). is_name_text row.name) rows ≡ true
unfolding rows
rows_are_names = refl

pub row_piece : (row : ℕ) → row < 129 → IsPiece (piece Name (row_at row).name)
unfolding row_at
row_piece row lt =
    let within : row < length rows = rw rows_count lt in
    name_piece _ (each_at (λ (row : Row). is_name_text row.name) rows row rows_are_names within)

registers_are_names : list_all is_name_text register_names ≡ true
unfolding register_names
registers_are_names = refl

pub register_piece : (register : ℕ) → register < 32 → IsPiece (piece Name (register_name register))
unfolding register_name
register_piece register lt =
    let within : register < length register_names = rw register_count lt in
    name_piece _ (AllPass-from_list_all is_name_text register_names registers_are_names register [] within)

cp0_are_names : list_all is_name_text cp0_names ≡ true
unfolding cp0_names
cp0_are_names = refl

pub cp0_piece : (register : ℕ) → register < 32 → IsPiece (piece Name (cp0_name register))
unfolding cp0_name
cp0_piece register lt =
    let within : register < length cp0_names = rw cp0_count lt in
    name_piece _ (AllPass-from_list_all is_name_text cp0_names cp0_are_names register [] within)

digits_piece : (digits : List ℕ) → 0 < length digits → list_all is_digit digits ≡ true → IsPiece (piece Number digits)
digits_piece digits some all = record {
  some = some;
  no_return = no_return_of is_digit digits refl all some;
  starts = λ rest ends. decimal_starts digits rest some all ends;
}

minus_piece : (digits : List ℕ) → 0 < length digits → list_all is_digit digits ≡ true → IsPiece (piece Number (45 ∷ digits))
minus_piece digits some all = record {
  some = omega arith;
  no_return = ap (λ code. code == 13) (last_of (45 ∷ []) digits some) ∙ no_return_of is_digit digits refl all some;
  starts = λ rest ends. minus_starts digits rest some all ends;
}

prefixed_piece : (digits : List ℕ) → 0 < length digits → list_all is_hex_digit digits ≡ true → IsPiece (piece Number (48 ∷ 120 ∷ digits))
prefixed_piece digits some all = record {
  some = omega arith;
  no_return = ap (λ code. code == 13) (last_of (48 ∷ 120 ∷ []) digits some) ∙ no_return_of is_hex_digit digits refl all some;
  starts = λ rest ends. hexadecimal_starts digits rest some all ends;
}

pub decimal_piece : (n : ℕ) → IsPiece (piece Number (dec_of n))
decimal_piece n = digits_piece (dec_of n) (some_decimal n) (all_decimal n)

pub hexadecimal_piece : (n : ℕ) → IsPiece (piece Number (hex_text n))
unfolding hex_text
hexadecimal_piece n = prefixed_piece (hex_digits_of n) (some_hexadecimal n) (all_hexadecimal n)

signed_by : (is_small : Bool) (n magnitude : ℕ) → IsPiece (piece Number (if is_small then dec_of n else codes "-" ++ dec_of magnitude))
signed_by true n magnitude = decimal_piece n
signed_by false n magnitude = minus_piece (dec_of magnitude) (some_decimal magnitude) (all_decimal magnitude)

pub signed_piece : (half : ℕ) → half < 2 ^ 16 → IsPiece (piece Number (signed_text half))
unfolding signed_text
signed_piece half lt = signed_by (nat_lt half (2 ^ 15)) half (2 ^ 16 - half)

mark_no_return : (code : ℕ) → is_mark code ≡ true → (code == 13) ≡ false
mark_no_return code is = grind (arith, common_steps)

pub mark_piece : (code : ℕ) → is_mark code ≡ true → IsPiece (piece Mark (code ∷ []))
mark_piece code is = record {
  some = omega arith;
  no_return = mark_no_return code is;
  starts = λ rest ends. start_mark code rest is;
}
