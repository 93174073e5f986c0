-- The bytes that a text in quotes stands for, one by one.
use Rattle.std.proofs.Common.{◌≡◌, ◌≤◌, ◌+◌, ℕ, false, List, [], ◌∷◌, ◌++◌, length, drop, Option, Some, None, IfSome, IsSome, ◌↔◌, refl, ap, sym, ◌∙◌, arith, append_assoc, append-nil}
use Rattle.std.specs.Option.{option_map}
use Rattle.std.proofs.lemmas.List.{drop-drop}
use Rattle.std.proofs.Math.ListN.{drop_of_length-le}
use Rattle.mips_text.specs.Values.{with_byte, unescaped, BeginsWith}

-- so many bytes, and those of what follows
abbrev pub sized : ℕ → Option (List ℕ) → Option ℕ
sized size (Some bytes) = Some (size + length bytes)
sized size None = None

pub sized_first : (bytes : Option (List ℕ)) → sized 0 bytes ≡ option_map length bytes
sized_first (Some bytes) = ap Some (omega arith)
sized_first None = refl

sized_more : (size byte : ℕ) (bytes : Option (List ℕ)) → sized (size + 1) bytes ≡ sized size (with_byte (Some byte) bytes)
sized_more size byte (Some bytes) = ap Some (omega arith)
sized_more size byte None = refl

-- the sizes so far, after one more byte
pub sized_piece : (text : List ℕ) (at size byte used : ℕ) (all : Option ℕ) → BeginsWith (drop at text) byte used → sized size (unescaped false (drop at text)) ≡ all → sized (size + 1) (unescaped false (drop (at + used) text)) ≡ all
sized_piece text at size byte used all piece so_far =
    ap (λ t. sized (size + 1) (unescaped false t)) (sym (drop-drop used at text)) ∙ sized_more size byte (unescaped false (drop used (drop at text)))
    ∙ ap (sized size) (sym piece.stands_for) ∙ so_far

pub sized_end : (text : List ℕ) (at size : ℕ) (all : Option ℕ) → length text ≤ at → sized size (unescaped false (drop at text)) ≡ all → Some size ≡ all
sized_end text at size all past so_far =
    let none : drop at text ≡ [] = drop_of_length-le text past in
    let last : Some size ≡ sized size (unescaped false []) = ap Some (omega arith) in
    last ∙ ap (λ t. sized size (unescaped false t)) (sym none) ∙ so_far

-- these bytes, and those of what follows
abbrev pub after : List ℕ → Option (List ℕ) → Option (List ℕ)
after front (Some bytes) = Some (front ++ bytes)
after front None = None

after_more : (front : List ℕ) (byte : ℕ) (bytes : Option (List ℕ)) → after (front ++ byte ∷ []) bytes ≡ after front (with_byte (Some byte) bytes)
after_more front byte (Some bytes) = ap Some (append_assoc front (byte ∷ []) bytes)
after_more front byte None = refl

pub after_piece : (text : List ℕ) (at byte used : ℕ) (front : List ℕ) (all : Option (List ℕ)) → BeginsWith (drop at text) byte used → after front (unescaped false (drop at text)) ≡ all →
    after (front ++ byte ∷ []) (unescaped false (drop (at + used) text)) ≡ all
after_piece text at byte used front all piece so_far =
    ap (λ t. after (front ++ byte ∷ []) (unescaped false t)) (sym (drop-drop used at text)) ∙ after_more front byte (unescaped false (drop used (drop at text)))
    ∙ ap (after front) (sym piece.stands_for) ∙ so_far

written_by : (front items : List ℕ) (bytes : Option (List ℕ)) → Some items ≡ after front bytes → IfSome bytes (λ b. items ≡ front ++ b)
written_by front items (Some bytes) is = cc
written_by front items None is = cc

pub after_end : (text : List ℕ) (at : ℕ) (front items : List ℕ) → length text ≤ at → after items (unescaped false (drop at text)) ≡ after front (unescaped false text) → IfSome (unescaped false text) (λ b. items ≡ front ++ b)
after_end text at front items past so_far =
    let none : drop at text ≡ [] = drop_of_length-le text past in
    let last : Some items ≡ after items (unescaped false []) = ap Some (sym (append-nil items)) in
    written_by front items (unescaped false text) (last ∙ ap (λ t. after items (unescaped false t)) (sym none) ∙ so_far)

-- what stands for some bytes has no bad escape on the way
pub never_bad : (front items : List ℕ) (bytes rest : Option (List ℕ)) → IsSome bytes → rest ≡ None → after items rest ≡ after front bytes → ⊥
never_bad front items (Some bytes) rest some is so_far = let bad : None ≡ Some (front ++ bytes) = ap (after items) (sym is) ∙ so_far in cc
never_bad front items None rest some is so_far = cc

pub readable : (bytes : Option (List ℕ)) → IsSome (option_map length bytes) ↔ IsSome bytes
readable (Some bytes) = (λ some. refl, λ some. refl)
readable None = (λ some. cc, λ some. cc)
