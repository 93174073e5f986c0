-- What begins a text, by its own first bytes and by what follows it.
use Rattle.std.proofs.Common.{◌≡◌, ◌<◌, ◌+◌, ◌-◌, ◌==◌, ℕ, suc, Bool, true, false, ◌||◌, ◌&&◌, List, [], ◌∷◌, ◌++◌, length, slice_index, refl, ap, sym, ◌∙◌, arith, eqb-true}
use Rattle.std.specs.List.{list_all, prefix_len}
use Rattle.std.proofs.lemmas.Bool.{and_parts, cond-true, cond-false, both_ways, false_from_ne_true}
use Rattle.std.proofs.lemmas.List.Sums.{AllPass-from_list_all}
use Rattle.std.proofs.lemmas.Grind.{common_steps}
use Rattle.r4_words.specs.Texts.{is_digit}
use Rattle.mips_text.specs.declared.token.TokenKind.TheVariants.{Name, Number, Mark}
use Rattle.mips_text.specs.declared.token.Start.TheVariants.{Blank, Begins}
use Rattle.mips_text.specs.Tokens.{start_of, is_blank, is_mark, is_hex_digit, is_name_start, is_name_byte, is_hexadecimal, number_length}

-- a byte that ends a name and a number: none (0), a blank, a comma, a parenthesis
abbrev pub is_end : ℕ → Bool
is_end code = (code == 0) || (code == 32) || (code == 44) || (code == 40) || (code == 41)

end_no_name : (code : ℕ) → is_end code ≡ true → is_name_byte code ≡ false
end_no_name code is = grind (arith, common_steps)

end_no_digit : (code : ℕ) → is_end code ≡ true → is_digit code ≡ false
end_no_digit code is = grind (arith, common_steps)

end_no_hex_digit : (code : ℕ) → is_end code ≡ true → is_hex_digit code ≡ false
end_no_hex_digit code is = grind (arith, common_steps)

end_no_x : (code : ℕ) → is_end code ≡ true → (code == 120) ≡ false
end_no_x code is = grind (arith, common_steps)

digit_no_x : (code : ℕ) → is_digit code ≡ true → (code == 120) ≡ false
digit_no_x code is = grind (arith, common_steps)

-- THE HEAD

pub start_blank : (rest : List ℕ) → start_of (32 ∷ rest) ≡ Blank
unfolding start_of
start_blank rest = refl

pub start_mark : (code : ℕ) (rest : List ℕ) → is_mark code ≡ true → start_of (code ∷ rest) ≡ Begins Mark 1
unfolding start_of
start_mark code rest is =
    let no_blank : is_blank code ≡ false = grind (arith, common_steps) in
    let no_comment : (code == 35) ≡ false = grind (arith, common_steps) in
    cond-false _ _ _ no_blank ∙ cond-false _ _ _ no_comment ∙ cond-true _ _ _ is

pub start_number : (code : ℕ) (rest : List ℕ) → is_digit code ≡ true → start_of (code ∷ rest) ≡ Begins Number (number_length (code ∷ rest))
unfolding start_of
start_number code rest is =
    let no_blank : is_blank code ≡ false = grind (arith, common_steps) in
    let no_comment : (code == 35) ≡ false = grind (arith, common_steps) in
    let no_mark : is_mark code ≡ false = grind (arith, common_steps) in
    let no_quote : (code == 34) ≡ false = grind (arith, common_steps) in
    cond-false _ _ _ no_blank ∙ cond-false _ _ _ no_comment ∙ cond-false _ _ _ no_mark ∙ cond-false _ _ _ no_quote ∙ cond-true _ _ _ is

pub start_name : (code : ℕ) (rest : List ℕ) → is_name_start code ≡ true → start_of (code ∷ rest) ≡ Begins Name (prefix_len is_name_byte (code ∷ rest))
unfolding start_of
start_name code rest is =
    let no_blank : is_blank code ≡ false = grind (arith, common_steps) in
    let no_comment : (code == 35) ≡ false = grind (arith, common_steps) in
    let no_mark : is_mark code ≡ false = grind (arith, common_steps) in
    let no_quote : (code == 34) ≡ false = grind (arith, common_steps) in
    let no_digit : is_digit code ≡ false = grind (arith, common_steps) in
    cond-false _ _ _ no_blank ∙ cond-false _ _ _ no_comment ∙ cond-false _ _ _ no_mark ∙ cond-false _ _ _ no_quote ∙ cond-false _ _ _ no_digit ∙ cond-true _ _ _ is

pub start_minus : (text : List ℕ) → is_digit (slice_index text 0) ≡ true → start_of (45 ∷ text) ≡ Begins Number (1 + number_length text)
unfolding start_of
start_minus text is = cond-true _ _ _ is

-- HOW FAR IT GOES

run_stops : (p : ℕ → Bool) (rest : List ℕ) → p (slice_index rest 0) ≡ false → prefix_len p rest ≡ 0
run_stops p [] stops = refl
run_stops p (code ∷ rest) stops = cond-false _ _ _ stops

-- a run of bytes that pass goes up to what follows, if that does not
pub run_is : (p : ℕ → Bool) (text rest : List ℕ) → list_all p text ≡ true → p (slice_index rest 0) ≡ false → prefix_len p (text ++ rest) ≡ length text
run_is p [] rest all stops = run_stops p rest stops
run_is p (code ∷ text) rest all stops =
    let parts = and_parts (p code) (list_all p text) all in
    let more : prefix_len p (text ++ rest) ≡ length text = run_is p text rest parts.1 stops in
    let one : 1 + prefix_len p (text ++ rest) ≡ length (code ∷ text) = omega arith in
    cond-true _ _ _ parts.0 ∙ one

pub name_length : (text rest : List ℕ) → list_all is_name_byte text ≡ true → is_end (slice_index rest 0) ≡ true → prefix_len is_name_byte (text ++ rest) ≡ length text
name_length text rest all ends = run_is is_name_byte text rest all (end_no_name (slice_index rest 0) ends)

second_no_x : (digits rest : List ℕ) → 0 < length digits → list_all is_digit digits ≡ true → is_end (slice_index rest 0) ≡ true → (slice_index (digits ++ rest) 1 == 120) ≡ false
second_no_x [] rest some all ends = absurd (omega arith)
second_no_x (one ∷ []) rest some all ends = end_no_x (slice_index rest 0) ends
second_no_x (one ∷ next ∷ digits) rest some all ends =
    let parts = and_parts (is_digit one) (list_all is_digit (next ∷ digits)) all in
    digit_no_x next (and_parts (is_digit next) (list_all is_digit digits) parts.1).0

and_middle : (a b c : Bool) → b ≡ false → (a && b && c) ≡ false
and_middle a b c is = grind (arith, common_steps)

-- a text of decimal digits is no hexadecimal number
pub no_hexadecimal : (digits rest : List ℕ) → 0 < length digits → list_all is_digit digits ≡ true → is_end (slice_index rest 0) ≡ true → is_hexadecimal (digits ++ rest) ≡ false
no_hexadecimal digits rest some all ends =
    and_middle (slice_index (digits ++ rest) 0 == 48) (slice_index (digits ++ rest) 1 == 120) (is_hex_digit (slice_index (digits ++ rest) 2)) (second_no_x digits rest some all ends)

pub decimal_length : (digits rest : List ℕ) → 0 < length digits → list_all is_digit digits ≡ true → is_end (slice_index rest 0) ≡ true → number_length (digits ++ rest) ≡ length digits
decimal_length digits rest some all ends =
    cond-false _ _ _ (no_hexadecimal digits rest some all ends) ∙ run_is is_digit digits rest all (end_no_digit (slice_index rest 0) ends)

-- `0x` and a hexadecimal digit
pub is_hexadecimal_of : (digits rest : List ℕ) → 0 < length digits → list_all is_hex_digit digits ≡ true → is_hexadecimal (48 ∷ 120 ∷ digits ++ rest) ≡ true
is_hexadecimal_of [] rest some all = absurd (omega arith)
is_hexadecimal_of (one ∷ digits) rest some all = (and_parts (is_hex_digit one) (list_all is_hex_digit digits) all).0

pub hexadecimal_length : (digits rest : List ℕ) → 0 < length digits → list_all is_hex_digit digits ≡ true → is_end (slice_index rest 0) ≡ true → number_length (48 ∷ 120 ∷ digits ++ rest) ≡ 2 + length digits
hexadecimal_length digits rest some all ends =
    cond-true _ _ _ (is_hexadecimal_of digits rest some all) ∙ ap (λ n. 2 + n) (run_is is_hex_digit digits rest all (end_no_hex_digit (slice_index rest 0) ends))

-- WHOLE TOKENS

-- a name: what it begins with, and what it goes on with
abbrev pub is_name_text : List ℕ → Bool
is_name_text text = is_name_start (slice_index text 0) && list_all is_name_byte text

pub name_starts : (text rest : List ℕ) → is_name_text text ≡ true → is_end (slice_index rest 0) ≡ true → start_of (text ++ rest) ≡ Begins Name (length text)
name_starts [] rest is ends = absurd (cc)
name_starts (code ∷ text) rest is ends =
    let parts = and_parts (is_name_start code) (list_all is_name_byte (code ∷ text)) is in
    start_name code (text ++ rest) parts.0 ∙ ap (Begins Name) (name_length (code ∷ text) rest parts.1 ends)

pub name_some : (text : List ℕ) → is_name_text text ≡ true → 0 < length text
name_some [] is = absurd (cc)
name_some (code ∷ text) is = omega arith

pub decimal_starts : (digits rest : List ℕ) → 0 < length digits → list_all is_digit digits ≡ true → is_end (slice_index rest 0) ≡ true → start_of (digits ++ rest) ≡ Begins Number (length digits)
decimal_starts [] rest some all ends = absurd (omega arith)
decimal_starts (code ∷ digits) rest some all ends =
    let parts = and_parts (is_digit code) (list_all is_digit digits) all in
    start_number code (digits ++ rest) parts.0 ∙ ap (Begins Number) (decimal_length (code ∷ digits) rest some all ends)

pub minus_starts : (digits rest : List ℕ) → 0 < length digits → list_all is_digit digits ≡ true → is_end (slice_index rest 0) ≡ true →
    start_of (45 ∷ digits ++ rest) ≡ Begins Number (length (45 ∷ digits))
minus_starts [] rest some all ends = absurd (omega arith)
minus_starts (code ∷ digits) rest some all ends =
    let parts = and_parts (is_digit code) (list_all is_digit digits) all in
    let long : 1 + number_length (code ∷ digits ++ rest) ≡ suc (length (code ∷ digits)) = omega (arith, decimal_length (code ∷ digits) rest some all ends) in
    start_minus (code ∷ digits ++ rest) parts.0 ∙ ap (Begins Number) long

pub hexadecimal_starts : (digits rest : List ℕ) → 0 < length digits → list_all is_hex_digit digits ≡ true → is_end (slice_index rest 0) ≡ true →
    start_of (48 ∷ 120 ∷ digits ++ rest) ≡ Begins Number (length (48 ∷ 120 ∷ digits))
hexadecimal_starts digits rest some all ends =
    let long : number_length (48 ∷ 120 ∷ digits ++ rest) ≡ suc (suc (length digits)) = omega (arith, hexadecimal_length digits rest some all ends) in
    start_number 48 (120 ∷ digits ++ rest) refl ∙ ap (Begins Number) long

-- THE LAST BYTE

-- where all bytes pass a test that a carriage return fails, the last byte is none
pub no_return_of : (p : ℕ → Bool) (text : List ℕ) → p 13 ≡ false → list_all p text ≡ true → 0 < length text → (slice_index text (length text - 1) == 13) ≡ false
no_return_of p text fails all some =
    let last : length text - 1 < length text = omega arith in
    let passes : p (slice_index text (length text - 1)) ≡ true = AllPass-from_list_all p text all (length text - 1) 0 last in
    false_from_ne_true _ (λ is. both_ways (p 13) fails (ap p (sym (eqb-true _ _ is)) ∙ passes))
