-- How a line is cut, token by token.
use Rattle.std.proofs.Common.{◌≡◌, ◌<◌, ◌≤◌, ◌+◌, ◌-◌, ◌==◌, ℕ, zero, suc, Bool, true, false, List, [], ◌∷◌, ◌++◌, length, drop, take, slice_index, Option, Some, None, refl, ap, sym, ◌∙◌, subst, arith, length-drop, get_or, cond, IfSome, nat_lt, append_assoc, append-nil, length-append, slice_index_or, ◌||◌, ◌&&◌, if◌then◌else◌}
use Rattle.std.proofs.lemmas.Grind.{common_steps}
use Rattle.std.proofs.lemmas.List.{drop-drop}
use Rattle.std.proofs.lemmas.List.Sums.{prefix_len-le-length}
use Rattle.std.proofs.Math.ListN.{drop_of_length-le}
use Rattle.std.proofs.Math.Seq.{take-append_seam}
use Rattle.std.specs.List.{prefix_len, All}
use Rattle.r4_words.specs.Texts.{is_digit}
use Rattle.mips_text.specs.declared.reason.AsmWhy.{AsmWhy}
use Rattle.mips_text.specs.declared.reason.AsmWhy.TheVariants.{Operand, Unknown}
use Rattle.mips_text.specs.declared.token.Token.{Token}
use Rattle.mips_text.specs.declared.token.TokenKind.{TokenKind}
use Rattle.mips_text.specs.declared.token.TokenKind.TheVariants.{Name, Number, Mark}
use Rattle.mips_text.specs.declared.token.Start.{Start}
use Rattle.mips_text.specs.declared.token.Start.TheVariants.{Blank, Comment, Begins, Refused}
use Rattle.mips_text.specs.Tokens.{Cut, whole, refused, before, token_at, cut_by, cut_from, start_of, one_more, quoted_length, quoted, number_length, is_hexadecimal, is_hex_digit, is_name_start, is_name_byte, is_blank, is_mark, Spans, InOrder, IsWithin, at_most, Ends}

-- so many more
abbrev pub more_at : ℕ → Option ℕ → Option ℕ
more_at at (Some n) = Some (n + at)
more_at at None = None

pub more_at_one_more : (at : ℕ) (count : Option ℕ) → more_at (at + 1) count ≡ more_at at (one_more count)
more_at_one_more at (Some n) = ap Some (omega arith)
more_at_one_more at None = refl

-- the bytes of a token are passed over
pub cut_skips : (inside at : ℕ) (text : List ℕ) → inside ≤ length text → cut_from inside at text ≡ cut_from 0 (at + inside) (drop inside text)
unfolding cut_from
cut_skips zero at text le = ap (λ a. cut_from 0 a text) (omega arith)
cut_skips (suc inside) at [] le = absurd (omega arith)
cut_skips (suc inside) at (code ∷ rest) le = cut_skips inside (at + 1) rest (omega arith) ∙ ap (λ a. cut_from 0 a (drop inside rest)) (omega arith)

-- a text that has a byte is cut by what stands at its head
pub cut_step : (at : ℕ) (text : List ℕ) → 0 < length text → cut_from 0 at text ≡ cut_by (start_of text) at (λ inside. cut_from inside (at + 1) (drop 1 text))
unfolding cut_from
cut_step at [] some = absurd (omega arith)
cut_step at (code ∷ rest) some = refl

cut_starts : (at : ℕ) (text : List ℕ) (start : Start) → 0 < length text → start_of text ≡ start →
    cut_from 0 at text ≡ cut_by start at (λ inside. cut_from inside (at + 1) (drop 1 text))
cut_starts at text start some is = cut_step at text some ∙ ap (λ s. cut_by s at (λ inside. cut_from inside (at + 1) (drop 1 text))) is

pub cut_blank : (at : ℕ) (line : List ℕ) → at < length line → start_of (drop at line) ≡ Blank → cut_from 0 at (drop at line) ≡ cut_from 0 (at + 1) (drop (at + 1) line)
cut_blank at line within is =
    let some : 0 < length (drop at line) = omega (arith, length-drop at line) in
    cut_starts at (drop at line) Blank some is ∙ ap (cut_from 0 (at + 1)) (drop-drop 1 at line)

pub cut_comment : (at : ℕ) (line : List ℕ) → at < length line → start_of (drop at line) ≡ Comment → cut_from 0 at (drop at line) ≡ whole
cut_comment at line within is =
    let some : 0 < length (drop at line) = omega (arith, length-drop at line) in
    cut_starts at (drop at line) Comment some is

pub cut_refused : (at : ℕ) (line : List ℕ) (why : AsmWhy) → at < length line → start_of (drop at line) ≡ Refused why → cut_from 0 at (drop at line) ≡ refused why
cut_refused at line why within is =
    let some : 0 < length (drop at line) = omega (arith, length-drop at line) in
    cut_starts at (drop at line) (Refused why) some is

pub cut_token : (at size : ℕ) (kind : TokenKind) (line : List ℕ) → at + size ≤ length line → 0 < size → start_of (drop at line) ≡ Begins kind size →
    cut_from 0 at (drop at line) ≡ before (token_at kind at size) (cut_from 0 (at + size) (drop (at + size) line))
cut_token at size kind line within some is =
    let here : 0 < length (drop at line) = omega (arith, length-drop at line) in
    let rest : drop 1 (drop at line) ≡ drop (at + 1) line = drop-drop 1 at line in
    let room : size - 1 ≤ length (drop (at + 1) line) = omega (arith, length-drop (at + 1) line) in
    let same : at + 1 + (size - 1) ≡ at + size = omega arith in
    cut_starts at (drop at line) (Begins kind size) here is
    ∙ ap (λ t. before (token_at kind at size) (cut_from (size - 1) (at + 1) t)) rest
    ∙ ap (before (token_at kind at size)) (cut_skips (size - 1) (at + 1) (drop (at + 1) line) room ∙ ap (cut_from 0 (at + 1 + (size - 1))) (drop-drop (size - 1) (at + 1) line))
    ∙ ap (λ a. before (token_at kind at size) (cut_from 0 a (drop a line))) same

pub cut_end : (at : ℕ) (line : List ℕ) → length line ≤ at → cut_from 0 at (drop at line) ≡ whole
unfolding cut_from
cut_end at line past = ap (cut_from 0 at) (drop_of_length-le line past)

-- a text in quotes, byte by byte
quoted_taken : (text : List ℕ) (at : ℕ) → at < length text → quoted_length true (drop at text) ≡ one_more (quoted_length false (drop (suc at) text))
quoted_taken [] at within = absurd (omega arith)
quoted_taken (code ∷ rest) zero within = refl
quoted_taken (code ∷ rest) (suc at) within = quoted_taken rest at (omega arith)

quoted_by : (text : List ℕ) (at : ℕ) → at < length text → quoted_length false (drop at text) ≡ (if get_or text at 0 == 34 then Some 1 else one_more (quoted_length (get_or text at 0 == 92) (drop (suc at) text)))
quoted_by [] at within = absurd (omega arith)
quoted_by (code ∷ rest) zero within = refl
quoted_by (code ∷ rest) (suc at) within = quoted_by rest at (omega arith)

pub quoted_goes_on : (text : List ℕ) (at : ℕ) (taken next : Bool) (all : Option ℕ) → at < length text → taken ≡ true → next ≡ false →
    more_at at (quoted_length taken (drop at text)) ≡ all → more_at (at + 1) (quoted_length next (drop (at + 1) text)) ≡ all
quoted_goes_on text at taken next all within is_taken is_next so_far =
    let rest = drop (suc at) text in
    let same : at + 1 ≡ suc at = omega arith in
    ap (λ k. more_at (at + 1) (quoted_length next (drop k text))) same
    ∙ ap (λ t. more_at (at + 1) (quoted_length t rest)) is_next ∙ more_at_one_more at (quoted_length false rest)
    ∙ ap (more_at at) (sym (quoted_taken text at within)) ∙ ap (λ t. more_at at (quoted_length t (drop at text))) (sym is_taken) ∙ so_far

pub quoted_goes_by : (text : List ℕ) (at : ℕ) (taken next : Bool) (all : Option ℕ) → at < length text → taken ≡ false → (get_or text at 0 ≡ 34 → ⊥) → next ≡ (get_or text at 0 == 92) →
    more_at at (quoted_length taken (drop at text)) ≡ all → more_at (at + 1) (quoted_length next (drop (at + 1) text)) ≡ all
quoted_goes_by text at taken next all within is_taken other is_next so_far =
    let rest = drop (suc at) text in
    let same : at + 1 ≡ suc at = omega arith in
    let no_quote : (get_or text at 0 == 34) ≡ false = grind (arith, common_steps) in
    ap (λ k. more_at (at + 1) (quoted_length next (drop k text))) same
    ∙ ap (λ t. more_at (at + 1) (quoted_length t rest)) is_next ∙ more_at_one_more at (quoted_length (get_or text at 0 == 92) rest)
    ∙ ap (more_at at) (sym (quoted_by text at within ∙ ap (λ b. if b then Some 1 else one_more (quoted_length (get_or text at 0 == 92) rest)) no_quote))
    ∙ ap (λ t. more_at at (quoted_length t (drop at text))) (sym is_taken) ∙ so_far

-- how long a text in quotes can be
one_more_within : (count : Option ℕ) (room : ℕ) → IfSome count (λ n. n ≤ room) → IfSome (one_more count) (λ n. n ≤ suc room)
one_more_within (Some n) room le = omega arith
one_more_within None room le = tt

if_within : (b : Bool) (count : Option ℕ) (room : ℕ) → IfSome count (λ n. n ≤ suc room) → IfSome (if b then Some 1 else count) (λ n. n ≤ suc room)
if_within true count room le = omega arith
if_within false count room le = le

pub quoted_within : (taken : Bool) (text : List ℕ) → IfSome (quoted_length taken text) (λ n. n ≤ length text)
quoted_within taken [] = tt
quoted_within true (code ∷ rest) = one_more_within (quoted_length false rest) (length rest) (quoted_within false rest)
quoted_within false (code ∷ rest) = if_within (code == 34) (one_more (quoted_length (code == 92) rest)) (length rest) (one_more_within (quoted_length (code == 92) rest) (length rest) (quoted_within (code == 92) rest))

-- a run that begins with a byte that passes
run_some : (p : ℕ → Bool) (text : List ℕ) → 0 < length text → p (get_or text 0 0) ≡ true → 0 < prefix_len p text
run_some p [] some is = absurd (omega arith)
run_some p (code ∷ rest) some is = subst (λ b. 0 < cond b (1 + prefix_len p rest) 0) (sym is) (omega arith)

pub run_within : (p : ℕ → Bool) (text : List ℕ) → prefix_len p text ≤ length text
run_within p text = prefix_len-le-length p text

or_left : (a b : Bool) → a ≡ true → (a || b) ≡ true
or_left true b is = refl
or_left false b is = cc

both_true : (a b : Bool) → (a && b) ≡ true → (a ≡ true) × (b ≡ true)
both_true true b is = (refl, is)
both_true false b is = cc

digit_in : (text : List ℕ) (at : ℕ) → is_digit (get_or text at 0) ≡ true → at < length text
digit_in [] at is = cc
digit_in (code ∷ rest) zero is = omega arith
digit_in (code ∷ rest) (suc at) is = let inner = digit_in rest at is in omega arith

hex_digit_in : (text : List ℕ) (at : ℕ) → is_hex_digit (get_or text at 0) ≡ true → at < length text
hex_digit_in [] at is = cc
hex_digit_in (code ∷ rest) zero is = omega arith
hex_digit_in (code ∷ rest) (suc at) is = let inner = hex_digit_in rest at is in omega arith

number_by : (b : Bool) (text : List ℕ) → is_hexadecimal text ≡ b → is_digit (get_or text 0 0) ≡ true → 0 < length text →
    (0 < (if b then 2 + prefix_len is_hex_digit (drop 2 text) else prefix_len is_digit text)) × ((if b then 2 + prefix_len is_hex_digit (drop 2 text) else prefix_len is_digit text) ≤ length text)
number_by true text is digit some =
    let third : 2 < length text = hex_digit_in text 2 (both_true ((get_or text 0 0 == 48) && (get_or text 1 0 == 120)) (is_hex_digit (get_or text 2 0)) is).1 in
    let run : prefix_len is_hex_digit (drop 2 text) ≤ length (drop 2 text) = run_within is_hex_digit (drop 2 text) in
    let long = length-drop 2 text in
    (omega arith, omega arith)
number_by false text is digit some = (run_some is_digit text some digit, run_within is_digit text)

-- how long a number is that a text begins with
pub number_spans : (text : List ℕ) → is_digit (get_or text 0 0) ≡ true → 0 < length text → (0 < number_length text) × (number_length text ≤ length text)
number_spans text digit some = number_by (is_hexadecimal text) text refl digit some

if_spans : (b : Bool) (one other : Start) (room : ℕ) → (b ≡ true → Spans one room) → (b ≡ false → Spans other room) → Spans (if b then one else other) room
if_spans true one other room yes_it not_it = yes_it refl
if_spans false one other room yes_it not_it = not_it refl

quoted_spans : (count : Option ℕ) (room : ℕ) → 0 < room → IfSome count (λ n. n ≤ room - 1) → Spans (quoted count) room
quoted_spans (Some n) room some le = (omega arith, omega arith)
quoted_spans None room some le = tt

signed_spans : (text : List ℕ) → is_digit (get_or text 1 0) ≡ true → (0 < 1 + number_length (drop 1 text)) × (1 + number_length (drop 1 text) ≤ length text)
signed_spans [] digit = cc
signed_spans (code ∷ rest) digit = let inner = number_spans rest digit (digit_in rest 0 digit) in (omega arith, omega arith)

dollar_spans : (text : List ℕ) → is_digit (get_or text 1 0) ≡ true → (0 < 1 + prefix_len is_digit (drop 1 text)) × (1 + prefix_len is_digit (drop 1 text) ≤ length text)
dollar_spans [] digit = cc
dollar_spans (code ∷ rest) digit = let inner = run_within is_digit rest in (omega arith, omega arith)

name_spans : (text : List ℕ) → is_name_start (get_or text 0 0) ≡ true → 0 < length text → Spans (Begins Name (prefix_len is_name_byte text)) (length text)
name_spans text is some = (run_some is_name_byte text some (or_left (is_name_start (get_or text 0 0)) (is_digit (get_or text 0 0)) is), run_within is_name_byte text)

-- what begins a text spans a byte at least, and lies in the text
pub start_spans : (text : List ℕ) → 0 < length text → Spans (start_of text) (length text)
unfolding start_of
start_spans text some =
    let room = length text in
    let mark : (0 < 1) × (1 ≤ room) = (omega arith, omega arith) in
    let first = slice_index text 0 in
    let second_is_digit = is_digit (slice_index text 1) in
    let dollar = Begins Name (1 + prefix_len is_digit (drop 1 text)) in
    let minus = Begins Number (1 + number_length (drop 1 text)) in
    let name = Begins Name (prefix_len is_name_byte text) in
    let number = Begins Number (number_length text) in
    let text_in_quotes = quoted (quoted_length false (drop 1 text)) in
    let after_minus : Start = if (first == 36) && second_is_digit then dollar else Refused Unknown in
    let after_name : Start = if (first == 45) && second_is_digit then minus else after_minus in
    let after_number : Start = if is_name_start first then name else after_name in
    let after_text : Start = if is_digit first then number else after_number in
    let after_mark : Start = if first == 34 then text_in_quotes else after_text in
    let after_comment : Start = if is_mark first then Begins Mark 1 else after_mark in
    let after_blank : Start = if first == 35 then Comment else after_comment in
    if_spans (is_blank first) Blank after_blank room (λ is. tt) (λ is.
    if_spans (first == 35) Comment after_comment room (λ is. tt) (λ is.
    if_spans (is_mark first) (Begins Mark 1) after_mark room (λ is. mark) (λ is.
    if_spans (first == 34) text_in_quotes after_text room (λ is. quoted_spans (quoted_length false (drop 1 text)) room some (subst (λ k. IfSome (quoted_length false (drop 1 text)) (λ n. n ≤ k)) (length-drop 1 text) (quoted_within false (drop 1 text)))) (λ is.
    if_spans (is_digit first) number after_number room (λ is. number_spans text is some) (λ is.
    if_spans (is_name_start first) name after_name room (λ is. name_spans text is some) (λ is.
    if_spans ((first == 45) && second_is_digit) minus after_minus room (λ is. signed_spans text (both_true (first == 45) second_is_digit is).1) (λ is.
    if_spans ((first == 36) && second_is_digit) dollar (Refused Unknown) room (λ is. dollar_spans text (both_true (first == 36) second_is_digit is).1) (λ is. tt))))))))

-- one more token in order
pub in_order_widened : (from : ℕ) (tokens : List Token) (to more : ℕ) → InOrder from tokens to → to ≤ more → InOrder from tokens more
in_order_widened from [] to more order le = omega arith
in_order_widened from (token ∷ tokens) to more order le = (order.0, order.1, in_order_widened token.to tokens to more order.2 le)

pub in_order_pushed : (from : ℕ) (tokens : List Token) (to : ℕ) (token : Token) (more : ℕ) → InOrder from tokens to → to ≤ token.from → token.from < token.to → token.to ≤ more → InOrder from (tokens ++ token ∷ []) more
in_order_pushed from [] to token more order le lt within = (omega arith, lt, within)
in_order_pushed from (first ∷ tokens) to token more order le lt within = (order.0, order.1, in_order_pushed first.to tokens to token more order.2 le lt within)

pub at_most_within : (most : ℕ) (cut : Cut) → length cut.tokens ≤ most → at_most most cut ≡ cut
at_most_within most cut le = let few : nat_lt most (length cut.tokens) ≡ false = grind (arith, common_steps) in
    ap (λ b. if b then record { tokens = take most cut.tokens; refusal = Some Operand } else cut) few

at_most_over : (most : ℕ) (cut : Cut) → most < length cut.tokens → at_most most cut ≡ record { tokens = take most cut.tokens; refusal = Some Operand }
at_most_over most cut lt = let many : nat_lt most (length cut.tokens) ≡ true = grind (arith, common_steps) in
    ap (λ b. if b then record { tokens = take most cut.tokens; refusal = Some Operand } else cut) many

-- How far a line is cut: the tokens up to a byte, and what the rest of the line is cut into.
pub record Stands (line : List ℕ) (tokens : List Token) (at : ℕ) : Type 0 where
  pub within : at ≤ length line
  pub tokens_are : tokens ++ (cut_from 0 at (drop at line)).tokens ≡ (cut_from 0 0 line).tokens
  pub refusal_is : (cut_from 0 at (drop at line)).refusal ≡ (cut_from 0 0 line).refusal
  pub in_order : InOrder 0 tokens at

pub stands_first : (line : List ℕ) → Stands line [] 0
stands_first line = record { within = omega arith; tokens_are = refl; refusal_is = refl; in_order = omega arith }

pub stands_blank : (line : List ℕ) (tokens : List Token) (at : ℕ) → Stands line tokens at → at < length line → start_of (drop at line) ≡ Blank → Stands line tokens (at + 1)
stands_blank line tokens at so_far within is =
    let step : cut_from 0 at (drop at line) ≡ cut_from 0 (at + 1) (drop (at + 1) line) = cut_blank at line within is in
    record {
      within = omega arith;
      tokens_are = ap (λ cut. tokens ++ cut.tokens) (sym step) ∙ so_far.tokens_are;
      refusal_is = ap (λ cut. cut.refusal) (sym step) ∙ so_far.refusal_is;
      in_order = in_order_widened 0 tokens at (at + 1) so_far.in_order (omega arith);
    }

pub stands_token : (line : List ℕ) (tokens : List Token) (at size : ℕ) (kind : TokenKind) → Stands line tokens at → at < length line → start_of (drop at line) ≡ Begins kind size →
    (0 < size) × (size ≤ length (drop at line)) → Stands line (tokens ++ token_at kind at size ∷ []) (at + size)
stands_token line tokens at size kind so_far within is spans =
    let long = length-drop at line in
    let fits : at + size ≤ length line = omega (arith, spans.1, long) in
    let some : 0 < size = spans.0 in
    let step : cut_from 0 at (drop at line) ≡ before (token_at kind at size) (cut_from 0 (at + size) (drop (at + size) line)) = cut_token at size kind line fits some is in
    record {
      within = fits;
      tokens_are = append_assoc tokens (token_at kind at size ∷ []) (cut_from 0 (at + size) (drop (at + size) line)).tokens ∙ ap (λ cut. tokens ++ cut.tokens) (sym step) ∙ so_far.tokens_are;
      refusal_is = ap (λ cut. cut.refusal) (sym step) ∙ so_far.refusal_is;
      in_order = in_order_pushed 0 tokens at (token_at kind at size) (at + size) so_far.in_order (omega arith) (omega arith) (omega arith);
    }

-- a cut of a line that comes to an end with these tokens and this refusal
ends_with : (line : List ℕ) (tokens : List Token) (at : ℕ) (why : Option AsmWhy) → Stands line tokens at → length tokens ≤ 64 →
    cut_from 0 at (drop at line) ≡ record { tokens = []; refusal = why } → Ends line tokens why
ends_with line tokens at why so_far few is =
    let all : (cut_from 0 0 line).tokens ≡ tokens = sym so_far.tokens_are ∙ ap (λ cut. tokens ++ cut.tokens) is ∙ append-nil tokens in
    let same : at_most 64 (cut_from 0 0 line) ≡ cut_from 0 0 line = at_most_within 64 (cut_from 0 0 line) (subst (λ ts. length ts ≤ 64) (sym all) few) in
    record {
      tokens_are = sym (ap (λ cut. cut.tokens) same ∙ all);
      refusal_is = sym (ap (λ cut. cut.refusal) same ∙ sym so_far.refusal_is ∙ ap (λ cut. cut.refusal) is);
      in_order = in_order_widened 0 tokens at (length line) so_far.in_order so_far.within;
    }

pub ends_line : (line : List ℕ) (tokens : List Token) (at : ℕ) → Stands line tokens at → length tokens ≤ 64 → length line ≤ at → Ends line tokens None
ends_line line tokens at so_far few past = ends_with line tokens at None so_far few (cut_end at line past)

pub ends_comment : (line : List ℕ) (tokens : List Token) (at : ℕ) → Stands line tokens at → length tokens ≤ 64 → at < length line → start_of (drop at line) ≡ Comment → Ends line tokens None
ends_comment line tokens at so_far few within is = ends_with line tokens at None so_far few (cut_comment at line within is)

pub ends_refused : (line : List ℕ) (tokens : List Token) (at : ℕ) (why : AsmWhy) → Stands line tokens at → length tokens ≤ 64 → at < length line → start_of (drop at line) ≡ Refused why → Ends line tokens (Some why)
ends_refused line tokens at why so_far few within is = ends_with line tokens at (Some why) so_far few (cut_refused at line why within is)

pub ends_full : (line : List ℕ) (tokens : List Token) (at size : ℕ) (kind : TokenKind) → Stands line tokens at → length tokens ≡ 64 → at < length line → start_of (drop at line) ≡ Begins kind size →
    (0 < size) × (size ≤ length (drop at line)) → Ends line tokens (Some Operand)
ends_full line tokens at size kind so_far full within is spans =
    let more : Stands line (tokens ++ token_at kind at size ∷ []) (at + size) = stands_token line tokens at size kind so_far within is spans in
    let rest = (cut_from 0 (at + size) (drop (at + size) line)).tokens in
    let all : (cut_from 0 0 line).tokens ≡ tokens ++ (token_at kind at size ∷ rest) = sym more.tokens_are ∙ append_assoc tokens (token_at kind at size ∷ []) rest in
    let long : length (tokens ++ (token_at kind at size ∷ rest)) ≡ length tokens + suc (length rest) = length-append tokens (token_at kind at size ∷ rest) in
    let over : 64 < length (cut_from 0 0 line).tokens = omega (arith, long, full, ap length all) in
    let same = at_most_over 64 (cut_from 0 0 line) over in
    let first : take 64 (tokens ++ (token_at kind at size ∷ rest)) ≡ tokens = subst (λ n. take n (tokens ++ (token_at kind at size ∷ rest)) ≡ tokens) full (take-append_seam tokens (token_at kind at size ∷ rest)) in
    record {
      tokens_are = sym (ap (λ cut. cut.tokens) same ∙ ap (take 64) all ∙ first);
      refusal_is = sym (ap (λ cut. cut.refusal) same);
      in_order = in_order_widened 0 tokens at (length line) so_far.in_order so_far.within;
    }

in_order_le : (from : ℕ) (tokens : List Token) (to : ℕ) → InOrder from tokens to → from ≤ to
in_order_le from [] to order = order
in_order_le from (token ∷ more) to order = let rest : token.to ≤ to = in_order_le token.to more to order.2 in omega (arith, order.0, order.1)

-- tokens in order lie in their line
in_order_within : (from : ℕ) (tokens : List Token) (to : ℕ) (k : ℕ) (d : Token) → InOrder from tokens to → k < length tokens → IsWithin to (slice_index_or tokens k d)
in_order_within from [] to k d order within = absurd (omega arith)
in_order_within from (token ∷ more) to zero d order within = (order.1, in_order_le token.to more to order.2)
in_order_within from (token ∷ more) to (suc k) d order within = in_order_within token.to more to k d order.2 (omega arith)

pub all_within : (tokens : List Token) (to : ℕ) → InOrder 0 tokens to → All (IsWithin to) tokens
all_within tokens to order = λ k d within. in_order_within 0 tokens to k d order within
