-- The tokens of one line of assembler text.
-- Source: the assembler language of this project, whose names, numbers, marks and texts are a part of those of the MIPS
-- assembler (MIPS Assembly Language Programmer's Guide, chapters "Lexical Conventions" and "Instruction Set").
use Rattle.std.specs.Prelude.{◌≡◌, ◌<◌, ◌≤◌, ℕ, zero, suc, ◌+◌, ◌-◌, ◌==◌, nat_lt, nat_le, Bool, true, false, ◌&&◌, ◌||◌, if◌then◌else◌, List, [], ◌∷◌, length, take, drop, slice_index, Option, Some, None}
use Rattle.std.specs.List.{prefix_len}
use Rattle.r4_words.specs.Texts.{is_digit}
use Rattle.r4_words.specs.Ascii.{tab, carriage_return, blank, quote, hash, dollar, left_parenthesis, right_parenthesis, comma, minus, dot, digit_0, colon, capital_a, capital_f, capital_z, backslash, underscore, small_a, small_f, small_x, small_z}
use Rattle.mips_text.specs.declared.reason.AsmWhy.{AsmWhy}
use Rattle.mips_text.specs.declared.reason.AsmWhy.TheVariants.{Unknown, Operand}
use Rattle.mips_text.specs.declared.token.Token.{Token}
use Rattle.mips_text.specs.declared.token.TokenKind.{TokenKind}
use Rattle.mips_text.specs.declared.token.TokenKind.TheVariants.{Name, Number, Text, Mark}
use Rattle.mips_text.specs.declared.token.Start.{Start}
use Rattle.mips_text.specs.declared.token.Start.TheVariants.{Blank, Comment, Begins, Refused}

-- a blank or a tab
abbrev pub is_blank : ℕ → Bool
is_blank code = (code == blank) || (code == tab)

-- `,` `:` `(` `)`
abbrev pub is_mark : ℕ → Bool
is_mark code = (code == comma) || (code == colon) || (code == left_parenthesis) || (code == right_parenthesis)

-- 0-9, A-F or a-f
abbrev pub is_hex_digit : ℕ → Bool
is_hex_digit code =
    is_digit code || (nat_le capital_a code && nat_le code capital_f) || (nat_le small_a code && nat_le code small_f)

-- what a name begins with: A-Z, a-z, `_` or `.`
abbrev pub is_name_start : ℕ → Bool
is_name_start code =
    (nat_le capital_a code && nat_le code capital_z) || (nat_le small_a code && nat_le code small_z)
    || (code == underscore) || (code == dot)

-- what a name goes on with
abbrev pub is_name_byte : ℕ → Bool
is_name_byte code = is_name_start code || is_digit code

-- a text begins with `0x` and a hexadecimal digit
abbrev pub is_hexadecimal : List ℕ → Bool
is_hexadecimal text =
    (slice_index text 0 == digit_0) && (slice_index text 1 == small_x) && is_hex_digit (slice_index text 2)

-- How many bytes the number has that a text begins with, without a sign: `0x` and all hexadecimal digits after it, or
-- all decimal digits. So `0x` without a hexadecimal digit is the number 0 and a name.
abbrev pub number_length : List ℕ → ℕ
number_length text = if is_hexadecimal text then 2 + prefix_len is_hex_digit (drop 2 text) else prefix_len is_digit text

-- a length and one more
abbrev pub one_more : Option ℕ → Option ℕ
one_more (Some n) = Some (n + 1)
one_more None = None

-- How many bytes a text in quotes has after its opening quote, the closing one included; None where it is not closed.
-- The flag says that a backslash stands before, which takes the next byte with it.
abbrev pub quoted_length : Bool → List ℕ → Option ℕ
quoted_length taken [] = None
quoted_length true (code ∷ rest) = one_more (quoted_length false rest)
quoted_length false (code ∷ rest) = if code == quote then Some 1 else one_more (quoted_length (code == backslash) rest)

-- a text in quotes that is closed, by its length after the opening quote
abbrev pub quoted : Option ℕ → Start
quoted (Some n) = Begins Text (n + 1)
quoted None = Refused Operand

-- What stands at the head of a text that has a byte: a blank, the comment of a line, a token of some kind and length, or
-- what begins no token.
unfoldable pub start_of : List ℕ → Start
start_of text =
    if is_blank (slice_index text 0) then Blank
    else if slice_index text 0 == hash then Comment
    else if is_mark (slice_index text 0) then Begins Mark 1
    else if slice_index text 0 == quote then quoted (quoted_length false (drop 1 text))
    else if is_digit (slice_index text 0) then Begins Number (number_length text)
    else if is_name_start (slice_index text 0) then Begins Name (prefix_len is_name_byte text)
    else if (slice_index text 0 == minus) && is_digit (slice_index text 1) then Begins Number (1 + number_length (drop 1 text))
    else if (slice_index text 0 == dollar) && is_digit (slice_index text 1) then Begins Name (1 + prefix_len is_digit (drop 1 text))
    else Refused Unknown

-- a token that begins a text of so many bytes has one of them at least, and no more than there are
abbrev pub Spans : Start → ℕ → Type 0
Spans Blank room = Unit {0}
Spans Comment room = Unit {0}
Spans (Begins kind size) room = (0 < size) × (size ≤ room)
Spans (Refused why) room = Unit {0}

-- Tokens in the order of their line, none of which is empty, between two places of it.
abbrev pub InOrder : ℕ → List Token → ℕ → Type 0
InOrder from [] to = from ≤ to
InOrder from (token ∷ more) to = (from ≤ token.from) × (token.from < token.to) × InOrder token.to more to

-- a token is some bytes of a line that has so many
abbrev pub IsWithin : ℕ → Token → Type 0
IsWithin room token = (token.from < token.to) × (token.to ≤ room)

-- A line cut into tokens: those up to its end or up to a refusal, and the refusal where there is one.
pub record Cut : Type 0 where
  pub tokens : List Token
  pub refusal : Option AsmWhy

-- no token is left, and nothing is refused
abbrev pub whole : Cut
whole = record { tokens = []; refusal = None }

-- no token is left, and what stands here is refused
abbrev pub refused : AsmWhy → Cut
refused why = record { tokens = []; refusal = Some why }

-- a token that spans so many bytes from this one on
abbrev pub token_at : TokenKind → ℕ → ℕ → Token
token_at kind at size = record { kind = kind; from = at; to = at + size }

-- a token before those of a cut
abbrev pub before : Token → Cut → Cut
before token cut = record { tokens = token ∷ cut.tokens; refusal = cut.refusal }

-- What a text from byte `at` on is cut into, by what stands at its head. `later` is the cut of what follows its first
-- byte, where so many further bytes still belong to the token.
abbrev pub cut_by : Start → ℕ → (ℕ → Cut) → Cut
cut_by Blank at later = later 0
cut_by Comment at later = whole
cut_by (Begins kind size) at later = before (token_at kind at size) (later (size - 1))
cut_by (Refused why) at later = refused why

-- The cut of a text that stands from byte `at` of its line on, and whose first `inside` bytes belong to the token before.
unfoldable pub cut_from : ℕ → ℕ → List ℕ → Cut
cut_from inside at [] = whole
cut_from zero at (code ∷ rest) = cut_by (start_of (code ∷ rest)) at (λ inside. cut_from inside (at + 1) rest)
cut_from (suc inside) at (code ∷ rest) = cut_from inside (at + 1) rest

-- a line without the carriage return at its end, where one stands there
abbrev pub without_return : List ℕ → List ℕ
without_return line = if slice_index line (length line - 1) == carriage_return then take (length line - 1) line else line

-- at most so many tokens: one more is refused
abbrev pub at_most : ℕ → Cut → Cut
at_most most cut = if nat_lt most (length cut.tokens) then record { tokens = take most cut.tokens; refusal = Some Operand } else cut

-- a line, without a carriage return at its end, has these tokens and this refusal
pub record Ends (line : List ℕ) (tokens : List Token) (refusal : Option AsmWhy) : Type 0 where
  pub tokens_are : tokens ≡ (at_most 64 (cut_from 0 0 line)).tokens
  pub refusal_is : refusal ≡ (at_most 64 (cut_from 0 0 line)).refusal
  pub in_order : InOrder 0 tokens (length line)

-- The tokens of a line, which has no newline. The carriage return at its end is dropped here, and nowhere else.
unfoldable pub tokens_of : List ℕ → Cut
tokens_of line = at_most 64 (cut_from 0 0 (without_return line))
