-- A word's row is found among the rows of its class alone.
use Rattle.std.proofs.Common.{◌≡◌, ◌≢◌, ◌==◌, ℕ, ◌+◌, ◌-◌, ◌/◌, ◌%◌, ◌^◌, Bool, true, false, not, ◌&&◌, ◌||◌, List, [], ◌∷◌, ◌++◌, Option, Some, None, length, bit_and, refl, sym, ap, ◌∙◌, ⊎_elim, arith, if◌then◌else◌}
use Rattle.std.specs.List.{list_all}
use Rattle.std.specs.Option.{option_or}
use Rattle.std.proofs.lemmas.Bool.{eqb-true, and_parts, or_cases, cases_Bool, not-true}
use Rattle.std.proofs.lemmas.Nat.{and_mask, and_shr, and_mod}
use Rattle.std.proofs.Math.Nat.{mod-mod}
use Rattle.mips3_table.specs.declared.classes.Class.{Class}
use Rattle.mips3_table.specs.declared.classes.Class.TheVariants.{Opcode, Special, Regimm, Cop0Move, Cop0Function}
use Rattle.mips3_table.specs.Operands.{bits_of}
use Rattle.mips3_table.specs.Rows.{Row, rows, opcode_rows, special_rows, regimm_rows, cop0_move_rows, cop0_function_rows}
use Rattle.mips3_table.specs.Matching.{matches, match_from, match_in, row_of, class_by, class_of}

-- a field that a mask reads whole is the same in the word and in what is wanted of it
pub field_matched : (word mask value low width : ℕ) → bit_and word mask ≡ value → bits_of mask low width ≡ 2 ^ width - 1 → bits_of word low width ≡ bits_of value low width
field_matched word mask value low width is_match whole =
    sym (
    ap (λ v. bits_of v low width) (sym is_match) ∙ ap (λ v. v % 2 ^ width) (and_shr word mask low) ∙ and_mod (word / 2 ^ low) (mask / 2 ^ low) width
    ∙ ap (bit_and (bits_of word low width)) whole ∙ and_mask (bits_of word low width) width ∙ mod-mod (word / 2 ^ low) (2 ^ width))

-- outside opcode 16 the class does not depend on bit 25
pub class_by_opcode : (opcode one other : ℕ) → (opcode == 16) ≡ false → class_by opcode one ≡ class_by opcode other
class_by_opcode opcode one other not_cop0 =
    ap (λ b. if opcode == 0 then Special else if opcode == 1 then Regimm else if b then (if one == 0 then Cop0Move else Cop0Function) else Opcode) not_cop0
    ∙ sym (ap (λ b. if opcode == 0 then Special else if opcode == 1 then Regimm else if b then (if other == 0 then Cop0Move else Cop0Function) else Opcode) not_cop0)

-- a row's mask reads what tells its class
abbrev pub reads_class : Row → Bool
reads_class row = (bits_of row.mask 26 6 == 63) && (not (bits_of row.match 26 6 == 16) || (bits_of row.mask 25 1 == 1))

-- so a word that matches it has the class of what is wanted of it
pub class_matched : (word : ℕ) (row : Row) → reads_class row ≡ true → matches word row ≡ true → class_of word ≡ class_of row.match
unfolding class_of
class_matched word row reads is_match =
    let parts = and_parts (bits_of row.mask 26 6 == 63) _ reads in
    let bits : bit_and word row.mask ≡ row.match = eqb-true _ _ is_match in
    let opcode : bits_of word 26 6 ≡ bits_of row.match 26 6 = field_matched word row.mask row.match 26 6 bits (eqb-true _ _ parts.0) in
    ap (λ o. class_by o (bits_of word 25 1)) opcode ∙
    ⊎_elim
    (λ other. class_by_opcode (bits_of row.match 26 6) (bits_of word 25 1) (bits_of row.match 25 1) (not-true _ other))
    (λ whole. ap (class_by (bits_of row.match 26 6)) (field_matched word row.mask row.match 25 1 bits (eqb-true _ _ whole)))
    (or_cases (not (bits_of row.match 26 6 == 16)) _ parts.1)

abbrev pub is_class : Class → Class → Bool
is_class Opcode Opcode = true
is_class Special Special = true
is_class Regimm Regimm = true
is_class Cop0Move Cop0Move = true
is_class Cop0Function Cop0Function = true
is_class _ _ = false

pub is_class_true : (one other : Class) → is_class one other ≡ true → one ≡ other
is_class_true Opcode Opcode same = refl
is_class_true Special Special same = refl
is_class_true Regimm Regimm same = refl
is_class_true Cop0Move Cop0Move same = refl
is_class_true Cop0Function Cop0Function same = refl
is_class_true one other same = cc

-- a row of a class
unfoldable pub is_of : Class → Row → Bool
is_of class row = reads_class row && is_class (class_of row.match) class

pub opcode_rows_are : list_all (is_of Opcode) opcode_rows ≡ true
unfolding is_of class_of
opcode_rows_are = refl

pub special_rows_are : list_all (is_of Special) special_rows ≡ true
unfolding is_of class_of
special_rows_are = refl

pub regimm_rows_are : list_all (is_of Regimm) regimm_rows ≡ true
unfolding is_of class_of
regimm_rows_are = refl

pub cop0_move_rows_are : list_all (is_of Cop0Move) cop0_move_rows ≡ true
unfolding is_of class_of
cop0_move_rows_are = refl

pub cop0_function_rows_are : list_all (is_of Cop0Function) cop0_function_rows ≡ true
unfolding is_of class_of
cop0_function_rows_are = refl

-- a word of another class matches no row of this one
pub other_matches : (word : ℕ) (class : Class) (row : Row) → is_of class row ≡ true → class_of word ≢ class → matches word row ≡ false
unfolding is_of
other_matches word class row is other =
    let parts = and_parts (reads_class row) _ is in
    ⊎_elim
    (λ here. absurd (other (class_matched word row parts.0 here ∙ is_class_true (class_of row.match) class parts.1)))
    (λ none. none)
    (cases_Bool (matches word row))

pub match_from_other : (word first : ℕ) (class : Class) (rows : List Row) → list_all (is_of class) rows ≡ true → class_of word ≢ class → match_from word first rows ≡ None
match_from_other word first class [] are other = refl
match_from_other word first class (row ∷ rest) are other =
    let parts = and_parts (is_of class row) _ are in
    ap (λ b. if b then Some first else match_from word (first + 1) rest) (other_matches word class row parts.0 other)
    ∙ match_from_other word (first + 1) class rest parts.1 other

pub option_or_none : (answer : Option ℕ) → option_or answer None ≡ answer
option_or_none (Some number) = refl
option_or_none None = refl

pub match_from_append : (word first : ℕ) (front rest : List Row) → match_from word first (front ++ rest) ≡ option_or (match_from word first front) (match_from word (first + length front) rest)
match_from_append word first [] rest = ap (λ at. match_from word at rest) (omega arith)
match_from_append word first (row ∷ front) rest =
    ⊎_elim
    (λ here. ap (λ b. if b then Some first else match_from word (first + 1) (front ++ rest)) here
    ∙ sym (ap (λ b. option_or (if b then Some first else match_from word (first + 1) front) (match_from word (first + length (row ∷ front)) rest)) here))
    (λ later. ap (λ b. if b then Some first else match_from word (first + 1) (front ++ rest)) later
    ∙ match_from_append word (first + 1) front rest
    ∙ ap (λ at. option_or (match_from word (first + 1) front) (match_from word at rest)) (omega arith)
    ∙ sym (ap (λ b. option_or (if b then Some first else match_from word (first + 1) front) (match_from word (first + length (row ∷ front)) rest)) later))
    (cases_Bool (matches word row))

-- the first of five answers
abbrev pub in_turn : Option ℕ → Option ℕ → Option ℕ → Option ℕ → Option ℕ → Option ℕ
in_turn opcode special regimm cop0_move cop0_function = option_or opcode (option_or special (option_or regimm (option_or cop0_move cop0_function)))

pub row_of_in_turn : (word : ℕ) → row_of word ≡ in_turn (match_in Opcode word) (match_in Special word) (match_in Regimm word) (match_in Cop0Move word) (match_in Cop0Function word)
unfolding row_of rows match_in
row_of_in_turn word =
    match_from_append word 0 opcode_rows (special_rows ++ (regimm_rows ++ (cop0_move_rows ++ cop0_function_rows)))
    ∙ ap (option_or (match_in Opcode word))
    (match_from_append word 54 special_rows (regimm_rows ++ (cop0_move_rows ++ cop0_function_rows))
    ∙ ap (option_or (match_in Special word))
    (match_from_append word 106 regimm_rows (cop0_move_rows ++ cop0_function_rows)
    ∙ ap (option_or (match_in Regimm word)) (match_from_append word 120 cop0_move_rows cop0_function_rows)))

pub no_opcode : (word : ℕ) → class_of word ≢ Opcode → match_in Opcode word ≡ None
unfolding match_in
no_opcode word other = match_from_other word 0 Opcode opcode_rows opcode_rows_are other

pub no_special : (word : ℕ) → class_of word ≢ Special → match_in Special word ≡ None
unfolding match_in
no_special word other = match_from_other word 54 Special special_rows special_rows_are other

pub no_regimm : (word : ℕ) → class_of word ≢ Regimm → match_in Regimm word ≡ None
unfolding match_in
no_regimm word other = match_from_other word 106 Regimm regimm_rows regimm_rows_are other

pub no_cop0_move : (word : ℕ) → class_of word ≢ Cop0Move → match_in Cop0Move word ≡ None
unfolding match_in
no_cop0_move word other = match_from_other word 120 Cop0Move cop0_move_rows cop0_move_rows_are other

pub no_cop0_function : (word : ℕ) → class_of word ≢ Cop0Function → match_in Cop0Function word ≡ None
unfolding match_in
no_cop0_function word other = match_from_other word 124 Cop0Function cop0_function_rows cop0_function_rows_are other

-- where all answers but one are None, that one is the first
pub only_opcode : (o s r m f : Option ℕ) → s ≡ None → r ≡ None → m ≡ None → f ≡ None → in_turn o s r m f ≡ o
only_opcode o s r m f at_s at_r at_m at_f = rw (at_s, at_r, at_m, at_f) (option_or_none o)

pub only_special : (o s r m f : Option ℕ) → o ≡ None → r ≡ None → m ≡ None → f ≡ None → in_turn o s r m f ≡ s
only_special o s r m f at_o at_r at_m at_f = rw (at_o, at_r, at_m, at_f) (option_or_none s)

pub only_regimm : (o s r m f : Option ℕ) → o ≡ None → s ≡ None → m ≡ None → f ≡ None → in_turn o s r m f ≡ r
only_regimm o s r m f at_o at_s at_m at_f = rw (at_o, at_s, at_m, at_f) (option_or_none r)

pub only_cop0_move : (o s r m f : Option ℕ) → o ≡ None → s ≡ None → r ≡ None → f ≡ None → in_turn o s r m f ≡ m
only_cop0_move o s r m f at_o at_s at_r at_f = rw (at_o, at_s, at_r, at_f) (option_or_none m)

pub only_cop0_function : (o s r m f : Option ℕ) → o ≡ None → s ≡ None → r ≡ None → m ≡ None → in_turn o s r m f ≡ f
only_cop0_function o s r m f at_o at_s at_r at_m = rw (at_o, at_s, at_r, at_m) refl

-- the row of a word of a class, whichever the class
pub row_of_class : (word : ℕ) (class : Class) → class_of word ≡ class → row_of word ≡ match_in class word
row_of_class word Opcode is =
    row_of_in_turn word ∙ only_opcode _ _ _ _ _ (no_special word (λ e. cc (e, is))) (no_regimm word (λ e. cc (e, is))) (no_cop0_move word (λ e. cc (e, is))) (no_cop0_function word (λ e. cc (e, is)))
row_of_class word Special is =
    row_of_in_turn word ∙ only_special _ _ _ _ _ (no_opcode word (λ e. cc (e, is))) (no_regimm word (λ e. cc (e, is))) (no_cop0_move word (λ e. cc (e, is))) (no_cop0_function word (λ e. cc (e, is)))
row_of_class word Regimm is =
    row_of_in_turn word ∙ only_regimm _ _ _ _ _ (no_opcode word (λ e. cc (e, is))) (no_special word (λ e. cc (e, is))) (no_cop0_move word (λ e. cc (e, is))) (no_cop0_function word (λ e. cc (e, is)))
row_of_class word Cop0Move is =
    row_of_in_turn word ∙ only_cop0_move _ _ _ _ _ (no_opcode word (λ e. cc (e, is))) (no_special word (λ e. cc (e, is))) (no_regimm word (λ e. cc (e, is))) (no_cop0_function word (λ e. cc (e, is)))
row_of_class word Cop0Function is =
    row_of_in_turn word ∙ only_cop0_function _ _ _ _ _ (no_opcode word (λ e. cc (e, is))) (no_special word (λ e. cc (e, is))) (no_regimm word (λ e. cc (e, is))) (no_cop0_move word (λ e. cc (e, is)))

pub row_of_in : (word : ℕ) → row_of word ≡ match_in (class_of word) word
row_of_in word = row_of_class word (class_of word) refl
