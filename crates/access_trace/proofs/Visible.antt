-- The fields of an event are visible characters, so that a line can be cut at its blanks and a text at its newlines.
use Rattle.std.proofs.Common.{◌≡◌, ◌==◌, ℕ, Bool, true, false, ◌&&◌, not, List, [], ◌∷◌, ◌++◌, refl, ap, ◌∙◌, arith, nat_lt, if◌then◌else◌, codes}
use Rattle.std.specs.List.{list_all, slice_split, onto_first, join_with_byte}
use Rattle.std.proofs.lemmas.List.Splits.{slice_split-cons_no}
use Rattle.std.proofs.lemmas.List.Folds.{list_all-append}
use Rattle.std.proofs.lemmas.Grind.{common_steps}
use Rattle.r4_words.specs.Texts.{dec_of, hex_of, is_digit, is_hex_digit}
use Rattle.r4_words.proofs.ReadBack.{dec_of_are_digits, hex_of_is_hex}
use Rattle.access_trace.specs.Pieces.{pieces}
use Rattle.access_trace.specs.Grammar.{is_beat}
use Rattle.access_trace.specs.Texts.{blank, letter_of, attribute_of, quiet_of, fields_of, line_of}
use Rattle.access_trace.specs.Traces.{newline}
use Rattle.access_trace.specs.declared.event.EventKind.{EventKind}
use Rattle.access_trace.specs.declared.event.EventKind.TheVariants.{Fetch, Load, Store, BeatIn, BeatOut, Cache}
use Rattle.access_trace.specs.declared.event.Event.{Event}

both : (a b : Bool) → (a && b) ≡ true → (a ≡ true) × (b ≡ true)
both true true e = (refl, refl)
both true false e = absurd (cc)
both false b e = absurd (cc)

abbrev is_blank : ℕ → Bool
is_blank code = code == blank

abbrev is_newline : ℕ → Bool
is_newline code = code == newline

-- a character that is neither a blank nor a control character
abbrev is_visible : ℕ → Bool
is_visible code = nat_lt 32 code

digit_is_visible : (code : ℕ) → is_digit code ≡ true → is_visible code ≡ true
digit_is_visible code is = grind (arith, common_steps)

hex_digit_is_visible : (code : ℕ) → is_hex_digit code ≡ true → is_visible code ≡ true
hex_digit_is_visible code is = grind (arith, common_steps)

visible_is_no_blank : (code : ℕ) → is_visible code ≡ true → is_blank code ≡ false
visible_is_no_blank code is = grind (arith, common_steps)

visible_is_no_newline : (code : ℕ) → is_visible code ≡ true → not (is_newline code) ≡ true
visible_is_no_newline code is = grind (arith, common_steps)

-- a text of which each byte passes a second test where it passes the first
all_pass : (p q : ℕ → Bool) → ((code : ℕ) → p code ≡ true → q code ≡ true) → (text : List ℕ) → list_all p text ≡ true → list_all q text ≡ true
all_pass p q each [] is = refl
all_pass p q each (code ∷ text) is =
    let parts = both (p code) (list_all p text) is in
    rw (each code parts.0, all_pass p q each text parts.1) refl

dec_is_visible : (n : ℕ) → list_all is_visible (dec_of n) ≡ true
dec_is_visible n = all_pass is_digit is_visible digit_is_visible (dec_of n) (dec_of_are_digits n)

hex_is_visible : (digits n : ℕ) → list_all is_visible (hex_of digits n) ≡ true
hex_is_visible digits n = all_pass is_hex_digit is_visible hex_digit_is_visible (hex_of digits n) (hex_of_is_hex digits n)

letter_is_visible : (kind : EventKind) → list_all is_visible (letter_of kind) ≡ true
letter_is_visible Fetch = refl
letter_is_visible Load = refl
letter_is_visible Store = refl
letter_is_visible BeatIn = refl
letter_is_visible BeatOut = refl
letter_is_visible Cache = refl

attribute_is_visible : (beat mark : Bool) → list_all is_visible (if beat then codes "-" else if mark then codes "c" else codes "u") ≡ true
attribute_is_visible true mark = refl
attribute_is_visible false true = refl
attribute_is_visible false false = refl

quiet_is_visible : (beat mark : Bool) → list_all is_visible (if beat then codes "-" else if mark then codes "q" else codes "n") ≡ true
quiet_is_visible true mark = refl
quiet_is_visible false true = refl
quiet_is_visible false false = refl

-- the fields behind the tick
abbrev behind_tick : Event → List (List ℕ)
behind_tick event =
    letter_of event.kind ∷ attribute_of event ∷ quiet_of event ∷ hex_of 8 event.va ∷ hex_of 9 event.pa ∷ dec_of event.size ∷ hex_of 16 event.value ∷ []

fields_are_visible : (event : Event) → list_all (list_all is_visible) (fields_of event) ≡ true
fields_are_visible event =
    rw (
      dec_is_visible event.tick,
      letter_is_visible event.kind,
      attribute_is_visible (is_beat event.kind) event.cached,
      quiet_is_visible (is_beat event.kind) event.quiet,
      hex_is_visible 8 event.va,
      hex_is_visible 9 event.pa,
      dec_is_visible event.size,
      hex_is_visible 16 event.value,
    ) refl

-- A line has the fields of which it is made

-- the parts of a text that goes on behind a blank
part_before : (text rest : List ℕ) → list_all is_visible text ≡ true → slice_split is_blank (text ++ 32 ∷ rest) ≡ text ∷ slice_split is_blank rest
part_before [] rest is = refl
part_before (code ∷ text) rest is =
    let parts = both (is_visible code) (list_all is_visible text) is in
    slice_split-cons_no is_blank code (text ++ 32 ∷ rest) (visible_is_no_blank code parts.0) ∙ ap (onto_first code) (part_before text rest parts.1)

-- the one part of a text without a blank
part_alone : (text : List ℕ) → list_all is_visible text ≡ true → slice_split is_blank text ≡ text ∷ []
part_alone [] is = refl
part_alone (code ∷ text) is =
    let parts = both (is_visible code) (list_all is_visible text) is in
    slice_split-cons_no is_blank code text (visible_is_no_blank code parts.0) ∙ ap (onto_first code) (part_alone text parts.1)

-- fields with blanks between are those fields
split_fields : (field : List ℕ) (fields : List (List ℕ)) → list_all (list_all is_visible) (field ∷ fields) ≡ true → slice_split is_blank (join_with_byte 32 (field ∷ fields)) ≡ field ∷ fields
split_fields field [] is = part_alone field (both (list_all is_visible field) true is).0
split_fields field (next ∷ fields) is =
    let parts = both (list_all is_visible field) (list_all (list_all is_visible) (next ∷ fields)) is in
    part_before field (join_with_byte 32 (next ∷ fields)) parts.0 ∙ ap (λ later. field ∷ later) (split_fields next fields parts.1)

pub split_line_of : (event : Event) → pieces blank (line_of event) ≡ fields_of event
split_line_of event = split_fields (dec_of event.tick) (behind_tick event) (fields_are_visible event)

-- A line has no newline

abbrev is_inside : ℕ → Bool
is_inside code = not (is_newline code)

inside_fields : (field : List ℕ) (fields : List (List ℕ)) → list_all (list_all is_visible) (field ∷ fields) ≡ true → list_all is_inside (join_with_byte 32 (field ∷ fields)) ≡ true
inside_fields field [] is = all_pass is_visible is_inside visible_is_no_newline field (both (list_all is_visible field) true is).0
inside_fields field (next ∷ fields) is =
    let parts = both (list_all is_visible field) (list_all (list_all is_visible) (next ∷ fields)) is in
    list_all-append is_inside field (32 ∷ join_with_byte 32 (next ∷ fields))
    ∙ rw (all_pass is_visible is_inside visible_is_no_newline field parts.0, inside_fields next fields parts.1) refl

not_newline : (b : Bool) → not b ≡ true → b ≡ false
not_newline true is = absurd (cc)
not_newline false is = refl

line_before : (line rest : List ℕ) → list_all is_inside line ≡ true → slice_split is_newline (line ++ 10 ∷ rest) ≡ line ∷ slice_split is_newline rest
line_before [] rest is = refl
line_before (code ∷ line) rest is =
    let parts = both (is_inside code) (list_all is_inside line) is in
    slice_split-cons_no is_newline code (line ++ 10 ∷ rest) (not_newline (is_newline code) parts.0) ∙ ap (onto_first code) (line_before line rest parts.1)

-- the line of an event, cut off at the newline that ends it
pub split_behind_line : (event : Event) (rest : List ℕ) → pieces newline (line_of event ++ newline ∷ rest) ≡ line_of event ∷ pieces newline rest
split_behind_line event rest = line_before (line_of event) rest (inside_fields (dec_of event.tick) (behind_tick event) (fields_are_visible event))
