-- What stands at each place of a statement after its name: the token that is expected there beside the one that the
-- line has. What is read from such a line depends on the kinds and the texts of its tokens alone.
use Rattle.std.proofs.Common.{◌≡◌, ℕ, suc, Bool, true, false, not, ◌&&◌, ◌||◌, if◌then◌else◌, List, [], ◌∷◌, length, Option, Some, None, option_and_then, refl, ap, ap₂, sym, ◌∙◌, Ok, Err}
use Rattle.std.specs.List.{list_all, zip}
use Rattle.std.proofs.lemmas.Bool.{eq-eqb}
use Rattle.mips3_table.specs.declared.instruction.Inst.{Inst}
use Rattle.mips3_table.specs.Rows.{row_at}
use Rattle.mips_text.specs.declared.reason.AsmWhy.TheVariants as why
use Rattle.mips_text.specs.declared.token.Token.{Token}
use Rattle.mips_text.specs.declared.token.TokenKind.{TokenKind}
use Rattle.mips_text.specs.declared.token.TokenKind.TheVariants.{Name}
use Rattle.mips_text.specs.declared.operand.Expected.{Expected}
use Rattle.mips_text.specs.declared.statement.Statement.{Statement}
use Rattle.mips_text.specs.declared.statement.Statement.TheVariants.{Instruction}
use Rattle.mips_text.specs.Forms.{Shape, operands_of, shape_of, separated, statement_named, token_text, names_no_register, has_kind, has_range}
use Rattle.mips_text.specs.declared.item.Target.{Target}
use Rattle.mips_text.specs.declared.item.Item.{Item}
use Rattle.mips_text.specs.Line.{Parts, Reading, tokens_expected, some_unknown, all_agree, all_in_range, operands_fault, with_operand, with_operands, bare, target_or, target_in, item_by, item_of, is_colon, is_name, parts_of, with_item, statement_by_fault, statement_by_name, read_statement, read_cut}
use Rattle.mips_text.proofs.Pieces.{Piece, piece, Spells}

-- a place of a statement: what is expected there, and the token that stands there
pub record Place : Type 0 where
  pub expected : Expected
  pub kind : TokenKind
  pub text : List ℕ

abbrev pub place : Expected → TokenKind → List ℕ → Place
place expected kind text = record { expected = expected; kind = kind; text = text }

abbrev pub pieces_at : List Place → List Piece
pieces_at [] = []
pieces_at (one ∷ places) = piece one.kind one.text ∷ pieces_at places

abbrev pub expected_at : List Place → List Expected
expected_at [] = []
expected_at (one ∷ places) = one.expected ∷ expected_at places

-- what stands at a place is what is expected there
pub record Agrees (one : Place) : Type 0 where
  pub known : names_no_register one.expected one.kind one.text ≡ false
  pub kind : has_kind one.expected one.kind one.text ≡ true
  pub range : has_range one.expected one.kind one.text ≡ true

abbrev pub AllAgree : List Place → Type 0
AllAgree [] = Unit {0}
AllAgree (one ∷ places) = Agrees one × AllAgree places

-- the first place has no colon, with which the name before it were a label
abbrev pub NoColon : List Place → Type 0
NoColon [] = Unit {0}
NoColon (one ∷ places) = is_colon one.kind one.text ≡ false

-- a test of a token is the test of what it spells
spelled_test : (test : TokenKind → List ℕ → Bool) (line : List ℕ) (token : Token) (kind : TokenKind) (text : List ℕ) (is : Bool) → token.kind ≡ kind → token_text line token ≡ text → test kind text ≡ is →
    test token.kind (token_text line token) ≡ is
spelled_test test line token kind text is same_kind same_text holds =
    ap (λ k. test k (token_text line token)) same_kind ∙ ap (test kind) same_text ∙ holds

none_unknown : (line : List ℕ) (places : List Place) (tokens : List Token) → Spells line tokens (pieces_at places) → AllAgree places → some_unknown line (expected_at places) tokens ≡ false
none_unknown line [] tokens spells agree = refl
none_unknown line (one ∷ places) [] spells agree = absurd spells
none_unknown line (one ∷ places) (token ∷ tokens) spells agree =
    ap (λ b. b || some_unknown line (expected_at places) tokens) (spelled_test (names_no_register one.expected) line token one.kind one.text false spells.0 spells.1 agree.0.known)
    ∙ none_unknown line places tokens spells.2 agree.1

kinds_agree : (line : List ℕ) (places : List Place) (tokens : List Token) → Spells line tokens (pieces_at places) → AllAgree places
    → list_all (λ place. has_kind place.0 place.1.kind (token_text line place.1)) (zip (expected_at places) tokens) ≡ true
kinds_agree line [] tokens spells agree = refl
kinds_agree line (one ∷ places) [] spells agree = absurd spells
kinds_agree line (one ∷ places) (token ∷ tokens) spells agree =
    ap (λ b. b && list_all (λ place. has_kind place.0 place.1.kind (token_text line place.1)) (zip (expected_at places) tokens))
    (spelled_test (has_kind one.expected) line token one.kind one.text true spells.0 spells.1 agree.0.kind)
    ∙ kinds_agree line places tokens spells.2 agree.1

length_expected : (places : List Place) → length (expected_at places) ≡ length places
length_expected [] = refl
length_expected (one ∷ places) = ap suc (length_expected places)

all_within : (line : List ℕ) (places : List Place) (tokens : List Token) → Spells line tokens (pieces_at places) → AllAgree places → all_in_range line (expected_at places) tokens ≡ true
all_within line [] tokens spells agree = refl
all_within line (one ∷ places) [] spells agree = absurd spells
all_within line (one ∷ places) (token ∷ tokens) spells agree =
    ap (λ b. b && all_in_range line (expected_at places) tokens) (spelled_test (has_range one.expected) line token one.kind one.text true spells.0 spells.1 agree.0.range)
    ∙ all_within line places tokens spells.2 agree.1

length_spelled : (line : List ℕ) (places : List Place) (tokens : List Token) → Spells line tokens (pieces_at places) → length tokens ≡ length places
length_spelled line [] [] spells = refl
length_spelled line [] (token ∷ tokens) spells = absurd spells
length_spelled line (one ∷ places) [] spells = absurd spells
length_spelled line (one ∷ places) (token ∷ tokens) spells = ap suc (length_spelled line places tokens spells.2)

all_of_kind : (line : List ℕ) (places : List Place) (tokens : List Token) → Spells line tokens (pieces_at places) → AllAgree places → all_agree line (expected_at places) tokens ≡ true
all_of_kind line places tokens spells agree =
    ap₂ (λ b c. b && c) (eq-eqb (length tokens) (length (expected_at places)) (length_spelled line places tokens spells ∙ sym (length_expected places)))
    (kinds_agree line places tokens spells agree)

-- so these tokens are the operands of a shape that expects them
no_fault : (line : List ℕ) (shape : Shape) (places : List Place) (tokens : List Token) → Spells line tokens (pieces_at places) → tokens_expected shape (length places) ≡ expected_at places → AllAgree places →
    operands_fault line shape tokens ≡ None
unfolding operands_fault
no_fault line shape places tokens spells is agree =
    let expected : tokens_expected shape (length tokens) ≡ expected_at places = ap (tokens_expected shape) (length_spelled line places tokens spells) ∙ is in
    let kinds = all_agree line (expected_at places) tokens in
    let ranges = all_in_range line (expected_at places) tokens in
    ap (λ e. if some_unknown line e tokens then Some why.Unknown else if not (all_agree line e tokens) then Some why.Operand else if not (all_in_range line e tokens) then Some why.Range else None) expected
    ∙ ap (λ b. if b then Some why.Unknown else if not kinds then Some why.Operand else if not ranges then Some why.Range else None) (none_unknown line places tokens spells agree)
    ∙ ap (λ b. if not b then Some why.Operand else if not ranges then Some why.Range else None) (all_of_kind line places tokens spells agree)
    ∙ ap (λ b. if not b then Some why.Range else None) (all_within line places tokens spells agree)

-- an instruction with the fields that the places give
abbrev pub with_places : List Place → Inst → Option Inst
with_places [] inst = Some inst
with_places (one ∷ places) inst = option_and_then (with_places places) (with_operand one.expected one.text inst)

same_then : (one other : Inst → Option Inst) (found : Option Inst) → ((inst : Inst) → one inst ≡ other inst) → option_and_then one found ≡ option_and_then other found
same_then one other (Some inst) same = same inst
same_then one other None same = refl

with_spelled : (line : List ℕ) (places : List Place) (tokens : List Token) (inst : Inst) → Spells line tokens (pieces_at places) → with_operands line (expected_at places) tokens inst ≡ with_places places inst
with_spelled line [] tokens inst spells = refl
with_spelled line (one ∷ places) [] inst spells = absurd spells
with_spelled line (one ∷ places) (token ∷ tokens) inst spells =
    ap (λ t. option_and_then (with_operands line (expected_at places) tokens) (with_operand one.expected t inst)) spells.1
    ∙ same_then (with_operands line (expected_at places) tokens) (with_places places) (with_operand one.expected one.text inst) (λ next. with_spelled line places tokens next spells.2)

-- the target that the places give, if one is expected
abbrev pub target_placed : List Place → Option Target
target_placed [] = None
target_placed (one ∷ places) = target_or one.expected one.kind one.text (target_placed places)

target_spelled : (line : List ℕ) (places : List Place) (tokens : List Token) → Spells line tokens (pieces_at places) → target_in line (expected_at places) tokens ≡ target_placed places
target_spelled line [] tokens spells = refl
target_spelled line (one ∷ places) [] spells = absurd spells
target_spelled line (one ∷ places) (token ∷ tokens) spells =
    ap (λ k. target_or one.expected k (token_text line token) (target_in line (expected_at places) tokens)) spells.0
    ∙ ap (λ t. target_or one.expected one.kind t (target_in line (expected_at places) tokens)) spells.1
    ∙ ap (target_or one.expected one.kind one.text) (target_spelled line places tokens spells.2)

-- what a statement of a row puts, by its places
abbrev pub item_placed : ℕ → List Place → Option Item
item_placed row places = option_and_then (λ inst. item_by (operands_of (row_at row).form) inst (target_placed places)) (with_places places (bare row))

pub item_of_spelled : (line : List ℕ) (row : ℕ) (places : List Place) (tokens : List Token) → Spells line tokens (pieces_at places) → expected_at places ≡ separated (operands_of (row_at row).form) →
    item_of line (Instruction row) tokens ≡ item_placed row places
unfolding item_of
item_of_spelled line row places tokens spells expected =
    let operands = operands_of (row_at row).form in
    ap (λ e. option_and_then (λ inst. item_by operands inst (target_in line e tokens)) (with_operands line e tokens (bare row))) (sym expected)
    ∙ ap (option_and_then (λ inst. item_by operands inst (target_in line (expected_at places) tokens))) (with_spelled line places tokens (bare row) spells)
    ∙ ap (λ target. option_and_then (λ inst. item_by operands inst target) (with_places places (bare row))) (target_spelled line places tokens spells)

-- a line that says this alone
abbrev pub says : Item → Reading
says item = Ok (record { label = None; item = Some item })

-- what a statement puts, whatever tokens spell its places
abbrev pub Puts : List ℕ → Statement → List Place → Item → Type 0
Puts line statement places item = (tokens : List Token) → Spells line tokens (pieces_at places) → item_of line statement tokens ≡ Some item

statement_spelled : (line name : List ℕ) (statement : Statement) (places : List Place) (item : Item) (tokens : List Token) → Spells line tokens (piece Name name ∷ pieces_at places) → statement_named name ≡ Some statement →
    tokens_expected (shape_of statement) (length places) ≡ expected_at places → AllAgree places → Puts line statement places item → read_statement line None tokens ≡ says item
unfolding read_statement
statement_spelled line name statement places item [] spells named expected agree puts = absurd spells
statement_spelled line name statement places item (token ∷ tokens) spells named expected agree puts =
    ap (λ k. if is_name k then statement_by_name line None (statement_named (token_text line token)) tokens else Err why.Operand) spells.0
    ∙ ap (λ t. statement_by_name line None (statement_named t) tokens) spells.1
    ∙ ap (λ s. statement_by_name line None s tokens) named
    ∙ ap (statement_by_fault line None statement tokens) (no_fault line (shape_of statement) places tokens spells.2 expected agree)
    ∙ ap (with_item None) (puts tokens spells.2)

-- a statement without a label
parts_spelled : (line name : List ℕ) (places : List Place) (tokens : List Token) → Spells line tokens (piece Name name ∷ pieces_at places) → NoColon places → parts_of line tokens ≡ record { label = None; statement = tokens }
parts_spelled line name places [] spells no_colon = absurd spells
parts_spelled line name [] (token ∷ []) spells no_colon = refl
parts_spelled line name [] (token ∷ next ∷ tokens) spells no_colon = absurd spells.2
parts_spelled line name (one ∷ places) (token ∷ []) spells no_colon = absurd spells.2
parts_spelled line name (one ∷ places) (token ∷ next ∷ tokens) spells no_colon =
    let labelled : Parts = record { label = Some (token_text line token); statement = tokens } in
    let plain : Parts = record { label = None; statement = token ∷ next ∷ tokens } in
    ap (λ b. if is_name token.kind && b then labelled else plain) (spelled_test is_colon line next one.kind one.text false spells.2.0 spells.2.1 no_colon)
    ∙ ap (λ k. if is_name k && false then labelled else plain) spells.0

-- what is read from a line that was cut into these tokens
pub cut_spelled : (line name : List ℕ) (statement : Statement) (places : List Place) (item : Item) (tokens : List Token) → Spells line tokens (piece Name name ∷ pieces_at places) → statement_named name ≡ Some statement →
    tokens_expected (shape_of statement) (length places) ≡ expected_at places → AllAgree places → NoColon places → Puts line statement places item → read_cut line None (parts_of line tokens) ≡ says item
cut_spelled line name statement places item tokens spells named expected agree no_colon puts =
    ap (read_cut line None) (parts_spelled line name places tokens spells no_colon) ∙ statement_spelled line name statement places item tokens spells named expected agree puts
