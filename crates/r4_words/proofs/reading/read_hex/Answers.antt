use Rattle.std.proofs.Common.{◌≡◌, ◌≢◌, ◌<◌, ◌^◌, ◌∙◌, ℕ, IfSome, IfNone, sym, subst}
use Rattle.r4_words.specs.Texts.{hex_of}
use Rattle.r4_words.proofs.ReadBack.{read_hex_some, read_hex_none, read_hex_is}
use Rattle.r4_words.proofs.reading.read_hex.Goals as goal

pub returns-clause-some : goal.returns-clause-some
returns-clause-some c = subst (λ r. IfSome r (λ n. (c.args.text.now ≡ hex_of c.args.digits n) × (n < 16 ^ c.args.digits))) (sym c.hex_value.ensures) (read_hex_some c.args.text.now c.args.digits)

pub returns-clause-none : goal.returns-clause-none
returns-clause-none c = subst (λ r. IfNone r ((n : ℕ) → c.args.text.now ≢ hex_of c.args.digits n)) (sym c.hex_value.ensures) (read_hex_none c.args.text.now c.args.digits)

pub returns-clause-read_back : goal.returns-clause-read_back
returns-clause-read_back c = λ n lt same. c.hex_value.ensures ∙ read_hex_is c.args.text.now c.args.digits n lt same
