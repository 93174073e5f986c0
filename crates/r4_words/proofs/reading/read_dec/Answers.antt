use Rattle.std.proofs.Common.{◌≡◌, ◌≢◌, ◌<◌, ◌^◌, ◌∙◌, ℕ, IfSome, IfNone, sym, subst}
use Rattle.r4_words.specs.Texts.{dec_of}
use Rattle.r4_words.proofs.ReadBack.{read_dec_some, read_dec_none, read_dec_is}
use Rattle.r4_words.proofs.reading.read_dec.Goals as goal

pub returns-clause-some : goal.returns-clause-some
returns-clause-some c = subst (λ r. IfSome r (λ n. c.args.text.now ≡ dec_of n)) (sym c.dec_value.ensures) (read_dec_some c.args.text.now)

pub returns-clause-none : goal.returns-clause-none
returns-clause-none c = subst (λ r. IfNone r ((n : ℕ) → n < 2 ^ 32 → c.args.text.now ≢ dec_of n)) (sym c.dec_value.ensures) (read_dec_none c.args.text.now)

pub returns-clause-read_back : goal.returns-clause-read_back
returns-clause-read_back c = λ n lt same. c.dec_value.ensures ∙ read_dec_is c.args.text.now n lt same
