use Rattle.std.proofs.Common.{◌↔◌, ◌∙◌, ap, sym, subst, false, length, IsSome}
use Rattle.std.specs.Option.{option_map}
use Rattle.mips_text.specs.Values.{bytes_of_text, unescaped}
use Rattle.mips_text.proofs.Escapes.{readable}
use Rattle.mips_text.proofs.texts.text_size.Goals as goal

pub returns-clause-some : goal.returns-clause-some
unfolding bytes_of_text
returns-clause-some c =
    let value = c.size_of.ensures ∙ ap (λ t. option_map length (unescaped false t)) c.inside.ensures in
    subst (λ r. IsSome r ↔ IsSome (bytes_of_text c.args.text.now)) (sym value) (readable (bytes_of_text c.args.text.now))
