use Rattle.std.proofs.Common.{◌≡◌, ◌++◌, subst, false, IfSome}
use Rattle.mips_text.specs.Values.{bytes_of_text, unescaped}
use Rattle.mips_text.proofs.texts.push_text.Goals as goal

pub returns-in-Ok-clause-ok : goal.returns-in-Ok-clause-ok
unfolding bytes_of_text
returns-in-Ok-clause-ok c = subst (λ t. IfSome (unescaped false t) (λ bytes. c.push_inside.new.out.items ≡ c.args.out.now.items ++ bytes)) c.inside.ensures c.in-Ok.ensures.ok
