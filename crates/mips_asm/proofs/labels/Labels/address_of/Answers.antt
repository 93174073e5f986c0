use Rattle.std.proofs.Common.{ap, ◌∙◌}
use Rattle.mips_text.specs.Coded.{label_at}
use Rattle.mips_asm.proofs.LabelList.{lookup_shown}
use Rattle.mips_asm.proofs.labels.Labels.address_of.Goals as goal

pub returns : goal.returns
returns c = c.copied.ensures ∙ c.get.ensures.value ∙ lookup_shown c.args.name.now c.self.inside.map.entries ∙ ap (λ v. label_at v c.args.name.now) c.self.view_is
