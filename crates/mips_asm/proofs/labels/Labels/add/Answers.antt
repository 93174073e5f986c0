use Rattle.std.proofs.Common.{◌≡◌, ◌++◌, [], ◌∷◌, None, nat_eq, ap, ◌∙◌}
use Rattle.std.specs.Cmp.Lexicographic.{pointwise}
use Rattle.std.specs.Map.{lookup}
use Rattle.mips_text.specs.Coded.{label_at}
use Rattle.mips_asm.specs.LabelsOf.{labels_shown}
use Rattle.mips_asm.proofs.LabelList.{lookup_shown, labels_shown_append}
use Rattle.indexmap.proofs.CallerLemmas.{insert_entry-new}
use Rattle.mips_asm.proofs.labels.Labels.add.Goals as goal

pub returns : goal.returns
returns c =
    let key = c.in_ok-from_slice.field-0 in
    let entries = c.self.inside.map.entries in
    let same = c.in_ok-from_slice.ensures.items in
    let none : lookup (λ k. pointwise nat_eq key.items k.items) entries ≡ None =
    lookup_shown key.items entries
    ∙ ap (λ name. label_at (labels_shown entries) name) same
    ∙ ap (λ labels. label_at labels c.args.name.now) c.self.view_is
    ∙ c.requires in
    ap labels_shown c.in_ok-insert.ensures.entries
    ∙ ap labels_shown (insert_entry-new (λ k q. pointwise nat_eq k.items q.items) c.self.inside.map key c.args.address none)
    ∙ labels_shown_append entries key c.args.address
    ∙ ap (λ labels. labels ++ (key.items, c.args.address) ∷ []) c.self.view_is
    ∙ ap (λ name. c.args.self.now ++ (name, c.args.address) ∷ []) same
