use Rattle.std.proofs.Common.{◌≡◌, ◌+◌, ◌-◌, ◌∷◌, length, take, drop, sym, ap, ◌∙◌, arith}
use Rattle.std.proofs.lemmas.List.{take_all, length-drop}
use Rattle.input_script.specs.Grammar.{parts_of}
use Rattle.input_script.proofs.PartList.{parts_of_more}
use Rattle.input_script.proofs.parts.first_part.Goals as goal

pub returns-in-Some-clause-parts : goal.returns-in-Some-clause-parts
returns-in-Some-clause-parts c =
    let text = c.args.text.now in
    let at = c.in-Some.at in
    let more = parts_of_more c.args.code at text (sym c.place_of.ensures ∙ c.in-Some.is) in
    let whole : take (length text - (at + 1)) (drop (at + 1) text) ≡ drop (at + 1) text =
    take_all (length text - (at + 1)) (drop (at + 1) text) (omega (arith, length-drop (at + 1) text)) in
    more.1 ∙ ap (λ rest. take at text ∷ parts_of c.args.code rest) (sym whole)
