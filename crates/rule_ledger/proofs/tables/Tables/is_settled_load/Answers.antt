use Rattle.std.proofs.Common.{sym, ap, ◌∙◌}
use Rattle.std.proofs.lemmas.Bool.{not-true}
use Rattle.r4_shape.specs.Numbers.{IsShape}
use Rattle.rule_ledger.specs.declared.marks.DataMark.{DataMark}
use Rattle.rule_ledger.proofs.AnyEvent.{granule_inside, colour_inside}
use Rattle.rule_ledger.proofs.Settling.{settled_load}
use Rattle.rule_ledger.proofs.tables.Tables.is_settled_load.Goals as goal

pub returns-then-mark-clause-settles : goal.returns-then-mark-clause-settles
returns-then-mark-clause-settles c = λ consistent e.
    let is : IsShape c.args.self.now.shape = c.accessed_data-mark.ensures.is_shape in
    let mark = c.accessed_data-mark.ensures.mark in
    settled_load c.args.self.now consistent _ _ (granule_inside _ is c.args.pa c.requires.ram) (colour_inside _ is c.args.va)
    (sym (ap (λ (m : DataMark). m.held) mark) ∙ c.if-mark.true) (sym (ap (λ (m : DataMark). m.old) mark) ∙ not-true _ e)
