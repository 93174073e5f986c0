use Rattle.std.proofs.Common.{sym, ap, ◌∙◌}
use Rattle.r4_shape.specs.Numbers.{IsShape}
use Rattle.rule_ledger.specs.declared.marks.DataMark.{DataMark}
use Rattle.rule_ledger.proofs.AnyEvent.{granule_inside, colour_inside}
use Rattle.rule_ledger.proofs.Settling.{settled_store}
use Rattle.rule_ledger.proofs.tables.Tables.is_settled_store.Goals as goal

pub returns-clause-settles : goal.returns-clause-settles
returns-clause-settles c = λ consistent e.
    let is : IsShape c.args.self.now.shape = c.accessed_data.ensures.is_shape in
    settled_store c.args.self.now consistent _ _ (granule_inside _ is c.args.pa c.requires.ram) (colour_inside _ is c.args.va)
    (sym (ap (λ (m : DataMark). m.dirty) c.accessed_data.ensures.mark) ∙ e)
