use Rattle.std.proofs.Common.{sym, ap, ◌∙◌}
use Rattle.std.proofs.lemmas.Bool.{not-true}
use Rattle.r4_shape.specs.Numbers.{IsShape}
use Rattle.rule_ledger.specs.declared.marks.InstructionMark.{InstructionMark}
use Rattle.rule_ledger.proofs.AnyEvent.{granule_inside, colour_inside}
use Rattle.rule_ledger.proofs.Settling.{settled_fetch}
use Rattle.rule_ledger.proofs.tables.Tables.is_settled_fetch.Goals as goal

pub returns-then-copy-clause-settles : goal.returns-then-copy-clause-settles
returns-then-copy-clause-settles c = λ consistent e.
    let is : IsShape c.args.self.now.shape = c.accessed_instruction-copy.ensures.is_shape in
    let mark = c.accessed_instruction-copy.ensures.mark in
    settled_fetch c.args.self.now consistent _ _ (granule_inside _ is c.args.pa c.requires.ram) (colour_inside _ is c.args.va)
    (sym (ap (λ (m : InstructionMark). m.held) mark) ∙ c.if-copy.true) (sym (ap (λ (m : InstructionMark). m.old) mark) ∙ not-true _ e)
