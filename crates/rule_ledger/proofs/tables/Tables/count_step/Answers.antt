use Rattle.std.proofs.Common.{refl, arith}
use Rattle.rule_ledger.proofs.Reading.{counted_more, facts_counted}
use Rattle.rule_ledger.proofs.tables.Tables.count_step.Goals as goal

pub invariant_of-self : goal.invariant_of-self
invariant_of-self c = let i = c.self.invariant in (i.0, i.1, i.2, counted_more _ _ i.3, counted_more _ _ i.4)

pub returns : goal.returns
returns c =
    let i = c.self.invariant in
    rw (← c.self.view_is) (record {
      facts = facts_counted _ _;
      shape = refl;
      steps = refl;
      touches = refl;
      data_room = λ row. let low = i.3.stamps row in omega arith;
      instruction_room = λ row. let low = i.4.stamps row in omega arith;
    })
