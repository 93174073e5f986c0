use Rattle.std.proofs.Common.{◌≤◌, ◌∙◌, ap, arith}
use Rattle.rule_ledger.specs.Cells.{grid_of}
use Rattle.rule_ledger.specs.Marks.{facts_of}
use Rattle.rule_ledger.specs.MarkFlags.{with_data}
use Rattle.rule_ledger.proofs.Ageing.{aged_more, aged_all}
use Rattle.rule_ledger.proofs.Reading.{held_past}
use Rattle.rule_ledger.proofs.tables.Tables.age.Goals as goal

pub loop-colour-preserved : goal.loop-colour-preserved
loop-colour-preserved c =
    let before = c.loop-colour.invariant in
    let read = c.data_mark-mark.ensures.reads in
    let put = c.put_data_mark.ensures.kept in
    record {
      facts = aged_more _ _ _ c.args.granule c.loop-colour.colour c.data_mark-mark.result before.facts c.data_mark-mark.ensures.mark
          (c.put_data_mark.ensures.facts ∙ ap (with_data c.args.granule c.loop-colour.colour _) read.facts);
      kept = record { shape = put.shape ∙ (read.shape ∙ before.kept.shape); steps = put.steps ∙ (read.steps ∙ before.kept.steps) };
    }

pub returns-clause-facts : goal.returns-clause-facts
returns-clause-facts c =
    let end : (grid_of c.args.self.now.shape).colours ≤ c.loop-colour.colour = rw (← c.self.view_is, ← c.colours-colour-end.ensures.is) c.loop-colour-test.false in
    c.loop-colour.invariant.facts ∙ aged_all (facts_of c.args.self.now) c.args.granule c.loop-colour.colour (λ h d far. held_past c.args.self.now h d (omega arith))
