use Rattle.std.proofs.Common.{◌∙◌, arith}
use Rattle.rule_ledger.proofs.Ageing.{all_aged_more}
use Rattle.rule_ledger.proofs.tables.Tables.age_all.Goals as goal

pub loop-granule-preserved : goal.loop-granule-preserved
loop-granule-preserved c =
    let before = c.loop-granule.invariant in
    let one = c.age.ensures.kept in
    let two = c.age_instructions.ensures.kept in
    record {
      facts = all_aged_more _ _ _ _ c.args.first c.loop-granule.granule (omega arith) before.facts c.age.ensures.facts c.age_instructions.ensures.facts;
      kept = record { shape = two.shape ∙ (one.shape ∙ before.kept.shape); steps = two.steps ∙ (one.steps ∙ before.kept.steps) };
    }
