use Rattle.std.proofs.Common.{OnOk, Result, Ok, Err}
use Rattle.judged_run.proofs.JudgedAgain.{judged_again}
use Rattle.judged_run.proofs.writing.write_traced.Goals as goal

where_ok : {X E : Type 0} {P Q : Type 0} (result : Result X E) → OnOk result P → (P → Q) → OnOk result Q
where_ok (Ok x) p f = f p
where_ok (Err e) p f = p

pub returns-clause-judged_again : goal.returns-clause-judged_again
returns-clause-judged_again g c =
    where_ok c.write_run.result c.write_run.ensures.whole (λ run. judged_again c.args.steps c.args.judged.now run.grammar)
