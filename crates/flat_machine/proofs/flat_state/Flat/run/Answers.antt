use Rattle.flat_machine.specs.FlatRun.{flat_run_of}
use Rattle.flat_machine.proofs.Runs.{made_run}
use Rattle.flat_machine.proofs.flat_state.Flat.run.Goals as goal

pub returns-clause-flat : goal.returns-clause-flat
returns-clause-flat c = made_run c.args.steps c.args.self.now _ _ c.make_run.ensures.cpu c.make_run.ensures.memory

pub returns-clause-answer : goal.returns-clause-answer
unfolding flat_run_of
returns-clause-answer c = c.make_run.ensures.answer
