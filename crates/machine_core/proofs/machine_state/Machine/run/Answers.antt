use Rattle.std.proofs.Common.{◌∙◌, ap, sym, subst}
use Rattle.machine_core.specs.AddressMap.{HasNoSecondary}
use Rattle.machine_core.specs.Fixed.{HasFixed}
use Rattle.machine_core.specs.Machine.{MachineState}
use Rattle.machine_core.specs.Run.{run_of}
use Rattle.machine_core.specs.TickEvents.{events_of}
use Rattle.machine_core.specs.Traced.{machine_in, run_span}
use Rattle.machine_core.proofs.CalmStates.{ends_calm, run_alone}
use Rattle.machine_core.proofs.Runs.{made_run}
use Rattle.machine_core.proofs.Fixed.{run_fixed}
use Rattle.machine_core.proofs.machine_state.Machine.run.Goals as goal

pub returns-clause-machine : goal.returns-clause-machine
returns-clause-machine c = made_run c.args.steps (machine_in c.args.self.now) _ _ c.make_run.ensures.cpu c.make_run.ensures.memory

pub returns-clause-answer : goal.returns-clause-answer
unfolding run_of
returns-clause-answer c = c.make_run.ensures.answer

pub returns-clause-events : goal.returns-clause-events
unfolding events_of
returns-clause-events c = ap (events_of c.args.self.now.last_tick c.args.self.now.last_span) c.new-self.ensures

pub returns-clause-span : goal.returns-clause-span
returns-clause-span c =
    c.requires.calm
    ∙ sym (ap (λ span. run_span c.args.steps span (machine_in c.args.self.now)) c.requires.calm ∙ ends_calm c.args.steps (machine_in c.args.self.now) c.requires.alone)

pub returns-clause-alone : goal.returns-clause-alone
returns-clause-alone c =
    subst (λ (machine : MachineState). HasNoSecondary machine.bus)
    (sym (made_run c.args.steps (machine_in c.args.self.now) _ _ c.make_run.ensures.cpu c.make_run.ensures.memory))
    (run_alone c.args.steps (machine_in c.args.self.now) c.requires.alone)

pub returns-clause-fixed : goal.returns-clause-fixed
returns-clause-fixed c = λ config fixed. subst (HasFixed config) (sym (returns-clause-machine c)) (run_fixed config c.args.steps (machine_in c.args.self.now) fixed)
