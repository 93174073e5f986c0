-- The report comes of the files of the plan.
use Rattle.std.proofs.Common.{◌∙◌, ap, sym}
use Rattle.machine_core.specs.Machine.{reset_of}
use Rattle.prom_code.specs.PromWords.{boot_prom}
use Rattle.r4k_top.specs.Command.{Run}
use Rattle.r4k_top.specs.CommandShown.{plan_shown}
use Rattle.r4k_top.specs.Outcome.{run_job}
use Rattle.r4k_top.proofs.Reading.{all_accepted, made_of, setup_told, disk_alone, handed_on, out_of_memory, if_ok, if_err}
use Rattle.r4k_top.proofs.FlatEnds.{setup_flat}
use Rattle.r4k_top.proofs.job.make_report.Goals as goal

pub returns-in_err-out-clause-stopped : goal.returns-in_err-out-clause-stopped
returns-in_err-out-clause-stopped g c =
    handed_on _ _ c.in_err-out.field-0.0 c.from_residual-in_err-out.ensures.1
    (out_of_memory _ _ _ _ _ _ c.in_ok-setup.ensures.asked c.in_err-out.ensures.stopped)

pub returns-clause-made : goal.returns-clause-made
returns-clause-made g c =
    if_ok _ _ c.run_setup.result
    (λ product made.
    made_of _ _ _ _ _
    (all_accepted (Run (plan_shown c.args.plan.now)) _ _ c.in_ok-setup.ensures.accepted
    (λ files told.
    setup_told _ _ _ _ _ c.in_ok-setup.ensures.setup files told
    ∙ ap (λ out. run_job c.args.plan.now.telling c.args.plan.now.shape c.args.plan.now.steps out (reset_of c.args.plan.now.shape boot_prom c.in_ok-setup.setup.image c.in_ok-setup.setup.disk.items c.in_ok-setup.setup.script)) (sym c.in_ok-out.ensures.name)
    ∙ made))
    (disk_alone _ _ _ _ _ _ made ∙ c.in_ok-out.ensures.name) c.in_ok-setup.ensures.asked)
    c.run_setup.ensures.made

pub returns-clause-stopped : goal.returns-clause-stopped
returns-clause-stopped g c =
    if_err _ _ c.run_setup.result
    (λ status is. out_of_memory _ _ _ _ _ _ c.in_ok-setup.ensures.asked is)
    c.run_setup.ensures.stopped

pub returns-clause-flat : goal.returns-clause-flat
returns-clause-flat g c =
    if_ok _ _ c.run_setup.result
    (λ product told will. setup_flat _ (plan_shown c.args.plan.now) _ _ _ c.in_ok-setup.ensures.setup (told will))
    c.run_setup.ensures.flat
