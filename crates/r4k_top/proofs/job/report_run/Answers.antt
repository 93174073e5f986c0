-- The report is that of the run from reset.
use Rattle.machine_core.specs.Machine.{reset_of}
use Rattle.prom_code.specs.PromWords.{boot_prom}
use Rattle.r4k_top.specs.EndShown.{out_shown}
use Rattle.r4k_top.proofs.Benches.{report_made}
use Rattle.r4k_top.proofs.job.report_run.Goals as goal

pub returns-clause-made : goal.returns-clause-made
returns-clause-made c =
    rw (c.new-2.ensures.steps, c.new-2.ensures.machine)
    (report_made c.args.plan.now.shape c.args.plan.now.steps (out_shown c.args.out)
    (reset_of c.args.plan.now.shape boot_prom c.args.setup.image c.args.setup.disk.items c.args.setup.script) c.in_ok-machine.machine
    (rw (← c.prom-prom.ensures.words, ← c.image-2.ensures) c.in_ok-machine.ensures.reset))
