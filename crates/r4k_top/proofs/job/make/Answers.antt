-- A load is made of no file.
use Rattle.std.proofs.Common.{Some, sym, subst}
use Rattle.r4k_top.specs.CommandShown.{command_shown}
use Rattle.std.specs.Prelude.{IfOk}
use Rattle.r4k_top.specs.EndShown.{made_shown, RunWillBeFlat}
use Rattle.r4k_top.specs.FlatRuns.{YesIsFlat}
use Rattle.r4k_top.specs.Making.{MadeOf}
use Rattle.r4k_top.proofs.Loads.{load_of_command}
use Rattle.r4k_top.proofs.Reading.{if_ok}
use Rattle.r4k_top.proofs.job.make.Goals as goal

pub returns-in-Make-clause-made : goal.returns-in-Make-clause-made
returns-in-Make-clause-made g c =
    if_ok _ _ c.make_load.result
    (λ product made.
    subst
    (λ command. MadeOf (Some (command_shown command)) (g.F.Shelf.held c.args.shelf.now) (g.F.Shelf.asked c.args.shelf.now) (g.F.Shelf.asked c.args.shelf.now) (made_shown product))
    (sym c.in-Make.is)
    (load_of_command (g.F.Shelf.held c.args.shelf.now) (g.F.Shelf.asked c.args.shelf.now) c.in-Make.load.number c.in-Make.load.count c.in-Make.load.out.now (made_shown product) made))
    c.make_load.ensures.made

pub returns-in-Run-clause-flat : goal.returns-in-Run-clause-flat
returns-in-Run-clause-flat g c =
    subst (λ command. IfOk c.make_report.result (λ product. RunWillBeFlat product → YesIsFlat (Some (command_shown command)) (g.F.Shelf.held c.args.shelf.now)))
    (sym c.in-Run.is) c.make_report.ensures.flat
