-- The setup comes of the files of the plan, one after the other.
use Rattle.std.proofs.Common.{◌∙◌, ◌++◌, ◌∷◌, [], refl, ap, sym, arith}
use Rattle.std.proofs.lemmas.List.{append-nil}
use Rattle.r4k_top.specs.Command.{Run}
use Rattle.r4k_top.specs.CommandShown.{name_shown, plan_shown}
use Rattle.r4k_top.specs.Wanted.{an_image, a_script, a_disk, if_given}
use Rattle.r4k_top.proofs.Reading.{stopped_reading, stopped_next, setup_of, accepted_two, accepted_three, asked_three, calls_then, handed_on}
use Rattle.r4k_top.proofs.job.read_setup.Goals as goal

pub returns-in_err-image-clause-stopped : goal.returns-in_err-image-clause-stopped
returns-in_err-image-clause-stopped g c =
    handed_on _ _ c.in_err-image.field-0.0 c.from_residual.ensures.1
    (stopped_reading (Run (plan_shown c.args.plan.now)) [] (an_image c.args.plan.now.image.now)
    (if_given a_script (name_shown c.args.plan.now.script) ++ if_given a_disk (name_shown c.args.plan.now.disk)) _ _ _ _ _ refl tt
    c.read_image_file.ensures.asked c.in_err-image.ensures.stopped)

pub returns-in_err-script-clause-stopped : goal.returns-in_err-script-clause-stopped
returns-in_err-script-clause-stopped g c =
    handed_on _ _ c.in_err-script.field-0.0 c.from_residual-in_err-script.ensures.1
    (stopped_next (Run (plan_shown c.args.plan.now)) (an_image c.args.plan.now.image.now ∷ []) a_script (name_shown c.args.plan.now.script)
    (if_given a_disk (name_shown c.args.plan.now.disk)) _ _ _ _ _ _ _ _ _ refl (c.in_ok-image.ensures.accepted, tt)
    c.read_image_file.ensures.held c.read_image_file.ensures.later c.read_image_file.ensures.asked
    c.read_script_of.ensures.asked c.in_err-script.ensures.stopped)

pub returns-in_err-disk-clause-stopped : goal.returns-in_err-disk-clause-stopped
returns-in_err-disk-clause-stopped g c =
    handed_on _ _ c.in_err-disk.field-0.0 c.from_residual-in_err-disk.ensures.1
    (stopped_next (Run (plan_shown c.args.plan.now)) (an_image c.args.plan.now.image.now ∷ if_given a_script (name_shown c.args.plan.now.script)) a_disk
    (name_shown c.args.plan.now.disk) [] _ _ _ _ _ _ _ _ _
    (ap (λ more. an_image c.args.plan.now.image.now ∷ (if_given a_script (name_shown c.args.plan.now.script) ++ more)) (sym (append-nil (if_given a_disk (name_shown c.args.plan.now.disk)))))
    (accepted_two _ _ (plan_shown c.args.plan.now) c.read_image_file.ensures.held c.in_ok-image.ensures.accepted c.in_ok-script.ensures.accepted)
    (c.read_script_of.ensures.held ∙ c.read_image_file.ensures.held)
    (omega (arith, c.read_image_file.ensures.later, c.read_script_of.ensures.later))
    (calls_then _ _ _ _ _ c.read_image_file.ensures.asked c.read_script_of.ensures.asked)
    c.read_disk_of.ensures.asked c.in_err-disk.ensures.stopped)

pub returns-clause-setup : goal.returns-clause-setup
returns-clause-setup g c =
    setup_of _ _ _ (plan_shown c.args.plan.now) _ _ _ c.read_image_file.ensures.held c.read_script_of.ensures.held
    c.in_ok-image.ensures.file c.in_ok-script.ensures.script c.in_ok-disk.ensures.disk

pub returns-clause-accepted : goal.returns-clause-accepted
returns-clause-accepted g c =
    accepted_three _ _ _ (plan_shown c.args.plan.now) c.read_image_file.ensures.held c.read_script_of.ensures.held
    c.in_ok-image.ensures.accepted c.in_ok-script.ensures.accepted c.in_ok-disk.ensures.accepted

pub returns-clause-asked : goal.returns-clause-asked
returns-clause-asked g c =
    asked_three (plan_shown c.args.plan.now) _ _ _ _ c.read_image_file.ensures.asked c.read_script_of.ensures.asked c.read_disk_of.ensures.asked
