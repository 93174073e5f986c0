-- The listing comes of the one file that is wanted.
use Rattle.std.proofs.Common.{[], refl, ap, sym}
use Rattle.r4k_top.specs.Command.{Disassemble}
use Rattle.r4k_top.specs.Wanted.{an_image}
use Rattle.r4k_top.specs.Outcome.{list_job}
use Rattle.r4k_top.proofs.Reading.{stopped_reading, all_accepted, made_of, of_told, handed_on}
use Rattle.r4k_top.proofs.job.make_listing.Goals as goal

pub returns-in_err-image-clause-stopped : goal.returns-in_err-image-clause-stopped
returns-in_err-image-clause-stopped g c =
    handed_on _ _ c.in_err-image.field-0.0 c.from_residual.ensures.1
    (stopped_reading (Disassemble c.args.image.now) [] (an_image c.args.image.now) [] _ _ _ _ _ refl tt c.read_image_file.ensures.asked c.in_err-image.ensures.stopped)

pub returns-clause-made : goal.returns-clause-made
returns-clause-made g c =
    made_of _ _ _ _ _
    (all_accepted (Disassemble c.args.image.now) _ (list_job c.in_ok-image.image) (c.in_ok-image.ensures.accepted, tt)
    (λ files told. ap list_job (sym (of_told _ _ _ c.in_ok-image.ensures.file files told))))
    refl c.read_image_file.ensures.asked
