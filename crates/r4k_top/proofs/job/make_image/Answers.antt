-- The image comes of the one file that is wanted.
use Rattle.std.proofs.Common.{◌∙◌, ℕ, List, [], Some, None, refl, ap, sym}
use Rattle.elf_image.specs.Written.{image_of}
use Rattle.r4k_top.specs.Command.{Assemble}
use Rattle.r4k_top.specs.Wanted.{a_source}
use Rattle.r4k_top.specs.Outcome.{End, Makes, put_image}
use Rattle.r4k_top.proofs.Reading.{stopped_reading, all_accepted, made_of, of_told, handed_on}
use Rattle.r4k_top.proofs.job.make_image.Goals as goal

abbrev put_bytes_under : List ℕ → List ℕ → End
put_bytes_under name bytes = Makes (record { verdict = None; text = []; file = Some (record { name = name; bytes = bytes }) })

pub returns-in_err-built-clause-stopped : goal.returns-in_err-built-clause-stopped
returns-in_err-built-clause-stopped g c =
    handed_on _ _ c.in_err-built.field-0.0 c.from_residual.ensures.1
    (stopped_reading (Assemble c.args.source.now c.args.out.now) [] (a_source c.args.source.now) [] _ _ _ _ _ refl tt c.read_source.ensures.asked c.in_err-built.ensures.stopped)

pub returns-clause-made : goal.returns-clause-made
returns-clause-made g c =
    made_of _ _ _ _ _
    (all_accepted (Assemble c.args.source.now c.args.out.now) _ _ (c.in_ok-built.ensures.accepted, tt)
    (λ files told.
    ap (put_image c.args.out.now) (of_told _ _ _ c.in_ok-built.ensures.built files told)
    ∙ ap (put_bytes_under c.args.out.now) (sym (c.in_ok-bytes.ensures.image ∙ ap (image_of c.in_ok-built.built.base c.in_ok-built.built.entry) c.deref.ensures.value))))
    refl c.read_source.ensures.asked
