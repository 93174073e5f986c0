use Rattle.std.proofs.Common.{◌∙◌, ap, arith}
use Rattle.elf_image.specs.Rules.{image_fault}
use Rattle.elf_image.specs.Loading.{loaded}
use Rattle.elf_image.proofs.RoundTrip.{image_fault_image_of, loaded_image_of}
use Rattle.elf_image.proofs.writing.write_image.Goals as goal

pub returns-clause-accepted : goal.returns-clause-accepted
returns-clause-accepted c =
    λ placed enters. ap image_fault c.in_ok-image.ensures
    ∙ image_fault_image_of c.args.built_base c.args.entry c.args.bytes.now (omega arith) (omega arith) (omega arith) placed enters

pub returns-clause-loads : goal.returns-clause-loads
returns-clause-loads c =
    λ ram. ap (λ image. loaded image ram) c.in_ok-image.ensures
    ∙ loaded_image_of c.args.built_base c.args.entry c.args.bytes.now ram (omega arith) (omega arith)
