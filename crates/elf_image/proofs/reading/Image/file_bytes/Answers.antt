use Rattle.std.proofs.Common.{◌≡◌, ◌+◌, ◌*◌, ◌<◌, ◌∙◌, ap, refl, arith}
use Rattle.elf_image.specs.Header.{count_of}
use Rattle.elf_image.proofs.Accepted.{accepted_header}
use Rattle.elf_image.proofs.reading.Image.file_bytes.Goals as goal

pub file_bytes-requires-clause-whole : goal.file_bytes-requires-clause-whole
file_bytes-requires-clause-whole c =
    let image = c.self.inside in
    let counted : image.count ≡ count_of c.args.self.now = c.self.invariant.3 ∙ ap count_of c.self.view_is in
    let lt : c.args.index < image.count = omega arith in
    (accepted_header image.bytes.now image.table (image.table + 32 * c.args.index) image.count c.args.index c.self.invariant.0 c.self.invariant.2 c.self.invariant.3 lt refl).0

pub file_bytes-requires-clause-range : goal.file_bytes-requires-clause-range
file_bytes-requires-clause-range c =
    let image = c.self.inside in
    let counted : image.count ≡ count_of c.args.self.now = c.self.invariant.3 ∙ ap count_of c.self.view_is in
    let lt : c.args.index < image.count = omega arith in
    (accepted_header image.bytes.now image.table (image.table + 32 * c.args.index) image.count c.args.index c.self.invariant.0 c.self.invariant.2 c.self.invariant.3 lt refl).1
