use Rattle.std.proofs.Common.{◌≡◌, take, rules}
use Rattle.r4_ports.specs.Told.{file_of}
use Rattle.r4_ports.specs.FileList.{files_of}
use Rattle.r4_ports.proofs.Files.{fetched}
use Rattle.r4_ports.proofs.sure_shelf.SureShelfShelf.fetch.Goals as goal

pub returns-clause-bytes : goal.returns-clause-bytes
returns-clause-bytes c =
    let is : c.in_ok-first_bytes.field-0.items ≡ take c.args.cap (file_of (files_of c.self.inside.files.items) c.args.name.now) = search rules in
    rw (← c.self.view_is) (fetched c.self.inside.files.items c.self.inside.is_told _ _ _ is)
