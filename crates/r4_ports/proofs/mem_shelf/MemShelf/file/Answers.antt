use Rattle.std.proofs.Common.{sym}
use Rattle.r4_ports.specs.FileList.{files_of}
use Rattle.r4_ports.proofs.Files.{get-files_after}
use Rattle.r4_ports.proofs.mem_shelf.MemShelf.file.Goals as goal

pub returns : goal.returns
returns c =
    rw (c.latest.ensures, c.find_file.ensures, c.deref.ensures.value, ← c.self.view_is) (sym (get-files_after (files_of c.self.inside.files.items) c.self.inside.puts.puts c.args.name.now))
