use Rattle.r4_ports.specs.FileList.{files_of}
use Rattle.r4_ports.proofs.Files.{put_into, shelf_after-put}
use Rattle.r4_ports.proofs.mem_shelf.MemShelf.keep.Goals as goal

pub returns-clause-state : goal.returns-clause-state
returns-clause-state c =
    let s = c.self.inside in
    rw (c.push.ensures, ← c.self.view_is) (shelf_after-put (files_of s.files.items) s.puts s.is_told s.asked s.failing.items s.calls s.fetch_faults s.put_faults c.args.name.now c.args.bytes.now)

pub returns-clause-put : goal.returns-clause-put
returns-clause-put c =
    let s = c.self.inside in
    rw (c.push.ensures, ← c.self.view_is) (put_into (files_of s.files.items) s.puts s.is_told c.args.name.now c.args.bytes.now)
