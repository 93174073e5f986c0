use Rattle.std.proofs.Common.{sym}
use Rattle.r4_ports.proofs.Files.{get_files_of}
use Rattle.r4_ports.proofs.file_list.find_file.Goals as goal

pub loop-file-init : goal.loop-file-init
loop-file-init c = sym (get_files_of c.args.files.now c.args.name.now)
