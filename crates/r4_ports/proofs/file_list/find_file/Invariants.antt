use Rattle.std.proofs.Common.{◌≡◌, drop}
use Rattle.std.specs.FinMap.{get}
use Rattle.r4_ports.specs.FileList.{files_of}
use Rattle.r4_ports.proofs.Files.{find_file}
use Rattle.r4_ports.proofs.file_list.find_file.Given as goal

-- the rest of the list has for the name what the whole has
abbrev pub invariant-loop-file : goal.invariant-loop-file
invariant-loop-file l = find_file (drop l.file-index l.files) l.name ≡ get (files_of l.files) l.name
