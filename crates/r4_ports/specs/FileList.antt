-- The files of a list, of which the first with a name counts.
use Rattle.std.specs.Prelude.{ℕ, List, map, string_bytes, String, Vec}
use Rattle.std.specs.declared.alloc.Global.{Global}
use Rattle.std.specs.FinMap.{from_entries}
use Rattle.r4_ports.specs.Told.{Files}

-- the finite map of a list of files: a name has the bytes of the first file that bears it
abbrev pub files_of : List (String Global × Vec ℕ Global) → Files
files_of files = from_entries (map (λ file. (string_bytes file.0, file.1.items)) files)
