use Rattle.std.proofs.Common.{◌≡◌, ◌+◌, ◌*◌, ◌++◌, take}
use Rattle.arrayvec.specs.ArrayVec.{array_vec_len}
use Rattle.run_report.specs.Report.{digits_of_bytes}
use Rattle.run_report.proofs.lines.put_bytes.Given as goal

abbrev pub invariant-loop-byte : goal.invariant-loop-byte
invariant-loop-byte l = (l.line.items ≡ l.initial.line.items ++ digits_of_bytes (take l.byte-index l.bytes)) × (array_vec_len l.line ≡ array_vec_len l.initial.line + 2 * l.byte-index)
