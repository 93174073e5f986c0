use Rattle.std.proofs.Common.{◌≡◌, ◌+◌, ◌-◌, ◌/◌, ◌^◌, ◌++◌}
use Rattle.arrayvec.specs.ArrayVec.{array_vec_len}
use Rattle.r4_words.specs.Texts.{hex_of}
use Rattle.r4_words.proofs.writing.put_hex.Given as goal

-- the high digits were appended
abbrev pub invariant-loop-place : goal.invariant-loop-place
invariant-loop-place l = (l.line.items ≡ l.initial.line.items ++ hex_of l.place (l.value / 16 ^ (l.digits - l.place))) × (array_vec_len l.line ≡ array_vec_len l.initial.line + l.place)
