use Rattle.std.proofs.Common.{◌≡◌, ◌<◌, ◌^◌}
use Rattle.flat_ram.specs.Bytes as law
use Rattle.flat_ram.proofs.big_endian.number_by_bytes.Given as goal

-- the bytes so far make the number, and it fits in them
abbrev pub invariant-loop-place : goal.invariant-loop-place
invariant-loop-place l = (l.number ≡ law.number_at l.bytes l.at l.place) × (l.number < 256 ^ l.place)
