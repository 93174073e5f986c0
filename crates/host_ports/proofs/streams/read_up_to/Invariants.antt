use Rattle.std.proofs.Common.{◌≤◌, ◌-◌, length}
use Rattle.std.specs.Io.KnownBytes.{Consumes}
use Rattle.host_ports.proofs.streams.read_up_to.Given as goal

-- the bytes so far were consumed
abbrev pub invariant-loop-buffer : goal.invariant-loop-buffer
invariant-loop-buffer g l = (length l.bytes.items ≤ l.cap) × Consumes (g.I.Read.remaining l.initial.input) (g.I.Read.remaining l.input) l.bytes.items

-- how many more are wanted
abbrev pub decreases-loop-buffer : goal.decreases-loop-buffer
decreases-loop-buffer g l = l.cap - length l.bytes.items
