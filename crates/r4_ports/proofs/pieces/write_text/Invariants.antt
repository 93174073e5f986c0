use Rattle.std.proofs.Common.{◌≡◌, ℕ, List, ◌++◌}
use Rattle.r4_ports.specs.Writing.{Writes, stand}
use Rattle.r4_ports.proofs.pieces.write_text.Given as goal

-- what was cut off the text so far was written
abbrev pub invariant-loop-piece : goal.invariant-loop-piece
invariant-loop-piece g l =
    (l.piece-iterator.size ≡ 128)
    × ((done : List ℕ) × (done ++ l.piece-iterator.rest.now ≡ l.text)
    × Writes (stand g.K.Sink.written g.K.Sink.faults l.initial.out l.initial.pending) (stand g.K.Sink.written g.K.Sink.faults l.out l.pending) done)
