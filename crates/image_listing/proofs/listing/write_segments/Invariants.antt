use Rattle.r4_ports.specs.Writing.{Writes, stand}
use Rattle.image_listing.proofs.ListingLines.{first_segments}
use Rattle.image_listing.proofs.listing.write_segments.Given as goal

-- the segments so far were written
abbrev pub invariant-loop-index : goal.invariant-loop-index
invariant-loop-index g l = Writes (stand g.K.Sink.written g.K.Sink.faults l.initial.out l.initial.pending) (stand g.K.Sink.written g.K.Sink.faults l.out l.pending) (first_segments l.image l.index)
