use Rattle.std.proofs.Common.{◌*◌, take}
use Rattle.r4_ports.specs.Writing.{Writes, stand}
use Rattle.image_listing.specs.Listing.{word_lines}
use Rattle.image_listing.proofs.listing.write_words.Given as goal

-- the lines so far were written
abbrev pub invariant-loop-index : goal.invariant-loop-index
invariant-loop-index g l = Writes (stand g.K.Sink.written g.K.Sink.faults l.initial.out l.initial.pending) (stand g.K.Sink.written g.K.Sink.faults l.out l.pending) (word_lines l.address (take (4 * l.index) l.bytes))
