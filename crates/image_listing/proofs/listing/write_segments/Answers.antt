use Rattle.std.proofs.Common.{sym, arith}
use Rattle.r4_ports.proofs.Writing.{writes_nothing, writes_then, writes_same}
use Rattle.image_listing.proofs.ListingLines.{first_segments_none, first_segments_more, first_segments_all}
use Rattle.image_listing.proofs.listing.write_segments.Goals as goal

pub loop-index-init : goal.loop-index-init
loop-index-init g c = writes_same _ _ _ _ (writes_nothing _) (sym (first_segments_none c.args.image.now))

pub loop-index-preserved : goal.loop-index-preserved
loop-index-preserved g c = writes_same _ _ _ _ (writes_then _ _ _ _ _ c.write_segment.ensures.writes c.loop-index.invariant) (sym (first_segments_more c.args.image.now c.loop-index.index))

pub returns : goal.returns
returns g c = record { writes = writes_same _ _ _ _ c.loop-index.invariant (first_segments_all c.args.image.now c.loop-index.index (omega arith)) }
