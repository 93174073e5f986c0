use Rattle.std.proofs.Common.{◌+◌, ◌*◌, sym, ap, ◌∙◌, arith}
use Rattle.r4_ports.proofs.Writing.{writes_line, writes_same}
use Rattle.image_listing.specs.Listing.{word_line}
use Rattle.image_listing.proofs.ListingLines.{word_lines_more, word_lines_end}
use Rattle.image_listing.proofs.listing.write_words.Goals as goal

pub loop-index-preserved : goal.loop-index-preserved
loop-index-preserved g c =
    writes_same _ _ _ _
    (writes_line _ _ _ _ _ _ c.write_line.ensures (c.word_line-line.ensures.text ∙ ap (word_line (c.args.address + 4 * c.loop-index.index)) c.word_at.ensures) c.loop-index.invariant)
    (sym (word_lines_more c.args.address c.args.bytes.now c.loop-index.index (omega arith)))

pub returns : goal.returns
returns g c = record { writes = writes_same _ _ _ _ c.loop-index.invariant (word_lines_end c.args.address c.args.bytes.now c.loop-index.index (omega arith) (omega arith)) }
