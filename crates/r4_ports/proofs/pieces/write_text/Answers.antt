use Rattle.std.proofs.Common.{rules, [], ◌++◌, ap, sym, ◌∙◌, append_assoc}
use Rattle.r4_ports.specs.Writing.{stand}
use Rattle.r4_ports.proofs.Writing.{writes_nothing, writes_then}
use Rattle.r4_ports.proofs.pieces.write_text.Goals as goal

-- one piece more was cut off the text, and written
pub loop-piece-preserved : goal.loop-piece-preserved
loop-piece-preserved g c =
    let cut = c.in-Some.ensures.steps in
    let before = c.loop-piece.invariant in
    let piece = c.in-Some.piece.now in
    let stand_of = stand g.K.Sink.written g.K.Sink.faults in (
      cut.0 ∙ before.0,
      (
        before.1.0 ++ piece,
        append_assoc before.1.0 piece c.next.new.self.rest.now ∙ ap (λ rest. before.1.0 ++ rest) (sym cut.1.0) ∙ before.1.1,
        writes_then (stand_of c.args.out.now c.args.pending.now) (stand_of c.loop-piece.out c.loop-piece.pending) (stand_of c.write_piece.new.out c.write_piece.new.pending) before.1.0 piece c.write_piece.ensures before.1.2,
      ),
    )

pub loop-piece-init : goal.loop-piece-init
loop-piece-init g c = (search rules, ([], search rules, writes_nothing (stand g.K.Sink.written g.K.Sink.faults c.args.out.now c.args.pending.now)))
