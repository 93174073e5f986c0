use Rattle.std.proofs.Common.{◌≡◌, ◌++◌, take, drop, ap, ◌∙◌, rules}
use Rattle.std.proofs.lemmas.List.{take-append-drop}
use Rattle.r4_ports.proofs.mem_sink.MemSinkSink.write.Goals as goal

-- the prefix is what was appended of the piece
pub returns-then-is_listed-2-clause-err : goal.returns-then-is_listed-2-clause-err
returns-then-is_listed-2-clause-err c =
    let appended : c.append.new.buffer.items ≡ c.self.inside.bytes.items ++ take c.min.result c.args.piece.now = search rules in
    record {
      front = take c.min.result c.args.piece.now;
      rest = drop c.min.result c.args.piece.now;
      is_text = take-append-drop c.min.result c.args.piece.now;
      appended = appended ∙ ap (λ sink. sink.written ++ take c.min.result c.args.piece.now) c.self.view_is;
    }
