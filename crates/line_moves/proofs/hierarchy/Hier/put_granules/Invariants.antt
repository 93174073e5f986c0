use Rattle.std.proofs.Common.{◌≡◌, ◌*◌, ◌/◌}
use Rattle.flat_ram.specs.Bytes.{bytes_at, put_bytes}
use Rattle.line_moves.specs.Lines.{line_bytes, line_size}
use Rattle.line_moves.specs.Moves as law
use Rattle.line_moves.proofs.hierarchy.Hier.put_granules.Given as goal

abbrev pub invariant-loop-part : goal.invariant-loop-part
invariant-loop-part l = record {
  ends : l.part-end ≡ line_size l.place.side l.fn.self.caches.shape / l.fn.self.caches.shape.line;
  line : l.line ≡ l.fn.self.caches.shape.line;
  caches : l.self.caches ≡ l.fn.self.caches;
  ram : l.self.ram ≡ put_bytes l.fn.self.ram l.pa (bytes_at (line_bytes (law.line_of l.place l.fn.self)) 0 (l.part * l.line));
}
