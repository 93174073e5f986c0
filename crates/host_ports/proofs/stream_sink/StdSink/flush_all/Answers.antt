use Rattle.std.proofs.Common.{ℕ, take, ap, sym, subst}
use Rattle.std.specs.Io.KnownBytes.{Appends}
use Rattle.host_ports.proofs.KnownBytes.{appended_kept}
use Rattle.host_ports.proofs.stream_sink.StdSink.flush_all.Goals as goal

-- where the writer's own flush fails, it has all that waited
pub returns-clause-part : goal.returns-clause-part
returns-clause-part g c =
    subst (λ out. (count : ℕ) × Appends (g.W.Write.contents c.args.self.now.out) (g.W.Write.contents out) (take count c.args.self.now.waiting.items)) (sym (ap (λ sink. sink.out) c.fail.ensures.state))
    (appended_kept _ _ _ _ c.in_ok-write_waiting.ensures.bytes c.flush.ensures.bytes)
