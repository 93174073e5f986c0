use Rattle.host_ports.proofs.KnownBytes.{appended_more}
use Rattle.host_ports.proofs.streams.write_whole.Goals as goal

-- the bytes that one write took stand behind those before
pub loop-at-preserved : goal.loop-at-preserved
loop-at-preserved g c =
    appended_more _ _ _ c.args.bytes.now c.loop-at.at c.in-Ok.count c.loop-at.invariant.0 c.in-Ok.ensures.bound c.loop-at.invariant.1 c.in-Ok.ensures.bytes
