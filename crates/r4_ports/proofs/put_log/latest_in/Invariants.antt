use Rattle.std.proofs.Common.{◌≡◌, drop, length, map}
use Rattle.std.specs.Option.{option_copied}
use Rattle.r4_ports.specs.PutLog.{latest, put_at, AllPutsWithin}
use Rattle.r4_ports.proofs.put_log.latest_in.Given as goal

-- with the puts that are left, the name has in the end what it has with all
abbrev pub invariant-loop-put : goal.invariant-loop-put
invariant-loop-put l =
    AllPutsWithin (length l.buffer) (drop l.put-index l.records)
    × (latest (option_copied l.found) (map (put_at l.buffer) (drop l.put-index l.records)) l.name ≡ latest (option_copied l.initial.found) (map (put_at l.buffer) l.records) l.name)
