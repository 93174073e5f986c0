use Rattle.std.proofs.Common.{◌∙◌, ap, ◌-◌, take, drop}
use Rattle.flat_ram.specs.Bytes as law
use Rattle.flat_ram.proofs.Numbers.{low_bytes}
use Rattle.flat_ram.proofs.memory.put_number.Goals as goal

pub returns : goal.returns
returns c =
    c.put_bytes.ensures
    ∙ ap (law.put_bytes c.args.all.now c.args.at)
    (ap (λ bytes. take (8 - (8 - c.args.count)) (drop (8 - c.args.count) bytes)) c.to_be_bytes.ensures ∙ low_bytes c.args.count c.args.number c.requires.most)
