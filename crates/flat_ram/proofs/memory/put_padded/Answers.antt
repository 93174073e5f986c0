use Rattle.std.proofs.Common.{◌≡◌, ◌+◌, ◌-◌, ◌≤◌, ◌∙◌, ap, length, refl, arith}
use Rattle.flat_ram.specs.Bytes.{put_bytes, zeros_of}
use Rattle.flat_ram.proofs.Replaced.{put_twice, length_zeros_of}
use Rattle.flat_ram.proofs.memory.put_padded.Goals as goal

pub returns : goal.returns
returns c =
    let at = c.args.at in
    let bytes = c.args.bytes.now in
    let end = at + length bytes in
    let zeros = c.args.count - length bytes in
    let left : at + c.args.count - end ≡ zeros = omega arith in
    let fits : end + length (zeros_of zeros) ≤ length c.args.all.now = omega (arith, length_zeros_of zeros) in
    c.put_zeros.ensures
    ∙ ap (λ n. put_bytes c.put_bytes.new.all end (zeros_of n)) left
    ∙ ap (λ all. put_bytes all end (zeros_of zeros)) c.put_bytes.ensures
    ∙ put_twice c.args.all.now bytes (zeros_of zeros) at end refl fits
