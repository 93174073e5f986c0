use Rattle.std.proofs.Common.{◌≡◌, ◌-◌, ◌^◌, refl}
use Rattle.r4_shape.specs.Config.{block_field}
use Rattle.r4_shape.proofs.Powers.{by_group}
use Rattle.r4_shape.proofs.numbers.block_field.Goals as goal

pub returns : goal.returns
returns c = record { field = by_group (λ bits. bits - 4 ≡ block_field (2 ^ bits)) c.args.bits c.requires.least c.requires.most refl refl refl refl }
