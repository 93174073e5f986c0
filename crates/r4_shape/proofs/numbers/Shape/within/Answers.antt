use Rattle.std.proofs.Common.{refl, arith}
use Rattle.std.proofs.lemmas.Nat.{mod_below, pow_pos}
use Rattle.r4_shape.proofs.Powers.{masked}
use Rattle.r4_shape.proofs.numbers.Shape.within.Goals as goal

pub returns-clause-is : goal.returns-clause-is
returns-clause-is c = rw (masked c.args.va c.self.inside.prim_bits 32 (omega arith), ← c.self.view_is) refl

pub returns-clause-inside : goal.returns-clause-inside
returns-clause-inside c = rw (masked c.args.va c.self.inside.prim_bits 32 (omega arith), ← c.self.view_is) (mod_below c.args.va _ (pow_pos c.self.inside.prim_bits))
