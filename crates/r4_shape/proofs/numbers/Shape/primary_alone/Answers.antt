use Rattle.std.proofs.Common.{false, refl, arith}
use Rattle.std.proofs.lemmas.Bool.{false≢true}
use Rattle.r4_shape.proofs.Powers.{prim_of, line_of}
use Rattle.r4_shape.proofs.numbers.Shape.primary_alone.Goals as goal

pub invariant_of-result : goal.invariant_of-result
invariant_of-result c =
    let prim = prim_of c.args.prim c.bits_of.result c.requires.prim c.bits_of.ensures.is in
    let line = line_of c.args.line c.bits_of-2.result c.requires.line c.bits_of-2.ensures.is in
    record {
      prim_is = prim.0;
      line_least = line.0;
      line_most = line.1;
      holds = λ e. absurd (false≢true e);
      group_most = omega arith;
      size_least = λ e. absurd (false≢true e);
      size_most = omega arith;
      prim_back = prim.2;
      line_back = line.3;
      group_back = refl;
      size_back = refl;
    }

pub returns : goal.returns
returns c =
    let prim = prim_of c.args.prim c.bits_of.result c.requires.prim c.bits_of.ensures.is in
    let line = line_of c.args.line c.bits_of-2.result c.requires.line c.bits_of-2.ensures.is in
    record { is = λ i. record { sc = false; prim = prim.1 i; line = line.2 i; group = 0; size = 0 } }
