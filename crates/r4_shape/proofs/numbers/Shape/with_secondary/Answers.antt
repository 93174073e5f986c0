use Rattle.std.proofs.Common.{true}
use Rattle.r4_shape.proofs.Powers.{prim_of, line_of, group_of, size_of, logarithms_in_order}
use Rattle.r4_shape.proofs.numbers.Shape.with_secondary.Goals as goal

pub invariant_of-result : goal.invariant_of-result
invariant_of-result c =
    let prim = prim_of c.args.prim c.bits_of.result c.requires.prim c.bits_of.ensures.is in
    let line = line_of c.args.line c.bits_of-2.result c.requires.line c.bits_of-2.ensures.is in
    let group = group_of c.args.group c.bits_of-3.result c.requires.group c.bits_of-3.ensures.is in
    let size = size_of c.args.size c.bits_of-4.result c.requires.size c.bits_of-4.ensures.is in
    record {
      prim_is = prim.0;
      line_least = line.0;
      line_most = line.1;
      holds = λ e. logarithms_in_order c.args.line c.args.group c.bits_of-2.result c.bits_of-3.result c.requires.line c.requires.group c.requires.holds c.bits_of-2.ensures.is c.bits_of-3.ensures.is;
      group_most = group.0;
      size_least = λ e. size.0;
      size_most = size.1;
      prim_back = prim.2;
      line_back = line.3;
      group_back = group.2;
      size_back = size.3;
    }

pub returns : goal.returns
returns c =
    let prim = prim_of c.args.prim c.bits_of.result c.requires.prim c.bits_of.ensures.is in
    let line = line_of c.args.line c.bits_of-2.result c.requires.line c.bits_of-2.ensures.is in
    let group = group_of c.args.group c.bits_of-3.result c.requires.group c.bits_of-3.ensures.is in
    let size = size_of c.args.size c.bits_of-4.result c.requires.size c.bits_of-4.ensures.is in
    record { is = λ i. record { sc = true; prim = prim.1 i; line = line.2 i; group = group.1 i; size = size.2 i } }
