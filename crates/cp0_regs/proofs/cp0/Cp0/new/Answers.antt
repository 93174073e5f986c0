use Rattle.std.proofs.Common.{arith, refl}
use Rattle.cp0_regs.proofs.Possible.{reset_possible}
use Rattle.cp0_regs.proofs.cp0.Cp0.new.Goals as goal

pub invariant_of-result : goal.invariant_of-result
invariant_of-result c = record {
  possible = reset_possible c.args.config c.ranges.config.fits;
  random = omega arith;
  page_mask = record { is = refl };
}
