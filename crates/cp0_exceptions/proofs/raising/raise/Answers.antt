use Rattle.std.proofs.Common.{subst, sym}
use Rattle.cp0_regs.specs.Fixed.{KeepsFixed}
use Rattle.cp0_exceptions.proofs.Fixed.{raised_keeps}
use Rattle.cp0_exceptions.proofs.raising.raise.Goals as goal

pub returns-clause-fixed : goal.returns-clause-fixed
returns-clause-fixed c =
    subst (KeepsFixed c.args.cp0.now) (sym c.change.ensures.raised) (raised_keeps c.args.cp0.now c.args.what.now c.args.pc c.args.slot)
