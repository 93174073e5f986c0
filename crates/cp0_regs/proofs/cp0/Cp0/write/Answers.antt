use Rattle.std.proofs.Common.{arith}
use Rattle.cp0_regs.proofs.Possible.{pair_possible}
use Rattle.cp0_regs.proofs.Fixed.{kept_by_write}
use Rattle.cp0_regs.proofs.cp0.Cp0.write.Goals as goal

pub set-requires-in-6-clause-possible : goal.set-requires-in-6-clause-possible
set-requires-in-6-clause-possible c = pair_possible 47 (omega arith)

pub returns-in_default-clause-fixed : goal.returns-in_default-clause-fixed
returns-in_default-clause-fixed c =
    kept_by_write c.args.self.now c.set.new.self c.args.number c.taken_by-taken.result c.written_bits-bits.result c.read-word.result
    c.keeps.ensures.always c.written_bits-bits.ensures.bits c.read-word.ensures.value c.set.ensures.set
