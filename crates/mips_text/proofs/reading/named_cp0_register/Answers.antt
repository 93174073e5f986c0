use Rattle.std.proofs.Common.{◌∙◌, ap, sym, bytes_eq, below_more, arith}
use Rattle.mips_text.proofs.Naming.{cp0_here, cp0_nowhere}
use Rattle.mips_text.proofs.reading.named_cp0_register.Goals as goal

pub loop-register-preserved : goal.loop-register-preserved
loop-register-preserved c = below_more _ _ c.loop-register.invariant (ap (bytes_eq c.args.text.now) (sym c.cp0_name-name.ensures.value) ∙ sym c.reads-is_it.ensures ∙ c.if-is_it.false)

pub returns-then-is_it-clause-value : goal.returns-then-is_it-clause-value
returns-then-is_it-clause-value c = sym (cp0_here c.args.text.now c.loop-register.register c.loop-register-test.true c.loop-register.invariant (ap (bytes_eq c.args.text.now) (sym c.cp0_name-name.ensures.value) ∙ sym c.reads-is_it.ensures ∙ c.if-is_it.true))

pub returns-clause-value : goal.returns-clause-value
returns-clause-value c = sym (cp0_nowhere c.args.text.now (λ k lt. c.loop-register.invariant k (omega arith)))
