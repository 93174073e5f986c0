use Rattle.std.proofs.Common.{ap}
use Rattle.mips3_exec.specs.declared.processor.Cpu.{Cpu}
use Rattle.mips3_exec.specs.Processor.{reset_cpu}
use Rattle.flat_machine.proofs.flat_state.Flat.new.Goals as goal

pub returns-clause-runs : goal.returns-clause-runs
unfolding reset_cpu
returns-clause-runs c = ap (λ (cpu : Cpu). cpu.halt) c.new-3.ensures.reset
