-- What is known of every effect is known of the one of the row's operation.
use Rattle.mips3_exec.proofs.EffectFacts.{registers_of, system_of, raised_of, access_of, few_of, aligned_of}
use Rattle.mips3_exec.proofs.TableFacts.{fields_by}
use Rattle.mips3_exec.proofs.executing.effect.Goals as goal

pub returns-clause-registers : goal.returns-clause-registers
returns-clause-registers c =
    rw c.carried_out.ensures (registers_of _ c.args.inst.now c.args.regs.now c.args.pc _ (fields_by _ c.args.inst.now c.requires c.record_of-row.ensures.form))

pub returns-clause-system : goal.returns-clause-system
returns-clause-system c =
    rw (c.carried_out.ensures, ← c.record_of-row.ensures.operation) (system_of _ c.args.inst.now c.args.regs.now c.args.pc _)

pub returns-clause-raised : goal.returns-clause-raised
returns-clause-raised c = rw c.carried_out.ensures (raised_of _ c.args.inst.now c.args.regs.now c.args.pc _)

pub returns-clause-access : goal.returns-clause-access
returns-clause-access c =
    rw (c.carried_out.ensures, ← c.record_of-row.ensures.operation) (access_of _ c.args.inst.now c.args.regs.now c.args.pc _)

pub returns-clause-few : goal.returns-clause-few
returns-clause-few c =
    rw (c.carried_out.ensures, ← c.record_of-row.ensures.operation) (few_of _ c.args.inst.now c.args.regs.now c.args.pc _)

pub returns-clause-aligned : goal.returns-clause-aligned
returns-clause-aligned c =
    rw (c.carried_out.ensures, ← c.record_of-row.ensures.operation) (aligned_of _ c.args.inst.now c.args.regs.now c.args.pc _)
