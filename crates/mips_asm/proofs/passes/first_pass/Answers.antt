use Rattle.std.proofs.Common.{◌≡◌, length, sym, ap, ◌∙◌, arith}
use Rattle.std.proofs.lemmas.Grind.{common_steps}
use Rattle.mips_asm.specs.Layout.{fault_read, readings_of}
use Rattle.mips_asm.proofs.Bases.{with_first, with_none}
use Rattle.mips_asm.proofs.Laid.{IsLaidTo, laid_on, laid_fault, laid_sound}
use Rattle.mips_asm.proofs.passes.first_pass.Goals as goal

pub read_line-requires : goal.read_line-requires
read_line-requires c = omega (arith, c.loop-rest.invariant, c.split_line-split.ensures.short)

pub returns-in-Err-clause-fault : goal.returns-in-Err-clause-fault
returns-in-Err-clause-fault c =
    let split = c.split_line-split in
    let here = with_first (IsLaidTo c.args.base (readings_of c.args.source.now) c.loop-rest.number c.loop-rest.address c.loop-rest.labels) c.loop-rest.rest.now split.result.line.now split.result.rest.now split.ensures.lines c.loop-rest.invariant.0 in
    laid_fault _ _ _ _ _ _ _ c.in-Err.why here (ap (fault_read c.args.base c.loop-rest.address c.loop-rest.labels) (sym c.in-Err.ensures.reading))

pub returns-in-Err-Lacks-clause-fault : goal.returns-in-Err-Lacks-clause-fault
returns-in-Err-Lacks-clause-fault c =
    let split = c.split_line-split in
    let here = with_first (IsLaidTo c.args.base (readings_of c.args.source.now) c.loop-rest.number c.loop-rest.address c.loop-rest.labels) c.loop-rest.rest.now split.result.line.now split.result.rest.now split.ensures.lines c.loop-rest.invariant.0 in
    let stops = rw c.in-Err-Lacks.field-0-is at c.in-Err-Lacks.ensures.stops in
    rw c.in-Err-Lacks.field-0-is (laid_fault _ _ _ _ _ _ _ c.in-Err-Lacks.why here (ap (fault_read c.args.base c.loop-rest.address c.loop-rest.labels) (sym c.in-Ok.ensures.reading) ∙ stops))

pub loop-rest-preserved : goal.loop-rest-preserved
loop-rest-preserved c =
    let split = c.split_line-split in
    let laid = c.in-Ok-lay_line.ensures in
    let here = with_first (IsLaidTo c.args.base (readings_of c.args.source.now) c.loop-rest.number c.loop-rest.address c.loop-rest.labels) c.loop-rest.rest.now split.result.line.now split.result.rest.now split.ensures.lines c.loop-rest.invariant.0 in (
      laid_on _ _ _ _ _ _ _ c.in-Ok.line c.in-Ok-lay_line.next c.lay_line.new.labels here c.in-Ok.ensures.reading laid.stands laid.next laid.labels,
      omega (arith, c.loop-rest.invariant, split.ensures.shorter),
      laid.after,
      laid.near,
    )

pub returns-clause-sound : goal.returns-clause-sound
returns-clause-sound c =
    let none : length c.loop-rest.rest.now ≡ 0 = grind (arith, common_steps) in
    let here = with_none (IsLaidTo c.args.base (readings_of c.args.source.now) c.loop-rest.number c.loop-rest.address c.loop-rest.labels) c.loop-rest.rest.now none c.loop-rest.invariant.0 in
    laid_sound _ _ _ _ _ here
