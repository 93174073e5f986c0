use Rattle.std.proofs.Common.{◌≡◌, ◌+◌, length, subst, arith}
use Rattle.std.proofs.lemmas.Grind.{common_steps}
use Rattle.mips_text.specs.Line.{read_line}
use Rattle.mips_text.specs.Coded.{Lacking}
use Rattle.mips_asm.specs.Layout.{placed_at, readings_of}
use Rattle.mips_asm.specs.Assembly.{coded_line}
use Rattle.mips_asm.specs.Shown.{IsAppended}
use Rattle.mips_asm.proofs.Bases.{with_first, with_none}
use Rattle.mips_asm.proofs.Filled.{IsFilledTo, filled_on, filled_fault, filled_sound}
use Rattle.mips_asm.proofs.passes.fill.Goals as goal

pub fill_line-requires : goal.fill_line-requires
fill_line-requires c = omega (arith, c.loop-rest.invariant, c.split_line-split.ensures.short)

pub returns-in-Err-Lacks-clause-fault : goal.returns-in-Err-Lacks-clause-fault
returns-in-Err-Lacks-clause-fault c =
    let split = c.split_line-split in
    let here = with_first (IsFilledTo c.args.base c.args.labels.now (readings_of c.args.source.now) c.loop-rest.number c.loop-rest.bytes.items) c.loop-rest.rest.now split.result.line.now split.result.rest.now split.ensures.lines c.loop-rest.invariant.0 in
    let at : c.from.result + c.len.result ≡ c.args.base + length c.loop-rest.bytes.items = omega (arith, c.from.ensures, c.len.ensures) in
    let lacks = rw c.in-Err-Lacks.field-0-is at c.in-Err-Lacks.ensures.bytes in
    rw c.in-Err-Lacks.field-0-is
    (filled_fault _ _ _ _ _ _ _ c.in-Err-Lacks.why here (subst (λ address. coded_line c.args.labels.now (placed_at address (read_line split.result.line.now)) ≡ Lacking c.in-Err-Lacks.why) at lacks))

pub loop-rest-preserved : goal.loop-rest-preserved
loop-rest-preserved c =
    let split = c.split_line-split in
    let here = with_first (IsFilledTo c.args.base c.args.labels.now (readings_of c.args.source.now) c.loop-rest.number c.loop-rest.bytes.items) c.loop-rest.rest.now split.result.line.now split.result.rest.now split.ensures.lines c.loop-rest.invariant.0 in
    let at : c.from.result + c.len.result ≡ c.args.base + length c.loop-rest.bytes.items = omega (arith, c.from.ensures, c.len.ensures) in (
      filled_on _ _ _ _ _ _ _ c.fill_line.new.bytes.items here
          (subst (λ address. IsAppended (coded_line c.args.labels.now (placed_at address (read_line split.result.line.now))) c.loop-rest.bytes.items c.fill_line.new.bytes.items) at c.in-Ok.ensures.bytes),
      omega (arith, c.loop-rest.invariant, split.ensures.shorter),
    )

pub returns-clause-sound : goal.returns-clause-sound
returns-clause-sound c =
    let none : length c.loop-rest.rest.now ≡ 0 = grind (arith, common_steps) in
    let here = with_none (IsFilledTo c.args.base c.args.labels.now (readings_of c.args.source.now) c.loop-rest.number c.loop-rest.bytes.items) c.loop-rest.rest.now none c.loop-rest.invariant.0 in
    filled_sound _ _ _ _ _ here
