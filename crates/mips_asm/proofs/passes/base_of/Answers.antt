use Rattle.std.proofs.Common.{◌≡◌, length, sym, ◌∙◌, arith}
use Rattle.std.proofs.lemmas.Grind.{common_steps}
use Rattle.mips_asm.specs.Layout.{base_of, readings_of}
use Rattle.mips_asm.proofs.Bases.{base_of_more, base_of_end}
use Rattle.mips_asm.proofs.passes.base_of.Goals as goal

pub returns-in-Some : goal.returns-in-Some
returns-in-Some c =
    let split = c.split_line-split in
    c.in-Some.ensures (base_of (readings_of split.result.rest.now))
    ∙ sym (base_of_more c.loop-rest.rest.now split.result.line.now split.result.rest.now split.ensures.lines)
    ∙ c.loop-rest.invariant.0

pub loop-rest-preserved : goal.loop-rest-preserved
loop-rest-preserved c =
    let split = c.split_line-split in (
      c.in_default.ensures (base_of (readings_of split.result.rest.now))
          ∙ sym (base_of_more c.loop-rest.rest.now split.result.line.now split.result.rest.now split.ensures.lines)
          ∙ c.loop-rest.invariant.0,
      omega (arith, c.loop-rest.invariant, split.ensures.shorter),
    )

pub returns : goal.returns
returns c =
    let none : length c.loop-rest.rest.now ≡ 0 = grind (arith, common_steps) in
    sym (base_of_end c.loop-rest.rest.now none) ∙ c.loop-rest.invariant.0
