-- The machine's quotient and remainder have the registers of those of the integers.
use Rattle.std.proofs.Common.{ap, ◌∙◌, sym, rules}
use Rattle.std.specs.Prelude.{ℤ, FitsSigned}
use Rattle.std.specs.Int.{w64}
use Rattle.std.proofs.lemmas.Int.{to_z-of_z}
use Rattle.mips3_alu.specs.Arithmetic.{reduced, signed, divided, division}
use Rattle.mips3_alu.proofs.Reductions.{same_halves, by_zero, by_another, zero_64, not_zero, quotient_integer_64, remainder_integer}
use Rattle.mips3_alu.proofs.quotients.alu_ddiv.Goals as goal

pub returns-then-divisor-eq0 : goal.returns-then-divisor-eq0
unfolding division
returns-then-divisor-eq0 c =
    let fits_x : FitsSigned w64 c.integer_of-dividend.result = search rules in
    let fits_y : FitsSigned w64 c.integer_of-divisor.result = search rules in
    same_halves _ _ _ _ (c.by_zero.ensures.hi ∙ c.register_of.ensures ∙ ap (reduced 64) (to_z-of_z w64 c.integer_of-dividend.result fits_x)) c.by_zero.ensures.lo
    ∙ sym (by_zero 64 c.integer_of-dividend.result c.integer_of-divisor.result (zero_64 c.integer_of-divisor.result fits_y c.if-divisor-eq0.true))
    ∙ ap (λ (x : ℤ). divided 64 x c.integer_of-divisor.result) c.integer_of-dividend.ensures
    ∙ ap (divided 64 (signed 64 c.args.a)) c.integer_of-divisor.ensures

pub returns : goal.returns
unfolding division
returns c =
    let fits_x : FitsSigned w64 c.integer_of-dividend.result = search rules in
    let fits_y : FitsSigned w64 c.integer_of-divisor.result = search rules in
    let fits_r : FitsSigned w64 c.wrapping_rem.result = search rules in
    let fits_q : FitsSigned w64 c.wrapping_div.result = search rules in
    same_halves _ _ _ _
    (c.register_of-2.ensures ∙ ap (reduced 64) (remainder_integer w64 c.integer_of-dividend.result c.integer_of-divisor.result _ fits_x fits_y fits_r c.wrapping_rem.ensures))
    (c.register_of-3.ensures ∙ quotient_integer_64 c.integer_of-dividend.result c.integer_of-divisor.result _ fits_x fits_y fits_q c.wrapping_div.ensures)
    ∙ sym (by_another 64 c.integer_of-dividend.result c.integer_of-divisor.result (not_zero w64 c.integer_of-divisor.result c.if-divisor-eq0.false))
    ∙ ap (λ (x : ℤ). divided 64 x c.integer_of-divisor.result) c.integer_of-dividend.ensures
    ∙ ap (divided 64 (signed 64 c.args.a)) c.integer_of-divisor.ensures
