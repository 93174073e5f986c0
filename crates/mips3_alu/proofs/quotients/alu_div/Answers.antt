-- The machine's quotient and remainder have the registers of those of the integers.
use Rattle.std.proofs.Common.{ap, ◌∙◌, sym, rules}
use Rattle.std.specs.Prelude.{ℤ, FitsSigned}
use Rattle.std.specs.Int.{w32}
use Rattle.std.proofs.lemmas.Int.{to_z-of_z}
use Rattle.mips3_alu.specs.Arithmetic.{reduced, signed, divided, division}
use Rattle.mips3_alu.proofs.Reductions.{same_halves, by_zero, by_another, zero_32, not_zero, quotient_integer_32, remainder_integer}
use Rattle.mips3_alu.proofs.quotients.alu_div.Goals as goal

pub returns-then-divisor-eq0 : goal.returns-then-divisor-eq0
unfolding division
returns-then-divisor-eq0 c =
    let fits_x : FitsSigned w32 c.integer_of_word-dividend.result = search rules in
    let fits_y : FitsSigned w32 c.integer_of_word-divisor.result = search rules in
    same_halves _ _ _ _ (c.by_zero.ensures.hi ∙ c.register_of_word.ensures ∙ ap (reduced 32) (to_z-of_z w32 c.integer_of_word-dividend.result fits_x)) c.by_zero.ensures.lo
    ∙ sym (by_zero 32 c.integer_of_word-dividend.result c.integer_of_word-divisor.result (zero_32 c.integer_of_word-divisor.result fits_y c.if-divisor-eq0.true))
    ∙ ap (λ (x : ℤ). divided 32 x c.integer_of_word-divisor.result) c.integer_of_word-dividend.ensures
    ∙ ap (divided 32 (signed 32 c.args.a)) c.integer_of_word-divisor.ensures

pub returns : goal.returns
unfolding division
returns c =
    let fits_x : FitsSigned w32 c.integer_of_word-dividend.result = search rules in
    let fits_y : FitsSigned w32 c.integer_of_word-divisor.result = search rules in
    let fits_r : FitsSigned w32 c.wrapping_rem.result = search rules in
    let fits_q : FitsSigned w32 c.wrapping_div.result = search rules in
    same_halves _ _ _ _
    (c.register_of_word-2.ensures ∙ ap (reduced 32) (remainder_integer w32 c.integer_of_word-dividend.result c.integer_of_word-divisor.result _ fits_x fits_y fits_r c.wrapping_rem.ensures))
    (c.register_of_word-3.ensures ∙ quotient_integer_32 c.integer_of_word-dividend.result c.integer_of_word-divisor.result _ fits_x fits_y fits_q c.wrapping_div.ensures)
    ∙ sym (by_another 32 c.integer_of_word-dividend.result c.integer_of_word-divisor.result (not_zero w32 c.integer_of_word-divisor.result c.if-divisor-eq0.false))
    ∙ ap (λ (x : ℤ). divided 32 x c.integer_of_word-divisor.result) c.integer_of_word-dividend.ensures
    ∙ ap (divided 32 (signed 32 c.args.a)) c.integer_of_word-divisor.ensures
