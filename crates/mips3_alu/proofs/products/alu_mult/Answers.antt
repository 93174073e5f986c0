-- The halves of the machine's product are those of the product of the integers.
use Rattle.std.proofs.Common.{ap, ◌∙◌, rules}
use Rattle.std.specs.Prelude.{ℤ, ◌*ℤ◌, FitsSigned}
use Rattle.std.specs.Int.{w32}
use Rattle.mips3_alu.specs.Arithmetic.{halves, signed, product}
use Rattle.mips3_alu.proofs.Reductions.{product_halves_32}
use Rattle.mips3_alu.proofs.products.alu_mult.Goals as goal

pub returns : goal.returns
unfolding product
returns c =
    let fits_a : FitsSigned w32 c.integer_of_word.result = search rules in
    let fits_b : FitsSigned w32 c.integer_of_word-2.result = search rules in
    c.words_of.ensures
    ∙ product_halves_32 c.integer_of_word.result c.integer_of_word-2.result _ _ _ fits_a fits_b c.from.ensures c.from-2.ensures c.cast_unsigned.ensures
    ∙ ap (λ (x : ℤ). halves 32 (x *ℤ c.integer_of_word-2.result)) c.integer_of_word.ensures
    ∙ ap (λ (y : ℤ). halves 32 (signed 32 c.args.a *ℤ y)) c.integer_of_word-2.ensures
