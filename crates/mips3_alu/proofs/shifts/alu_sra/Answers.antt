-- The machine's shift of the integer is its quotient, rounded down.
use Rattle.std.proofs.Common.{◌^◌, ap, ◌∙◌, rules}
use Rattle.std.specs.Prelude.{ℤ, FitsSigned}
use Rattle.std.specs.Int.{w32}
use Rattle.mips3_alu.specs.Arithmetic.{reduced, floor_quotient, shifted_right_arithmetic}
use Rattle.mips3_alu.proofs.Reductions.{shifted_integer}
use Rattle.mips3_alu.proofs.shifts.alu_sra.Goals as goal

pub returns : goal.returns
unfolding shifted_right_arithmetic
returns c =
    let fits : FitsSigned w32 c.integer_of_word.result = search rules in
    c.register_of_word.ensures
    ∙ ap (reduced 32) (shifted_integer w32 c.integer_of_word.result (2 ^ c.args.amount) fits)
    ∙ ap (λ (z : ℤ). reduced 32 (floor_quotient z (2 ^ c.args.amount))) c.integer_of_word.ensures
