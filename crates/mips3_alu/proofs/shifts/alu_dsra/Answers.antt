-- The machine's shift of the integer is its quotient, rounded down.
use Rattle.std.proofs.Common.{◌^◌, ap, ◌∙◌, rules}
use Rattle.std.specs.Prelude.{ℤ, FitsSigned}
use Rattle.std.specs.Int.{w64}
use Rattle.mips3_alu.specs.Arithmetic.{reduced, floor_quotient, shifted_right_arithmetic}
use Rattle.mips3_alu.proofs.Reductions.{shifted_integer}
use Rattle.mips3_alu.proofs.shifts.alu_dsra.Goals as goal

pub returns : goal.returns
unfolding shifted_right_arithmetic
returns c =
    let fits : FitsSigned w64 c.integer_of.result = search rules in
    c.register_of.ensures
    ∙ ap (reduced 64) (shifted_integer w64 c.integer_of.result (2 ^ c.args.amount) fits)
    ∙ ap (λ (z : ℤ). reduced 64 (floor_quotient z (2 ^ c.args.amount))) c.integer_of.ensures
