use Rattle.std.proofs.Common.{◌≡◌, ◌+◌, ◌*◌, ◌<◌, arith}
use Rattle.std.proofs.lemmas.Bool.{eqb-true}
use Rattle.std.proofs.lemmas.Nat.{one_shl}
use Rattle.ledger_table.proofs.Stamps.{new_is}
use Rattle.ledger_table.proofs.marks.Marks.new.Goals as goal

pub invariant_of-result : goal.invariant_of-result
invariant_of-result c =
    let len : c.in-Some-checked_add.len ≡ 2 * c.args.cells + c.args.rows = omega (arith, c.in-Some.ensures, c.in-Some-checked_add.ensures) in
    let small : c.min-row_bits.result < 64 = omega arith in (
      rw (c.in_ok-new.ensures, len) (new_is c.args.cells c.args.rows c.requires.some (omega arith)),
      rw (one_shl c.min-row_bits.result 64 small) (λ e. eqb-true _ _ e),
      small,
    )
