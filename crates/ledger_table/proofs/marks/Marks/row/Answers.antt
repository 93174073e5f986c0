use Rattle.std.proofs.Common.{refl, arith}
use Rattle.std.proofs.lemmas.Nat.{one_shl, and_mask}
use Rattle.ledger_table.proofs.marks.Marks.row.Goals as goal

pub returns-then-self-clause-row : goal.returns-then-self-clause-row
returns-then-self-clause-row c =
    let power = c.self.invariant.1 c.if-self.true in
    rw (one_shl c.self.inside.row_bits 64 (omega arith), and_mask c.args.cell c.self.inside.row_bits, power, ← c.self.view_is) refl
