-- The rows that the further statements stand for are in the table, and where they stand there.
use Rattle.std.proofs.Common.{◌≡◌, ◌<◌, ◌^◌, ℕ, IsSome, codes, refl, sym, subst, arith}
use Rattle.mips3_table.specs.Instructions.{IsInst}
use Rattle.mips3_table.specs.Matching.{row_named}
use Rattle.mips3_table.specs.Rows.{rows, row_at}
use Rattle.mips_text.specs.Line.{bare, beq_row, ori_row, lui_row, or_row}

pub has_beq : IsSome (row_named (codes "beq"))
unfolding row_named rows
has_beq = refl

pub has_ori : IsSome (row_named (codes "ori"))
unfolding row_named rows
has_ori = refl

pub has_lui : IsSome (row_named (codes "lui"))
unfolding row_named rows
has_lui = refl

pub has_or : IsSome (row_named (codes "or"))
unfolding row_named rows
has_or = refl

pub beq_is : beq_row ≡ 2
unfolding beq_row row_named rows
beq_is = refl

ori_is : ori_row ≡ 17
unfolding ori_row row_named rows
ori_is = refl

lui_is : lui_row ≡ 19
unfolding lui_row row_named rows
lui_is = refl

pub or_is : or_row ≡ 91
unfolding or_row row_named rows
or_is = refl

-- so the instructions that load a register are instructions of the table
inst_at_lui : (register number : ℕ) → register < 32 → number < 2 ^ 16 → IsInst (record (bare 19) { rt = register; imm = number })
unfolding row_at rows
inst_at_lui register number small fits = record { row = omega arith; fields = record { rs = omega arith; rt = small; rd = omega arith; sa = omega arith; imm = fits } }

inst_at_ori : (source target number : ℕ) → source < 32 → target < 32 → number < 2 ^ 16 → IsInst (record (bare 17) { rs = source; rt = target; imm = number })
unfolding row_at rows
inst_at_ori source target number first second fits = record { row = omega arith; fields = record { rs = first; rt = second; rd = omega arith; sa = omega arith; imm = fits } }

pub lui_inst : (register number : ℕ) → register < 32 → number < 2 ^ 16 → IsInst (record (bare lui_row) { rt = register; imm = number })
lui_inst register number small fits = subst (λ row. IsInst (record (bare row) { rt = register; imm = number })) (sym lui_is) (inst_at_lui register number small fits)

pub ori_inst : (source target number : ℕ) → source < 32 → target < 32 → number < 2 ^ 16 → IsInst (record (bare ori_row) { rs = source; rt = target; imm = number })
ori_inst source target number first second fits = subst (λ row. IsInst (record (bare row) { rs = source; rt = target; imm = number })) (sym ori_is) (inst_at_ori source target number first second fits)
