-- What holds of every row of the table, by a test of each.
use Rattle.std.proofs.Common.{◌≡◌, ℕ, zero, suc, ◌<◌, Bool, true, IsTrue, List, [], ◌∷◌, length, slice_index_or, refl, arith}
use Rattle.std.specs.List.{list_all}
use Rattle.std.proofs.lemmas.Bool.{and_parts}
use Rattle.mips3_table.specs.declared.instruction.Inst.{Inst}
use Rattle.mips3_table.specs.declared.operand_forms.Form.{Form}
use Rattle.mips3_table.specs.declared.operations.Operation.{Operation}
use Rattle.mips3_table.specs.Rows.{Row, rows, row_at, no_row}
use Rattle.mips3_table.specs.Instructions.{IsInst}
use Rattle.mips3_table.proofs.Apart.{rows_count}
use Rattle.mips3_table.proofs.InRange.{rs_below, rt_below, rd_below, sa_below}
use Rattle.mips3_exec.specs.Ranges.{HasFields, shifts_within}

-- a row of a list passes the test that all of them pass
passes_at : (test : Row → Bool) (at : ℕ) (rows : List Row) → list_all test rows ≡ true → at < length rows → test (slice_index_or rows at no_row) ≡ true
passes_at test at [] all within = absurd (omega arith)
passes_at test zero (row ∷ rest) all within = (and_parts (test row) (list_all test rest) all).0
passes_at test (suc at) (row ∷ rest) all within = passes_at test at rest (and_parts (test row) (list_all test rest) all).1 (omega arith)

all_within : list_all (λ row. shifts_within row.operation) rows ≡ true
unfolding rows
all_within = refl

pub within_by : (number : ℕ) (operation : Operation) → number < 129 → operation ≡ (row_at number).operation → IsTrue (shifts_within operation)
unfolding row_at
within_by number operation is_row is =
    let within : number < length rows = rw rows_count is_row in
    rw is (passes_at (λ row. shifts_within row.operation) number rows all_within within)

pub fields_by : (form : Form) (inst : Inst) → IsInst inst → form ≡ (row_at inst.row).form → HasFields form inst
fields_by form inst is_inst is =
    rw is (record {
      rs = rs_below inst is_inst;
      rt = rt_below inst is_inst;
      rd = rd_below inst is_inst;
      sa = sa_below inst is_inst;
      imm = is_inst.fields.imm;
    })

-- what the table says of the row of an instruction: its shifts lie within a register, and it has the fields of its form
pub ruleset row_facts = (within_by, fields_by)
