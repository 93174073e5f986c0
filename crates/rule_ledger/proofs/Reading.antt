-- What a ledger keeps where marks are read, set and cleared, and where a step is counted.
use Rattle.std.proofs.Common.{◌≡◌, ℕ, ◌+◌, ◌*◌, ◌%◌, ◌<◌, ◌≤◌, false, cond, eqb, ltb, refl, ap, ap₂, ◌∙◌, arith, inl, inr}
use Rattle.std.proofs.lemmas.Bool.{cases_eq, eq-eqb, ne_eqb, le-ltb, and_right}
use Rattle.ledger_table.specs.Table.{Table, mark_of, row_stamp}
use Rattle.ledger_table.proofs.Stamps.{marks_kept, stamps_kept}
use Rattle.r4_shape.specs.Numbers.{Numbers}
use Rattle.rule_ledger.specs.declared.marks.DataMark.{DataMark}
use Rattle.rule_ledger.specs.declared.marks.InstructionMark.{InstructionMark}
use Rattle.rule_ledger.specs.Facts.{Cells, Facts, at_index}
use Rattle.rule_ledger.specs.Cells.{grid_of, meets}
use Rattle.rule_ledger.specs.Kept.{IsTableOf, IsCounted}
use Rattle.rule_ledger.specs.Marks.{Ledger, facts_of, said_by, place_of}
use Rattle.rule_ledger.specs.MarkFlags.{data_mark, instruction_mark, data_at, instruction_at, with_data, with_instruction, data_cleared, instructions_cleared}
use Rattle.rule_ledger.specs.Steps.{Reads}
use Rattle.rule_ledger.proofs.Placing.{IsGrid}
use Rattle.rule_ledger.proofs.Replacing.{data_at_is, instruction_at_is, with_data_is, with_instruction_is, data_cleared_is, instructions_cleared_is}

-- ---- a table

-- so many touches
abbrev pub with_touches : ℕ → Table → Table
with_touches touches t = record t { counted = record t.counted { touches = touches } }

pub table_read : (shape : Numbers) (t : Table) (touches : ℕ) → IsTableOf shape t → IsTableOf shape (with_touches touches t)
table_read shape t touches is = record { rows = is.rows; cells = is.cells }

pub counted_read : (steps : ℕ) (t : Table) (touches : ℕ) → IsCounted steps t → IsCounted steps (with_touches touches t)
counted_read steps t touches is = record { stamps = λ row. rw (ap (λ (f : ℕ → ℕ). f row) (stamps_kept t touches)) (is.stamps row) }

pub table_kept : (shape : Numbers) (t u : Table) → u.rows ≡ t.rows → u.cells ≡ t.cells → IsTableOf shape t → IsTableOf shape u
table_kept shape t u rows cells is = record { rows = rows ∙ is.rows; cells = cells ∙ is.cells }

pub counted_kept : (steps : ℕ) (t u : Table) → ((row : ℕ) → row_stamp u row ≡ row_stamp t row) → IsCounted steps t → IsCounted steps u
counted_kept steps t u same is = record { stamps = λ row. rw (same row) (is.stamps row) }

pub counted_more : (steps : ℕ) (t : Table) → IsCounted steps t → IsCounted (steps + 1) t
counted_more steps t is = record { stamps = λ row. let low = is.stamps row in omega arith }

-- a row that was cleared less often than there were steps is cleared
pub counted_cleared : (steps : ℕ) (t u : Table) (row : ℕ) → row_stamp t row < steps
    → ((other : ℕ) → row_stamp u other ≡ cond (eqb other row) (row_stamp t row + 1) (row_stamp t other)) → IsCounted steps t → IsCounted steps u
counted_cleared steps t u row room raised is = record {
  stamps = λ other. elim (cases_eq other row) [
    | inl e ↦ (let one : row_stamp u other ≡ row_stamp t row + 1 = raised other ∙ ap (λ b. cond b (row_stamp t row + 1) (row_stamp t other)) (eq-eqb other row e) in omega arith)
    | inr n ↦ (let low = is.stamps other in
        let one : row_stamp u other ≡ row_stamp t other = raised other ∙ ap (λ b. cond b (row_stamp t row + 1) (row_stamp t other)) (ne_eqb other row n) in omega arith)
  ];
}

-- ---- facts

module _ (v : Ledger) where
  pub facts_data_read : (touches : ℕ) → facts_of (record v { data_table = with_touches touches v.data_table }) ≡ facts_of v
  unfolding facts_of
  facts_data_read touches = ap (λ (d : ℕ → ℕ). said_by (grid_of v.shape) d (mark_of v.instruction_table)) (marks_kept v.data_table touches)

  pub facts_instructions_read : (touches : ℕ) → facts_of (record v { instruction_table = with_touches touches v.instruction_table }) ≡ facts_of v
  unfolding facts_of
  facts_instructions_read touches = ap (λ (i : ℕ → ℕ). said_by (grid_of v.shape) (mark_of v.data_table) i) (marks_kept v.instruction_table touches)

  pub facts_counted : (steps : ℕ) → facts_of (record v { steps = steps }) ≡ facts_of v
  unfolding facts_of
  facts_counted steps = refl

  module _ (grid : IsGrid (grid_of v.shape)) (g c : ℕ) (gl : g < (grid_of v.shape).whole) (cl : c < (grid_of v.shape).colours) where
    pub data_read : data_mark (mark_of v.data_table (place_of (grid_of v.shape) g c)) ≡ data_at (facts_of v) g c
    unfolding facts_of
    data_read = data_at_is (grid_of v.shape) grid (mark_of v.data_table) (mark_of v.instruction_table) g c gl cl

    pub instruction_read : instruction_mark (mark_of v.instruction_table (place_of (grid_of v.shape) g c)) ≡ instruction_at (facts_of v) g c
    unfolding facts_of
    instruction_read = instruction_at_is (grid_of v.shape) grid (mark_of v.data_table) (mark_of v.instruction_table) g c gl cl

    pub data_put : (u : Table) (x : ℕ) (mark : DataMark)
        → ((k : ℕ) → k < (grid_of v.shape).whole * (grid_of v.shape).colours → mark_of u k ≡ cond (eqb k (place_of (grid_of v.shape) g c)) x (mark_of v.data_table k)) → data_mark x ≡ mark
        → facts_of (record v { data_table = u }) ≡ with_data g c mark (facts_of v)
    unfolding facts_of
    data_put u x mark replaced e = with_data_is (grid_of v.shape) grid (mark_of v.data_table) (mark_of v.instruction_table) g c x mark (mark_of u) gl cl replaced e

    pub instruction_put : (u : Table) (x : ℕ) (mark : InstructionMark)
        → ((k : ℕ) → k < (grid_of v.shape).whole * (grid_of v.shape).colours → mark_of u k ≡ cond (eqb k (place_of (grid_of v.shape) g c)) x (mark_of v.instruction_table k)) → instruction_mark x ≡ mark
        → facts_of (record v { instruction_table = u }) ≡ with_instruction g c mark (facts_of v)
    unfolding facts_of
    instruction_put u x mark replaced e = with_instruction_is (grid_of v.shape) grid (mark_of v.data_table) (mark_of v.instruction_table) g c x mark (mark_of u) gl cl replaced e

  module _ (grid : IsGrid (grid_of v.shape)) (row : ℕ) (u : Table) where
    pub data_flushed : ((k : ℕ) → k < (grid_of v.shape).whole * (grid_of v.shape).colours → mark_of u k ≡ cond (eqb (k % ((grid_of v.shape).page * (grid_of v.shape).colours)) row) 0 (mark_of v.data_table k))
        → facts_of (record v { data_table = u }) ≡ data_cleared (at_index (grid_of v.shape).page row) (facts_of v)
    unfolding facts_of
    data_flushed cleared = data_cleared_is (grid_of v.shape) grid (mark_of v.data_table) (mark_of v.instruction_table) row (mark_of u) cleared

    pub instructions_flushed : ((k : ℕ) → k < (grid_of v.shape).whole * (grid_of v.shape).colours → mark_of u k ≡ cond (eqb (k % ((grid_of v.shape).page * (grid_of v.shape).colours)) row) 0 (mark_of v.instruction_table k))
        → facts_of (record v { instruction_table = u }) ≡ instructions_cleared (at_index (grid_of v.shape).page row) (facts_of v)
    unfolding facts_of
    instructions_flushed cleared = instructions_cleared_is (grid_of v.shape) grid (mark_of v.data_table) (mark_of v.instruction_table) row (mark_of u) cleared

-- no copy is held at a colour that the caches have not
pub held_past : (v : Ledger) (g c : ℕ) → (grid_of v.shape).colours ≤ c → (facts_of v).held g c ≡ false
unfolding facts_of
held_past v g c far = rw (le-ltb c (grid_of v.shape).colours far, and_right (ltb g (grid_of v.shape).whole) false refl) refl

pub iheld_past : (v : Ledger) (g c : ℕ) → (grid_of v.shape).colours ≤ c → (facts_of v).iheld g c ≡ false
unfolding facts_of
iheld_past v g c far = rw (le-ltb c (grid_of v.shape).colours far, and_right (ltb g (grid_of v.shape).whole) false refl) refl

-- ---- readings, one after the other

pub reads_nothing : (v : Ledger) → Reads v v
reads_nothing v = record { facts = refl; shape = refl; steps = refl }

pub reads_then : (u v w : Ledger) → Reads u v → Reads v w → Reads u w
reads_then u v w a b = record { facts = b.facts ∙ a.facts; shape = b.shape ∙ a.shape; steps = b.steps ∙ a.steps }

pub meets_read : (u v : Ledger) → Reads u v → (set : Cells) → meets (grid_of v.shape) set (facts_of v).dirty ≡ meets (grid_of u.shape) set (facts_of u).dirty
meets_read u v is set = ap₂ (λ (s : Numbers) (k : Facts). meets (grid_of s) set k.dirty) is.shape is.facts
