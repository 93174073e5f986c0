-- A mark by its flags, and the facts after a mark was replaced.
-- Source: this project's own.
use Rattle.std.specs.Prelude.{ℕ}
use Rattle.rule_ledger.specs.declared.marks.DataMark.{DataMark}
use Rattle.rule_ledger.specs.declared.marks.InstructionMark.{InstructionMark}
use Rattle.rule_ledger.specs.Facts.{Cells, Facts, cell, put, both, either, without}
use Rattle.rule_ledger.specs.Marks.{has_held, has_dirty, has_old, has_iheld, has_iold}

-- what the flags of a mark say
abbrev pub data_mark : ℕ → DataMark
data_mark bits = record { held = has_held bits; dirty = has_dirty bits; old = has_old bits }

abbrev pub instruction_mark : ℕ → InstructionMark
instruction_mark bits = record { held = has_iheld bits; old = has_iold bits }

-- what the facts say of a cell
abbrev pub data_at : Facts → ℕ → ℕ → DataMark
data_at facts g c = record { held = facts.held g c; dirty = facts.dirty g c; old = facts.old g c }

abbrev pub instruction_at : Facts → ℕ → ℕ → InstructionMark
instruction_at facts g c = record { held = facts.iheld g c; old = facts.iold g c }

-- the facts with these for a cell
abbrev pub with_data : ℕ → ℕ → DataMark → Facts → Facts
with_data g c mark facts = record facts {
  held = put (cell g c) mark.held facts.held;
  dirty = put (cell g c) mark.dirty facts.dirty;
  old = put (cell g c) mark.old facts.old;
}

abbrev pub with_instruction : ℕ → ℕ → InstructionMark → Facts → Facts
with_instruction g c mark facts = record facts {
  iheld = put (cell g c) mark.held facts.iheld;
  iold = put (cell g c) mark.old facts.iold;
}

-- copies at a set of cells are old, where they are held
abbrev pub aged : Cells → Facts → Facts
aged set facts = record facts { old = either (both set facts.held) facts.old }

abbrev pub instructions_aged : Cells → Facts → Facts
instructions_aged set facts = record facts { iold = either (both set facts.iheld) facts.iold }

abbrev pub all_aged : Cells → Facts → Facts
all_aged set facts = instructions_aged set (aged set facts)

-- there are no copies at a set of cells
abbrev pub data_cleared : Cells → Facts → Facts
data_cleared set facts = record facts { held = without set facts.held; dirty = without set facts.dirty; old = without set facts.old }

abbrev pub instructions_cleared : Cells → Facts → Facts
instructions_cleared set facts = record facts { iheld = without set facts.iheld; iold = without set facts.iold }
