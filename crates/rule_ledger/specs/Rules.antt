-- The rules of cache discipline on a machine without a secondary cache: what an access or a CACHE operation requires of the
-- facts, and which facts it changes.
-- Source: this project's own, for the caches of the MIPS R4000 (MIPS R4000 Microprocessor User's Manual, Heinrich, 2nd edition,
-- chapter 11, and the CACHE instruction in appendix A).
use Rattle.std.specs.Prelude.{ℕ, Bool, true, false, ◌||◌, Option, Some, None, if◌then◌else◌}
use Rattle.access_trace.specs.declared.event.Breach.{Breach}
use Rattle.access_trace.specs.declared.event.Breach.TheVariants.{Forge, Peek, Old, Owed, Lost}
use Rattle.rule_ledger.specs.Facts.{Cells, Facts, no_facts, nowhere, cell, other_colours, granules, both, either, without}
use Rattle.rule_ledger.specs.Cells.{Grid, meets}

-- A row of the table of rules.
pub record Row : Type 0 where
  -- what breaks a rule: the event alone; an old copy at one of these cells of D or of I; a dirty copy at one of these cells,
  -- whose bytes are owed to memory, or are lost
  pub forge : Bool
  pub peek : Bool
  pub old : Cells
  pub iold : Cells
  pub owed : Cells
  pub lost : Cells
  -- what is so after it: these facts are true; copies at these cells of D and of I are old, where they are held; these facts are
  -- false
  pub raises : Facts
  pub ages : Cells
  pub iages : Cells
  pub drops : Facts

-- what breaks no rule and changes nothing
abbrev pub harmless : Row
harmless = record {
  forge = false;
  peek = false;
  old = nowhere;
  iold = nowhere;
  owed = nowhere;
  lost = nowhere;
  raises = no_facts;
  ages = nowhere;
  iages = nowhere;
  drops = no_facts;
}

-- ---- what a row says

-- The first rule that is broken, in the order Forge, Peek, Old, Owed, Lost; none where all are kept.
abbrev pub first_breach : Grid → Facts → Row → Option Breach
first_breach grid facts row =
    if row.forge then Some Forge
    else if row.peek then Some Peek
    else if meets grid row.old facts.old || meets grid row.iold facts.iold then Some Old
    else if meets grid row.owed facts.dirty then Some Owed
    else if meets grid row.lost facts.dirty then Some Lost
    else None

-- the facts after an event that breaks no rule
abbrev pub next : Facts → Row → Facts
next facts row = record {
  held = without row.drops.held (either row.raises.held facts.held);
  dirty = without row.drops.dirty (either row.raises.dirty facts.dirty);
  old = without row.drops.old (either (both row.ages facts.held) (either row.raises.old facts.old));
  iheld = without row.drops.iheld (either row.raises.iheld facts.iheld);
  iold = without row.drops.iold (either (both row.iages facts.iheld) (either row.raises.iold facts.iold));
}

-- the facts after an event: where it breaks a rule, nothing changes
abbrev pub after : Option Breach → Facts → Row → Facts
after None facts row = next facts row
after (Some breach) facts row = facts

-- ---- the rows

-- a load, a store and a fetch through the caches
abbrev pub cached_load : ℕ → ℕ → Row
cached_load granule colour = record harmless {
  old = cell granule colour;
  owed = other_colours granule colour;
  raises = record no_facts { held = cell granule colour };
}

abbrev pub cached_store : ℕ → ℕ → Row
cached_store granule colour = record harmless {
  old = cell granule colour;
  owed = other_colours granule colour;
  raises = record no_facts { held = cell granule colour; dirty = cell granule colour };
  ages = other_colours granule colour;
  iages = granules granule 1;
}

abbrev pub cached_fetch : ℕ → ℕ → Row
cached_fetch granule colour = record harmless {
  iold = cell granule colour;
  owed = granules granule 1;
  raises = record no_facts { iheld = cell granule colour };
}

-- A read of memory past the caches, and a write: an uncached load, fetch or store, and a beat of the disk.
abbrev pub read_past : Cells → Row
read_past cells = record harmless { owed = cells }

abbrev pub write_past : Cells → Row
write_past cells = record harmless { owed = cells; ages = cells; iages = cells }

-- Index Invalidate I, Index Store Tag I of an invalid state, Hit Invalidate I
abbrev pub invalidate_i : Cells → Row
invalidate_i cells = record harmless { drops = record no_facts { iheld = cells; iold = cells } }

-- Index Writeback Invalidate D, Hit Writeback Invalidate D
abbrev pub writeback_invalidate_d : Cells → Row
writeback_invalidate_d cells = record harmless { drops = record no_facts { held = cells; dirty = cells; old = cells } }

-- Index Store Tag D of an invalid state
abbrev pub store_tag_d : Cells → Row
store_tag_d cells = record harmless { lost = cells; drops = record no_facts { held = cells; dirty = cells; old = cells } }

-- Hit Invalidate D
abbrev pub hit_invalidate_d : Cells → Row
hit_invalidate_d cells = record harmless { lost = cells; drops = record no_facts { held = cells; old = cells } }

-- Fill I
abbrev pub fill_i : ℕ → ℕ → Row
fill_i granule colour = record harmless {
  owed = granules granule 1;
  raises = record no_facts { iheld = cell granule colour };
  drops = record no_facts { iold = cell granule colour };
}

-- Hit Writeback D
abbrev pub hit_writeback_d : Cells → Row
hit_writeback_d cells = record harmless { drops = record no_facts { dirty = cells } }

-- an operation that forges a line, and one that shows a tag
abbrev pub forges : Row
forges = record harmless { forge = true }

abbrev pub peeks : Row
peeks = record harmless { peek = true }
