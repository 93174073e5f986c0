use Rattle.std.proofs.Common.{◌≡◌, ◌<◌, ◌+◌, ◌*◌, ◌/◌, ◌%◌, ◌^◌, ℕ, false}
use Rattle.rule_ledger.specs.Marks.{facts_of}
use Rattle.rule_ledger.specs.Steps.{Reads}
use Rattle.rule_ledger.proofs.tables.Tables.is_dirty_at.Given as goal

abbrev pub invariant-loop-page : goal.invariant-loop-page
invariant-loop-page l = record {
  reads : Reads l.fn.self l.self;
  clean : (p : ℕ) → p < l.page → (facts_of l.fn.self).dirty (p * 2 ^ l.page_bits + l.within) l.colour ≡ false;
  colour : l.colour ≡ l.index / 2 ^ l.page_bits;
  within : l.within ≡ l.index % 2 ^ l.page_bits;
}
