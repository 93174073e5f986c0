-- What holds of the facts after any event of a trace.
use Rattle.std.proofs.Common.{◌≡◌, ℕ, ◌<◌, Bool, true, false, refl, arith, inl, inr, ltb, Option, Some, None}
use Rattle.std.proofs.lemmas.Bool.{cases_Bool, ltb-true}
use Rattle.access_trace.specs.declared.event.Breach.{Breach}
use Rattle.access_trace.specs.declared.event.Event.{Event}
use Rattle.access_trace.specs.declared.event.EventKind.{EventKind}
use Rattle.access_trace.specs.declared.event.EventKind.TheVariants.{Fetch, Load, Store, BeatIn, BeatOut, Cache}
use Rattle.access_trace.specs.Grammar.{ram_size}
use Rattle.r4_shape.specs.Numbers.{Numbers, IsShape, colours}
use Rattle.r4_shape.specs.Address.{granule, colour, index}
use Rattle.rule_ledger.specs.declared.operations.IndexOperation.{IndexOperation}
use Rattle.rule_ledger.specs.declared.operations.IndexOperation.TheVariants.{InvalidateI, WritebackInvalidateD, StoreTagD}
use Rattle.rule_ledger.specs.declared.operations.HitOperation.{HitOperation}
use Rattle.rule_ledger.specs.declared.operations.HitOperation.TheVariants.{HitInvalidateI, HitInvalidateD, FillI, HitWritebackInvalidateD, HitWritebackD}
use Rattle.rule_ledger.specs.declared.operations.Operation.{Operation}
use Rattle.rule_ledger.specs.declared.operations.Operation.TheVariants.{Index, Hit, Forge, Peek, Nothing}
use Rattle.rule_ledger.specs.Facts.{Cells, Facts, cell, granules, at_index}
use Rattle.rule_ledger.specs.Cells.{Grid, grid_of}
use Rattle.rule_ledger.specs.Events.{where_in_ram, access_row, beat_granules, index_row, hit_row, operation_row, row_by, row_of, breach_of, facts_after}
use Rattle.rule_ledger.specs.Operations.{operation_of}
use Rattle.rule_ledger.specs.Rules.{Row, harmless, next, after}
use Rattle.rule_ledger.proofs.Kept.{KeepsRules, keeps_rules}
use Rattle.rule_ledger.specs.Consistent.{IsConsistent}
use Rattle.rule_ledger.proofs.Consistent.{after_load, after_store, after_fetch, after_write_past, after_invalidate_i, after_fill_i, after_writeback_invalidate_d, after_hit_invalidate_d, after_hit_writeback_d}

-- the row leaves consistent facts where it breaks no rule
abbrev KeepsFacts : Grid → Facts → Row → Type 0
KeepsFacts grid k row = KeepsRules grid k row → IsConsistent grid (next k row)

-- a granule of RAM and a colour are a cell of the shape
pub granule_inside : (shape : Numbers) → IsShape shape → (pa : ℕ) → pa < ram_size → granule shape pa < (grid_of shape).whole
granule_inside shape is pa low = elim is.line [
  | inl e ↦ rw e (omega arith)
  | inr e ↦ rw e (omega arith)
]

pub colour_inside : (shape : Numbers) → IsShape shape → (va : ℕ) → colour shape va < colours shape
colour_inside shape is va = rw is.prim (omega arith)

module _ (shape : Numbers) (is : IsShape shape) (k : Facts) (facts : IsConsistent (grid_of shape) k) where
  nothing : KeepsFacts (grid_of shape) k harmless
  nothing kept = facts

  in_ram : (pa : ℕ) (row : Row) → (pa < ram_size → KeepsFacts (grid_of shape) k row) → KeepsFacts (grid_of shape) k (where_in_ram pa row)
  in_ram pa row keeps = elim (cases_Bool (ltb pa ram_size)) [
    | inl e ↦ rw e (keeps (ltb-true pa ram_size e))
    | inr e ↦ rw e nothing
  ]

  access : (kind : EventKind) (cached : Bool) (g c beat : ℕ) → g < (grid_of shape).whole → c < colours shape → KeepsFacts (grid_of shape) k (access_row kind cached g c beat)
  access Load true g c beat gl cl = after_load (grid_of shape) k facts g c
  access Store true g c beat gl cl = after_store (grid_of shape) k facts g c gl cl
  access Fetch true g c beat gl cl = after_fetch (grid_of shape) k facts g c
  access Load false g c beat gl cl = λ kept. facts
  access Store false g c beat gl cl = after_write_past (grid_of shape) k facts (granules g 1)
  access Fetch false g c beat gl cl = λ kept. facts
  access BeatOut cached g c beat gl cl = λ kept. facts
  access BeatIn cached g c beat gl cl = after_write_past (grid_of shape) k facts (granules g beat)
  access Cache cached g c beat gl cl = nothing

  at : (operation : IndexOperation) (set : Cells) → KeepsFacts (grid_of shape) k (index_row operation set)
  at InvalidateI set = λ kept. after_invalidate_i (grid_of shape) k facts set
  at WritebackInvalidateD set = λ kept. after_writeback_invalidate_d (grid_of shape) k facts set
  at StoreTagD set = λ kept. after_writeback_invalidate_d (grid_of shape) k facts set

  on : (operation : HitOperation) (g c : ℕ) → KeepsFacts (grid_of shape) k (hit_row operation g c)
  on HitInvalidateI g c = λ kept. after_invalidate_i (grid_of shape) k facts (cell g c)
  on HitInvalidateD g c = after_hit_invalidate_d (grid_of shape) k facts (cell g c)
  on FillI g c = after_fill_i (grid_of shape) k facts g c
  on HitWritebackInvalidateD g c = λ kept. after_writeback_invalidate_d (grid_of shape) k facts (cell g c)
  on HitWritebackD g c = λ kept. after_hit_writeback_d (grid_of shape) k facts (cell g c)

  operated : (operation : Operation) (va pa : ℕ) → KeepsFacts (grid_of shape) k (operation_row operation shape va pa)
  operated (Index operation) va pa = at operation (at_index (grid_of shape).page (index shape va))
  operated (Hit operation) va pa = in_ram pa (hit_row operation (granule shape pa) (colour shape va)) (λ low. on operation (granule shape pa) (colour shape va))
  operated Forge va pa = λ kept. facts
  operated Peek va pa = λ kept. facts
  operated Nothing va pa = nothing

  by_access : (kind : EventKind) (event : Event) → KeepsFacts (grid_of shape) k (where_in_ram event.pa (access_row kind event.cached (granule shape event.pa) (colour shape event.va) (beat_granules shape)))
  by_access kind event = in_ram event.pa (access_row kind event.cached (granule shape event.pa) (colour shape event.va) (beat_granules shape))
      (λ low. access kind event.cached (granule shape event.pa) (colour shape event.va) (beat_granules shape) (granule_inside shape is event.pa low) (colour_inside shape is event.va))

  by_kind : (kind : EventKind) (event : Event) → KeepsFacts (grid_of shape) k (row_by kind shape event)
  by_kind Fetch event = by_access Fetch event
  by_kind Load event = by_access Load event
  by_kind Store event = by_access Store event
  by_kind BeatIn event = by_access BeatIn event
  by_kind BeatOut event = by_access BeatOut event
  by_kind Cache event = operated (operation_of event.size event.value) event.va event.pa

  -- the facts stay consistent at every event
  pub consistent_after : (event : Event) → IsConsistent (grid_of shape) (facts_after shape k event (breach_of shape k event))
  consistent_after event = go (breach_of shape k event) refl
    where
      go : (answer : Option Breach) → breach_of shape k event ≡ answer → IsConsistent (grid_of shape) (after answer k (row_of shape event))
      go None e = by_kind event.kind event (keeps_rules (grid_of shape) k (row_of shape event) e)
      go (Some breach) e = facts
