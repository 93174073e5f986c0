-- The row of the table of rules for an event, and what the rules say of it.
-- Source: this project's own.
use Rattle.std.specs.Prelude.{ℕ, ◌/◌, Bool, true, false, nat_lt, Option, if◌then◌else◌}
use Rattle.access_trace.specs.declared.event.Breach.{Breach}
use Rattle.access_trace.specs.declared.event.Event.{Event}
use Rattle.access_trace.specs.declared.event.EventKind.{EventKind}
use Rattle.access_trace.specs.declared.event.EventKind.TheVariants.{Fetch, Load, Store, BeatIn, BeatOut, Cache}
use Rattle.access_trace.specs.Grammar.{ram_size}
use Rattle.r4_shape.specs.Numbers.{Numbers}
use Rattle.r4_shape.specs.Address.{index, colour, granule}
use Rattle.rule_ledger.specs.declared.operations.IndexOperation.{IndexOperation}
use Rattle.rule_ledger.specs.declared.operations.IndexOperation.TheVariants.{InvalidateI, WritebackInvalidateD, StoreTagD}
use Rattle.rule_ledger.specs.declared.operations.HitOperation.{HitOperation}
use Rattle.rule_ledger.specs.declared.operations.HitOperation.TheVariants.{HitInvalidateI, HitInvalidateD, FillI, HitWritebackInvalidateD, HitWritebackD}
use Rattle.rule_ledger.specs.declared.operations.Operation.{Operation}
use Rattle.rule_ledger.specs.declared.operations.Operation.TheVariants.{Index, Hit, Forge, Peek, Nothing}
use Rattle.rule_ledger.specs.Facts.{Cells, Facts, cell, granules, at_index}
use Rattle.rule_ledger.specs.Cells.{grid_of}
use Rattle.rule_ledger.specs.Operations.{operation_of, is_flush}
use Rattle.rule_ledger.specs.Rules.{Row, harmless, first_breach, after, cached_load, cached_store, cached_fetch, read_past, write_past, invalidate_i, writeback_invalidate_d, store_tag_d, hit_invalidate_d, fill_i, hit_writeback_d, forges, peeks}

-- what is outside RAM breaks no rule and changes nothing
abbrev pub where_in_ram : ℕ → Row → Row
where_in_ram pa row = if nat_lt pa ram_size then row else harmless

-- ---- accesses and beats

-- how many granules a beat of the disk has
abbrev pub beat_granules : Numbers → ℕ
beat_granules shape = 32 / shape.line

-- An access to RAM, by its kind and whether it goes through the caches, at a granule and a colour; a beat has so many granules.
abbrev pub access_row : EventKind → Bool → ℕ → ℕ → ℕ → Row
access_row Load true g c beat = cached_load g c
access_row Store true g c beat = cached_store g c
access_row Fetch true g c beat = cached_fetch g c
access_row Load false g c beat = read_past (granules g 1)
access_row Fetch false g c beat = read_past (granules g 1)
access_row Store false g c beat = write_past (granules g 1)
access_row BeatOut cached g c beat = read_past (granules g beat)
access_row BeatIn cached g c beat = write_past (granules g beat)
access_row Cache cached g c beat = harmless

-- ---- CACHE operations

-- an operation on the cells of an index
abbrev pub index_row : IndexOperation → Cells → Row
index_row InvalidateI cells = invalidate_i cells
index_row WritebackInvalidateD cells = writeback_invalidate_d cells
index_row StoreTagD cells = store_tag_d cells

-- an operation on the line of a granule at a colour
abbrev pub hit_row : HitOperation → ℕ → ℕ → Row
hit_row HitInvalidateI g c = invalidate_i (cell g c)
hit_row HitInvalidateD g c = hit_invalidate_d (cell g c)
hit_row FillI g c = fill_i g c
hit_row HitWritebackInvalidateD g c = writeback_invalidate_d (cell g c)
hit_row HitWritebackD g c = hit_writeback_d (cell g c)

-- An operation at an address: an index operation acts on every cell of the index, wherever the physical address lies.
abbrev pub operation_row : Operation → Numbers → ℕ → ℕ → Row
operation_row (Index operation) shape va pa = index_row operation (at_index (grid_of shape).page (index shape va))
operation_row (Hit operation) shape va pa = where_in_ram pa (hit_row operation (granule shape pa) (colour shape va))
operation_row Forge shape va pa = forges
operation_row Peek shape va pa = peeks
operation_row Nothing shape va pa = harmless

-- ---- events

-- the row of an event, by its kind
abbrev pub row_by : EventKind → Numbers → Event → Row
row_by Cache shape event = operation_row (operation_of event.size event.value) shape event.va event.pa
row_by kind shape event =
    where_in_ram event.pa (access_row kind event.cached (granule shape event.pa) (colour shape event.va) (beat_granules shape))

abbrev pub row_of : Numbers → Event → Row
row_of shape event = row_by event.kind shape event

-- whether an event throws the lines of an index away whatever the facts are
abbrev pub flushed_by : EventKind → Event → Bool
flushed_by Cache event = is_flush (operation_of event.size event.value)
flushed_by kind event = false

abbrev pub is_index_flush : Event → Bool
is_index_flush event = flushed_by event.kind event

-- the first rule that an event breaks, and the facts after an event that was answered so
abbrev pub breach_of : Numbers → Facts → Event → Option Breach
breach_of shape facts event = first_breach (grid_of shape) facts (row_of shape event)

abbrev pub facts_after : Numbers → Facts → Event → Option Breach → Facts
facts_after shape facts event answer = after answer facts (row_of shape event)
