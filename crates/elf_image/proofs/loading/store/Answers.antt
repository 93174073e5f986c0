use Rattle.std.proofs.Common.{◌∙◌, ap, sym}
use Rattle.elf_image.specs.Loading.{stored}
use Rattle.elf_image.proofs.Stores.{in_range, stored_is, stored_not}
use Rattle.elf_image.proofs.loading.store.Goals as goal

pub store_in_range-requires : goal.store_in_range-requires
store_in_range-requires c =
    in_range c.args.bytes.now c.args.at c.segment_at-segment.result c.segment_at-segment.ensures c.requires.range (sym c.is_stored.ensures ∙ c.if-is_stored.true)

pub returns-then-is_stored : goal.returns-then-is_stored
returns-then-is_stored c =
    c.store_in_range.ensures
    ∙ stored_is c.args.bytes.now c.args.ram.now c.segment_at-segment.result (sym c.is_stored.ensures ∙ c.if-is_stored.true)
    ∙ ap (stored c.args.bytes.now c.args.ram.now) c.segment_at-segment.ensures

pub returns-else-is_stored : goal.returns-else-is_stored
returns-else-is_stored c =
    stored_not c.args.bytes.now c.args.ram.now c.segment_at-segment.result (sym c.is_stored.ensures ∙ c.if-is_stored.false)
    ∙ ap (stored c.args.bytes.now c.args.ram.now) c.segment_at-segment.ensures
