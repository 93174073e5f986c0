use Rattle.std.proofs.Common.{◌+◌, ◌-◌, ◌*◌, ◌∙◌, sym, ap, arith}
use Rattle.elf_image.specs.Header.{headers_from}
use Rattle.elf_image.specs.Loading.{stored_all}
use Rattle.elf_image.proofs.Table.{good_header, find_past_header, stored_past_header, stored_no_header}
use Rattle.elf_image.proofs.loading.store_all.Goals as goal

pub store-requires-clause-range : goal.store-requires-clause-range
store-requires-clause-range c = good_header c.args.bytes.now (c.args.table + 32 * c.loop-index.index) (c.args.count - c.loop-index.index) (omega arith) c.loop-index.invariant.1

pub loop-index-preserved : goal.loop-index-preserved
loop-index-preserved c =
    let bytes = c.args.bytes.now in
    let at = c.args.table + 32 * c.loop-index.index in
    let left = c.args.count - c.loop-index.index in
    let next = c.args.table + 32 * (c.loop-index.index + 1) in
    let rest = c.args.count - (c.loop-index.index + 1) in
    let good = good_header bytes at left (omega arith) c.loop-index.invariant.1 in (
      ap (λ ram. stored_all bytes ram (headers_from next rest)) c.store.ensures ∙ stored_past_header bytes c.loop-index.ram at left next rest (omega arith) (omega arith) ∙ c.loop-index.invariant.0,
      find_past_header bytes at left next rest (omega arith) (omega arith) good ∙ c.loop-index.invariant.1,
    )

pub returns : goal.returns
returns c =
    sym (stored_no_header c.args.bytes.now c.loop-index.ram (c.args.table + 32 * c.loop-index.index) (c.args.count - c.loop-index.index) (omega arith)) ∙ c.loop-index.invariant.0
