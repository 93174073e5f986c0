use Rattle.std.proofs.Common.{◌+◌, ◌-◌, ◌*◌, ◌∙◌, sym, arith}
use Rattle.elf_image.proofs.Table.{find_at_header, find_past_header, find_no_header}
use Rattle.elf_image.proofs.rules.first_bad_header.Goals as goal

pub returns-then-breaks_range-clause-value : goal.returns-then-breaks_range-clause-value
returns-then-breaks_range-clause-value c =
    let bad = sym c.breaks_range.ensures ∙ c.if-breaks_range.true in
    sym (find_at_header c.args.bytes.now (c.args.table + 32 * c.loop-index.index) (c.args.count - c.loop-index.index) (omega arith) bad) ∙ c.loop-index.invariant

pub loop-index-preserved : goal.loop-index-preserved
loop-index-preserved c =
    let good = sym c.breaks_range.ensures ∙ c.if-breaks_range.false in
    find_past_header c.args.bytes.now (c.args.table + 32 * c.loop-index.index) (c.args.count - c.loop-index.index) (c.args.table + 32 * (c.loop-index.index + 1)) (c.args.count - (c.loop-index.index + 1)) (omega arith) (omega arith) good
    ∙ c.loop-index.invariant

pub returns-clause-value : goal.returns-clause-value
returns-clause-value c =
    sym (find_no_header c.args.bytes.now (c.args.table + 32 * c.loop-index.index) (c.args.count - c.loop-index.index) (omega arith)) ∙ c.loop-index.invariant
