use Rattle.std.proofs.Common.{◌+◌, ◌≤◌, ◌^◌, ◌∙◌, sym, subst, length}
use Rattle.elf_image.proofs.Stores.{in_range, file_in_range}
use Rattle.elf_image.proofs.Places.{segment_ends}
use Rattle.elf_image.proofs.reading.file_bytes.Goals as goal

pub part-requires : goal.part-requires
part-requires c =
    file_in_range (length c.args.bytes.now) c.segment_at-segment.result
    (in_range c.args.bytes.now c.args.at c.segment_at-segment.result c.segment_at-segment.ensures c.requires.range (sym c.is_stored.ensures ∙ c.if-not-is_stored.false))

pub returns-clause-ends : goal.returns-clause-ends
returns-clause-ends c =
    let segment = c.segment_at-segment.result in
    let ends : segment.address + segment.file_size ≤ 2 ^ 32 =
    segment_ends c.args.bytes.now c.args.at segment c.segment_at-segment.ensures c.requires.range (sym c.is_stored.ensures ∙ c.if-not-is_stored.false) in
    subst (λ s. s.address + length c.part.result.now ≤ 2 ^ 32) c.segment_at-segment.ensures (subst (λ n. segment.address + n ≤ 2 ^ 32) (sym c.part.ensures.len) ends)
