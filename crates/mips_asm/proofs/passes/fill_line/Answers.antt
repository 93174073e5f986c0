use Rattle.std.proofs.Common.{◌≡◌, Some, rules}
use Rattle.mips_text.specs.Line.{read_line}
use Rattle.mips_asm.proofs.Sizes.{line_size}
use Rattle.mips_asm.proofs.passes.fill_line.Goals as goal

pub returns-in-Ok-Some-clause-size : goal.returns-in-Ok-Some-clause-size
returns-in-Ok-Some-clause-size c =
    let said = c.in-Ok-Some.field-0 in
    let is : said.item ≡ Some c.in-Ok-Some.item = search rules in
    line_size c.args.labels.now c.args.at (read_line c.args.line.now) said c.in-Ok-Some.item c.put_item.result c.args.bytes.now.items c.put_item.new.bytes.items c.in-Ok-Some.ensures.reading is c.put_item.ensures
