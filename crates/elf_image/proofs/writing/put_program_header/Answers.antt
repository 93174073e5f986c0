use Rattle.flat_ram.specs.Bytes.{bytes_of}
use Rattle.elf_image.specs.Written.{program_header}
use Rattle.elf_image.proofs.Parts.{eight_parts}
use Rattle.elf_image.proofs.writing.put_program_header.Goals as goal

pub returns-clause-items : goal.returns-clause-items
unfolding program_header
returns-clause-items c =
    rw (c.put_word-8.ensures.items, c.put_word-7.ensures.items, c.put_word-6.ensures.items, c.put_word-5.ensures.items, c.put_word-4.ensures.items, c.put_word-3.ensures.items, c.put_word-2.ensures.items, c.put_word.ensures.items)
    (eight_parts c.args.headers.now.items (bytes_of 1) (bytes_of 84) (bytes_of c.args.base) (bytes_of c.args.base) (bytes_of c.args.count) (bytes_of c.args.count) (bytes_of 7) (bytes_of 4))
