use Rattle.std.proofs.Common.{◌≡◌, ◌+◌, ◌-◌, ◌*◌}
use Rattle.std.specs.List.{find}
use Rattle.elf_image.specs.Header.{headers_from}
use Rattle.elf_image.specs.Rules.{breaks_range}
use Rattle.elf_image.proofs.rules.first_bad_header.Given as goal

abbrev pub invariant-loop-index : goal.invariant-loop-index
invariant-loop-index l =
    find (breaks_range l.bytes) (headers_from (l.table + 32 * l.index) (l.count - l.index)) ≡ find (breaks_range l.bytes) (headers_from l.table l.count)
