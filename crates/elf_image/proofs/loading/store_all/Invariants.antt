use Rattle.std.proofs.Common.{◌≡◌, ◌+◌, ◌-◌, ◌*◌, None}
use Rattle.std.specs.List.{find}
use Rattle.elf_image.specs.Header.{headers_from}
use Rattle.elf_image.specs.Rules.{breaks_range}
use Rattle.elf_image.specs.Loading.{stored_all}
use Rattle.elf_image.proofs.loading.store_all.Given as goal

abbrev pub invariant-loop-index : goal.invariant-loop-index
invariant-loop-index l =
    (stored_all l.bytes l.ram (headers_from (l.table + 32 * l.index) (l.count - l.index)) ≡ stored_all l.bytes l.initial.ram (headers_from l.table l.count))
    × (find (breaks_range l.bytes) (headers_from (l.table + 32 * l.index) (l.count - l.index)) ≡ None)
