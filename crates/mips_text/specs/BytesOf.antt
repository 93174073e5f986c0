-- The bytes of an item, by where they stand.
use Rattle.std.specs.Prelude.{ℕ, List, [], IsSome, unwrap_or}
use Rattle.mips_text.specs.declared.item.Source.{Source}
use Rattle.mips_text.specs.declared.item.Source.TheVariants.{Numbers, Text}
use Rattle.mips_text.specs.Values.{bytes_of_text}

-- the numbers, or what the text stands for
abbrev pub bytes_in : Source → List ℕ
bytes_in (Numbers list) = list.items
bytes_in (Text text) = unwrap_or (bytes_of_text text.now) []

-- a text stands for bytes
abbrev pub IsReadable : Source → Type 0
IsReadable (Numbers list) = Unit {0}
IsReadable (Text text) = IsSome (bytes_of_text text.now)
