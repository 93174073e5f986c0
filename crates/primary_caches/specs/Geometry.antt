-- What the tags of one geometry stand for.
use Rattle.primary_caches.specs.declared.geometry.Geometry.{Geometry}
use Rattle.primary_caches.specs.declared.geometry.Geometry.TheVariants.{Narrow, Wide}
use Rattle.primary_caches.specs.TagLists.{TagLists, IsFull}

abbrev pub lists_of : Geometry → TagLists
lists_of (Narrow pair) = record { line = 16; size = 8192; places = 512; i = pair.i; d = pair.d }
lists_of (Wide pair) = record { line = 32; size = 8192; places = 256; i = pair.i; d = pair.d }

abbrev pub IsWhole : Geometry → Type 0
IsWhole geometry = IsFull (lists_of geometry)
