-- What is asked of a PROM where the handler of coherency exceptions is spoken of: its words from 200 on, and nothing of the boot.
use Rattle.std.specs.Prelude.{ℕ, ◌≡◌, ◌-◌, ◌/◌, List, drop, replicate, slice_index}
use Rattle.flat_ram.specs.Bytes.{put_bytes}
use Rattle.flat_ram.specs.Map.{prom_base}
use Rattle.flat_ram.specs.declared.memory.Prom.{Prom}
use Rattle.prom_code.specs.PromWords.{refill_words, handler_words}

-- the words from 200 on, to the end of the PROM at 1000: those of the refill vector and of the handler, and zero elsewhere
unfoldable pub vector_words : List ℕ
vector_words = put_bytes (put_bytes (replicate ((0x1000 - 0x200) / 4) 0) 0 refill_words) ((0x380 - 0x200) / 4) handler_words

-- A PROM with these words from 200 on; those of the boot, before them, may be any.
abbrev pub HasHandler : Prom → Type 0
HasHandler prom = drop (0x200 / 4) prom.words ≡ vector_words

-- the word that a PROM has at a physical address
abbrev pub word_in : Prom → ℕ → ℕ
word_in prom pa = slice_index prom.words ((pa - prom_base) / 4)
