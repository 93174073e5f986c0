-- A large valid input from a number: a program that keeps cache discipline, since each turn writes back and throws away the line in
-- which it stored.
-- Source: this project's own; the numbers of the sequence are those of a common linear congruential generator.
use Rattle.std.specs.Prelude.{ℕ, zero, suc, ◌+◌, ◌*◌, ◌/◌, ◌%◌, ◌^◌, List, [], ◌∷◌, ◌++◌, flat_map}
use Rattle.std.specs.List.{range_with_len}
use Rattle.flat_ram.specs.Bytes.{bytes_of}
use Rattle.load_maker.specs.Instructions.{t0, s0, s2, t9, EntryLo0, EntryLo1, EntryHi, lui, ori, addiu, lw, sw, cache, addu, mtc0, tlbwi, nop}

-- THE SEQUENCE

-- the number after one
abbrev pub next : ℕ → ℕ
next x = (x * 1664525 + 1013904223) % 2 ^ 32

-- x(i): x(0) is the number that is given
abbrev pub x_at : ℕ → ℕ → ℕ
x_at number zero = number
x_at number (suc i) = next (x_at number i)

-- OFF: a word in the first or in the second of two pages
abbrev pub offset_of : ℕ → ℕ
offset_of x = 4 * (x / 256 % 256) + 4096 * (x / 65536 % 2)

-- DELTA
abbrev pub delta_of : ℕ → ℕ
delta_of x = x % 256

-- THE WORDS

-- both pages from c0000000 on are mapped to the page at 700000: cacheable (attribute 3), writable, valid and global
unfoldable pub first_words : List ℕ
first_words =
    lui s0 0xc000 ∷
    mtc0 s0 EntryHi ∷
    lui t0 0x1 ∷
    ori t0 t0 0xc01f ∷
    mtc0 t0 EntryLo0 ∷
    mtc0 t0 EntryLo1 ∷
    tlbwi ∷
    []

-- one turn: a word is loaded, raised and stored, its line is written back and invalidated (0x15, Hit Writeback Invalidate D), and the
-- word is added to a sum
unfoldable pub turn : ℕ → List ℕ
turn x =
    lw t0 (offset_of x) s0 ∷
    addiu t0 t0 (delta_of x) ∷
    sw t0 (offset_of x) s0 ∷
    cache 0x15 (offset_of x) s0 ∷
    addu s2 s2 t0 ∷
    []

-- the machine halts with the sum as its code
unfoldable pub last_words : List ℕ
last_words =
    lui t9 0xbf00 ∷
    sw s2 32 t9 ∷
    nop ∷
    []

-- the turns for i from 1 to COUNT
abbrev pub turns : ℕ → ℕ → List ℕ
turns number count = flat_map (λ i. turn (x_at number i)) (range_with_len 1 count)

-- the whole program
abbrev pub program : ℕ → ℕ → List ℕ
program number count = first_words ++ turns number count ++ last_words

-- how many words it has
abbrev pub program_length : ℕ → ℕ
program_length count = 5 * count + 10

-- how many ticks its run takes: the boot of the PROM takes six, the nop is not reached, and each other word takes one
abbrev pub program_ticks : ℕ → ℕ
program_ticks count = 5 * count + 15

-- THE IMAGE

-- where the words stand, which is the entry
abbrev pub program_base : ℕ
program_base = 0xa0010000

-- the bytes of words, the high byte of each first
abbrev pub word_bytes : List ℕ → List ℕ
word_bytes words = flat_map bytes_of words
