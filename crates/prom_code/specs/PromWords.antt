-- The words of the PROM, by their offsets from the reset vector 0xbfc00000, in hexadecimal: the boot at 000, the TLB
-- refill vector at 200, and the vector of other exceptions at 380 (MIPS R4000 Microprocessor User's Manual, chapter 5,
-- exception vectors with BEV set). The text of the PROM is this project's own; words that are not listed are zero.
use Rattle.std.specs.Prelude.{ℕ, ◌/◌, List, [], ◌∷◌, replicate}
use Rattle.flat_ram.specs.Bytes.{put_bytes}
use Rattle.flat_ram.specs.declared.memory.Prom.{Prom}

-- Status becomes BEV alone, and the image is entered at the address in ENTRY
abbrev pub start_words : List ℕ
start_words =
    0x3c1b0040 ∷  -- 000 lui k1,0x40
    0x409b6000 ∷  -- 004 mtc0 k1,Status
    0x3c1abf00 ∷  -- 008 lui k0,0xbf00
    0x8f5a0024 ∷  -- 00c lw k0,36(k0)
    0x03400008 ∷  -- 010 jr k0
    0x00000000 ∷  -- 014 nop
    []

-- a TLB refill goes on at 80000000
abbrev pub refill_words : List ℕ
refill_words =
    0x3c1a8000 ∷  -- 200 lui k0,0x8000
    0x03400008 ∷  -- 204 jr k0
    0x00000000 ∷  -- 208 nop
    []

-- a coherency exception is mended by a writeback and invalidation of the line; all else goes on at 80000180
abbrev pub handler_words : List ℕ
handler_words =
    0x401a6800 ∷  -- 380 mfc0 k0,Cause
    0x335a007c ∷  -- 384 andi k0,k0,0x7c
    0x3b5b007c ∷  -- 388 xori k1,k0,0x7c
    0x13600007 ∷  -- 38c beq k1,zero,3ac
    0x3b5a0038 ∷  -- 390 xori k0,k0,0x38
    0x13400005 ∷  -- 394 beq k0,zero,3ac
    0x00000000 ∷  -- 398 nop
    0x3c1a8000 ∷  -- 39c lui k0,0x8000
    0x375a0180 ∷  -- 3a0 ori k0,k0,0x180
    0x03400008 ∷  -- 3a4 jr k0
    0x00000000 ∷  -- 3a8 nop
    0x401a4000 ∷  -- 3ac mfc0 k0,BadVAddr
    0xbf570000 ∷  -- 3b0 cache 0x17,0(k0)
    0x42000018 ∷  -- 3b4 eret
    []

-- the 1024 words of the PROM: a word stands at a quarter of its offset
unfoldable pub boot_words : List ℕ
boot_words =
    put_bytes (put_bytes (put_bytes (replicate 1024 0) (0x000 / 4) start_words) (0x200 / 4) refill_words)
    (0x380 / 4) handler_words

-- the PROM of these words
abbrev pub boot_prom : Prom
boot_prom = record { words = boot_words }
