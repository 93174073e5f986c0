-- The pairs of the TLB: each is an entry for two neighbouring pages of one size, in the layouts of PageMask, EntryHi and the
-- two EntryLo.
-- Source: MIPS R4000 Microprocessor User's Manual, 2nd edition (Heinrich), chapter 4, "Format of a TLB Entry" and the
-- registers named there; appendix A, TLBWI and TLBWR. That the pairs are zero at reset is this project's own.
use Rattle.std.specs.Prelude.{◌≡◌, ℕ, ◌+◌, ◌-◌, ◌*◌, ◌/◌, ◌%◌, ◌^◌, List, replicate, slice_index_or, bit_and, All}
use Rattle.cp0_regs.specs.Bits.{HasOnly, all_bits}
use Rattle.cp0_regs.specs.PageMasks.{IsMask}
use Rattle.tlb_model.specs.declared.pairs.Pair.{Pair}

-- a pair that is all zero, and the 48 pairs at reset
abbrev pub zero_pair : Pair
zero_pair = record { mask = 0; hi = 0; lo0 = 0; lo1 = 0 }

unfoldable pub zero_pairs : List Pair
zero_pairs = replicate 48 zero_pair

-- the pair at an index
abbrev pub pair_at : List Pair → ℕ → Pair
pair_at pairs at = slice_index_or pairs at zero_pair

-- ---- fields

-- G, the bit of a global page
abbrev pub global_bit : ℕ → ℕ
global_bit lo = lo % 2

-- the number of the address space that EntryHi has
abbrev pub asid_of : ℕ → ℕ
asid_of hi = hi % 2 ^ 8

-- ---- what a pair can be

-- the bits of VPN2 and of ASID in EntryHi, and the bits of an EntryLo
abbrev pub hi_bits : ℕ
hi_bits = 0xffffe0ff

abbrev pub lo_bits : ℕ
lo_bits = 0x3fffffff

-- A pair as it can be stored: its mask is one of a page; the number of its pages has no bit under the mask; and both pages
-- are global or none is.
pub record IsPair (pair : Pair) : Type 0 where
  pub mask : IsMask pair.mask
  pub hi : HasOnly pair.hi (hi_bits - pair.mask)
  pub lo0 : HasOnly pair.lo0 lo_bits
  pub lo1 : HasOnly pair.lo1 lo_bits
  pub global : global_bit pair.lo0 ≡ global_bit pair.lo1

abbrev pub ArePairs : List Pair → Type 0
ArePairs pairs = All IsPair pairs

-- What is stored of PageMask, EntryHi and the two EntryLo: the page number without the bits under the mask, and for both pages
-- the one G that both have.
abbrev pub stored_pair : ℕ → ℕ → ℕ → ℕ → Pair
stored_pair mask hi lo0 lo1 = record {
  mask = mask;
  hi = bit_and hi (all_bits - mask);
  lo0 = lo0 / 2 * 2 + global_bit lo0 * global_bit lo1;
  lo1 = lo1 / 2 * 2 + global_bit lo0 * global_bit lo1;
}
