-- The translation of a mapped address: by the first pair, in the order of the index, that matches it.
-- Source: MIPS R4000 Microprocessor User's Manual, 2nd edition (Heinrich), chapter 4, "Virtual-to-Physical Address Translation
-- Process", and chapter 5, the TLB exceptions. Where several pairs match, the manual leaves the result open; that the lowest
-- index counts is this project's own. Every cache attribute other than 2 is cached.
use Rattle.std.specs.Prelude.{◌≡◌, ◌<◌, ℕ, ◌==◌, ◌+◌, ◌-◌, ◌*◌, ◌/◌, ◌%◌, ◌^◌, Bool, ◌&&◌, ◌||◌, not, bit_and, bit_xor, if◌then◌else◌, List, Option, Some, None}
use Rattle.std.specs.List.{find, position_from}
use Rattle.tlb_model.specs.declared.pairs.Pair.{Pair}
use Rattle.tlb_model.specs.declared.translation.Found.{Found}
use Rattle.tlb_model.specs.declared.translation.Found.TheVariants.{Page, Refill, Invalid, Modified}
use Rattle.tlb_model.specs.Pairs.{global_bit, asid_of}

-- ---- matches

-- the bits by which the page numbers of the pair and of the address are compared: VPN2 but for those under the mask
abbrev pub compared_bits : Pair → ℕ
compared_bits pair = 0xffffe000 - pair.mask

-- the address lies in the pair's pages
abbrev pub covers : Pair → ℕ → Bool
covers pair va = bit_and (bit_xor va pair.hi) (compared_bits pair) == 0

abbrev pub is_global : Pair → Bool
is_global pair = (global_bit pair.lo0 == 1) && (global_bit pair.lo1 == 1)

-- a pair is global, or of an address space
abbrev pub is_in_space : ℕ → Pair → Bool
is_in_space asid pair = is_global pair || (asid_of pair.hi == asid)

-- a pair matches an address of an address space: it covers it, and is global or of that space
abbrev pub is_match : ℕ → ℕ → Pair → Bool
is_match va asid pair = covers pair va && is_in_space asid pair

-- the first pair that matches, and its index
abbrev pub first_match : List Pair → ℕ → ℕ → Option Pair
first_match pairs va asid = find (is_match va asid) pairs

abbrev pub first_index : List Pair → ℕ → ℕ → Option ℕ
first_index pairs va asid = position_from (is_match va asid) 0 pairs

-- ---- pages

-- the bytes of each page of a pair: 4096, four times as many for each pair of ones in the mask
abbrev pub page_size : Pair → ℕ
page_size pair = (pair.mask + 2 ^ 13) / 2

-- the EntryLo of the page in which an address lies: the bit above the page's own chooses the even page or the odd one
abbrev pub page_of : Pair → ℕ → ℕ
page_of pair va = if va / page_size pair % 2 == 1 then pair.lo1 else pair.lo0

-- V, D, the attribute C, and the address of the page frame
abbrev pub is_valid : ℕ → Bool
is_valid lo = lo / 2 % 2 == 1

abbrev pub is_dirty : ℕ → Bool
is_dirty lo = lo / 2 ^ 2 % 2 == 1

abbrev pub is_cached : ℕ → Bool
is_cached lo = not (lo / 2 ^ 3 % 2 ^ 3 == 2)

abbrev pub frame_of : ℕ → ℕ
frame_of lo = lo / 2 ^ 6 % 2 ^ 24 * 2 ^ 12

-- the address in the frame: the frame's bits above the page's size, and the address's below
abbrev pub physical_in : Pair → ℕ → ℕ → ℕ
physical_in pair va lo = frame_of lo / page_size pair * page_size pair + va % page_size pair

-- what a page has for an access
abbrev pub found_in : Pair → ℕ → Bool → ℕ → Found
found_in pair va write lo =
    if not (is_valid lo) then Invalid
    else if write && not (is_dirty lo) then Modified
    else Page (physical_in pair va lo) (is_cached lo)

-- what the pairs have
abbrev pub found_by : ℕ → Bool → Option Pair → Found
found_by va write (Some pair) = found_in pair va write (page_of pair va)
found_by va write None = Refill

-- the translation
unfoldable pub translated : List Pair → ℕ → ℕ → Bool → Found
translated pairs va asid write = found_by va write (first_match pairs va asid)

-- ---- what is known of every physical address that is found

-- it has 36 bits, and agrees with the virtual one within a page of 4096 bytes
pub record IsPlace (va pa : ℕ) : Type 0 where
  pub page : va % 4096 ≡ pa % 4096
  pub reach : pa < 2 ^ 36

abbrev pub IsFound : ℕ → Found → Type 0
IsFound va (Page pa cached) = IsPlace va pa
IsFound va _ = Unit {0}
