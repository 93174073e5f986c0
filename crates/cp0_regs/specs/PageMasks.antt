-- The values of PageMask: from bit 13 up, a run of pairs of ones.
-- Source: MIPS R4000 Microprocessor User's Manual (Heinrich, 2nd edition), chapter 4, "PageMask Register". What becomes of a
-- value that is no such run is left open there; that its longest run is kept is this machine's own.
use Rattle.std.specs.Prelude.{◌≡◌, ◌==◌, ℕ, Bool, true, List, [], ◌∷◌, bit_and, max}
use Rattle.std.specs.List.{filter, list_any}

-- the masks of pages of 16 MB, 4 MB, 1 MB, 256 KB, 64 KB, 16 KB and 4 KB
abbrev pub page_masks : List ℕ
page_masks = 0x01ffe000 ∷ 0x007fe000 ∷ 0x001fe000 ∷ 0x0007e000 ∷ 0x0001e000 ∷ 0x00006000 ∷ 0 ∷ []

-- whether a number is one of them
abbrev pub is_mask : ℕ → Bool
is_mask number = list_any (λ mask. number == mask) page_masks

-- a number is the mask of a page
pub record IsMask (mask : ℕ) : Type 0 where
  pub is : is_mask mask ≡ true

-- whether a word has all bits of a mask
abbrev pub has_all_of : ℕ → ℕ → Bool
has_all_of word mask = bit_and word mask == mask

-- the greatest of some numbers, 0 where there is none
abbrev pub greatest : List ℕ → ℕ
greatest [] = 0
greatest (number ∷ numbers) = max number (greatest numbers)

-- the longest run of pairs of ones from bit 13 up that a word has: the greatest page mask all of whose bits it has
unfoldable pub longest_run : ℕ → ℕ
longest_run word = greatest (filter (has_all_of word) page_masks)
