-- Slots of bytes that holders share. A holder has a slot or none, the holders of one slot read the same bytes, and one of them owns it.
-- Source: this project's own.
use Rattle.std.specs.Prelude.{◌≡◌, ◌==◌, ◌+◌, ℕ, Bool, true, false, if◌then◌else◌, List, ◌++◌, length, replicate, take, drop, Option, Some, None, is_some, IsSome, slice_index_or, slice_set, position}
use Rattle.std.specs.List.{list_any}
use Rattle.std.specs.Option.{option_map}

-- What stands with each holder, by the holder's number: its slot, the bytes that it reads there, and whether it owns the slot. A line has
-- so many bytes.
pub record Holding : Type 0 where
  pub line : ℕ
  pub slots : List (Option ℕ)
  pub bytes : List (Option (List ℕ))
  pub owns : List Bool

-- the slot of a holder in the list of all, and its owner's mark
abbrev pub slot_in : List (Option ℕ) → ℕ → Option ℕ
slot_in slots holder = slice_index_or slots holder None

abbrev pub owner_in : List Bool → ℕ → Bool
owner_in owns holder = slice_index_or owns holder false

abbrev pub slot_of : Holding → ℕ → Option ℕ
slot_of a holder = slot_in a.slots holder

abbrev pub bytes_of : Holding → ℕ → Option (List ℕ)
bytes_of a holder = slice_index_or a.bytes holder None

abbrev pub is_owner : Holding → ℕ → Bool
is_owner a holder = owner_in a.owns holder

-- Each slot that a holder has is owned by one of its holders, and by one alone. Whoever owns a slot has it.
pub record IsOwned (slots : List (Option ℕ)) (owns : List Bool) : Type 0 where
  pub length_is : length owns ≡ length slots
  pub owned : (holder slot : ℕ) → slot_in slots holder ≡ Some slot → (owner : ℕ) × (slot_in slots owner ≡ Some slot) × (owner_in owns owner ≡ true)
  pub one : (holder other slot : ℕ) → slot_in slots holder ≡ Some slot → slot_in slots other ≡ Some slot →
      owner_in owns holder ≡ true → owner_in owns other ≡ true → holder ≡ other
  pub holds : (holder : ℕ) → owner_in owns holder ≡ true → IsSome (slot_in slots holder)

-- What is so of all holders: who has a slot reads bytes there, as many as a line has; those of one slot read the same bytes; and each
-- slot has one owner.
pub record IsHolding (a : Holding) : Type 0 where
  pub held : (holder : ℕ) → is_some (bytes_of a holder) ≡ is_some (slot_of a holder)
  pub whole : (holder : ℕ) (bytes : List ℕ) → bytes_of a holder ≡ Some bytes → length bytes ≡ a.line
  pub alike : (holder other : ℕ) → slot_of a holder ≡ slot_of a other → bytes_of a holder ≡ bytes_of a other
  pub owners : IsOwned a.slots a.owns

-- nobody has a slot
abbrev pub nobody : ℕ → ℕ → Holding
nobody line holders = record { line = line; slots = replicate holders None; bytes = replicate holders None; owns = replicate holders false }

-- no holder has this slot
abbrev pub IsFree : Holding → ℕ → Type 0
IsFree a slot = (holder : ℕ) → slot_of a holder ≡ Some slot → ⊥

-- a holder's slot is this one, which is one at all
abbrev pub is_slot : Option ℕ → Option ℕ → Bool
is_slot None other = false
is_slot (Some slot) None = false
is_slot (Some slot) (Some other) = other == slot

-- the slots of all holders but one
abbrev pub others : Holding → ℕ → List (Option ℕ)
others a holder = slice_set a.slots holder None

-- another holder has a holder's slot
abbrev pub is_shared : Holding → ℕ → Bool
is_shared a holder = list_any (is_slot (slot_of a holder)) (others a holder)

-- a holder owns this slot, with these bytes
abbrev pub with_slot : ℕ → ℕ → Option (List ℕ) → Holding → Holding
with_slot holder slot bytes a = record a {
  slots = slice_set a.slots holder (Some slot);
  bytes = slice_set a.bytes holder bytes;
  owns = slice_set a.owns holder true;
}

-- The holder that owns the slot of one that leaves it: the lowest of the others that have it, where the one that leaves was the owner.
abbrev pub heir : Holding → ℕ → Option ℕ
heir a holder = if is_owner a holder then position (is_slot (slot_of a holder)) (others a holder) else None

-- the owners once the heir is one too
abbrev pub passed : Option ℕ → List Bool → List Bool
passed None owns = owns
passed (Some heir) owns = slice_set owns heir true

-- a holder has no slot any more, and its heir owns the one that it had
abbrev pub left : ℕ → Holding → Holding
left holder a = record a {
  slots = others a holder;
  bytes = slice_set a.bytes holder None;
  owns = passed (heir a holder) (slice_set a.owns holder false);
}

-- a holder has the slot of another as well, whose owner stays
abbrev pub lent : ℕ → ℕ → Holding → Holding
lent from to a = record a {
  slots = slice_set a.slots to (slot_of a from);
  bytes = slice_set a.bytes to (bytes_of a from);
}

-- the bytes of a line with these in place of those from a place on
abbrev pub put_bytes : ℕ → List ℕ → List ℕ → List ℕ
put_bytes at bytes all = take at all ++ (bytes ++ drop (at + length bytes) all)

-- a holder reads these bytes from a place on
abbrev pub written : ℕ → ℕ → List ℕ → Holding → Holding
written holder at bytes a = record a { bytes = slice_set a.bytes holder (option_map (put_bytes at bytes) (bytes_of a holder)) }
