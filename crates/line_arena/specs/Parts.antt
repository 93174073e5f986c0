-- How the arena keeps what stands with each holder: the bytes of the slots in a slab, whose keys are the slots' numbers, and for each slot
-- the count of its holders.
-- Source: this project's own.
use Rattle.std.specs.Prelude.{◌≡◌, ℕ, ◌^◌, ◌<◌, ◌≤◌, Bool, List, length, map, take, count_by, Option, Some, None, IsSome, slice_index}
use Rattle.std.specs.Option.{option_map}
use Rattle.slab.specs.Slab.{Slab, get, slab_len}
use Rattle.line_arena.specs.Holding.{Holding, IsOwned, is_slot, slot_in}

-- the bytes of a line, the slots' bytes, the slot of each holder, the number of holders of each slot, and who owns its slot
pub record Parts : Type 0 where
  pub line : ℕ
  pub store : Slab (List ℕ)
  pub held : List (Option ℕ)
  pub counts : List ℕ
  pub owns : List Bool

abbrev pub parts : ℕ → Slab (List ℕ) → List (Option ℕ) → List ℕ → List Bool → Parts
parts line store held counts owns = record { line = line; store = store; held = held; counts = counts; owns = owns }

-- what a line reads in a slot: a slot has room for the longest line
abbrev pub bytes_in : ℕ → Slab (List ℕ) → Option ℕ → Option (List ℕ)
bytes_in line store None = None
bytes_in line store (Some slot) = option_map (λ bytes. take line bytes) (get store slot)

-- what stands with each holder
abbrev pub holding : Parts → Holding
holding p = record { line = p.line; slots = p.held; bytes = map (bytes_in p.line p.store) p.held; owns = p.owns }

-- how many holders have a slot
abbrev pub holders_of : ℕ → List (Option ℕ) → ℕ
holders_of slot held = count_by (is_slot (Some slot)) held

-- What the arena keeps. The slots in use are as many as the owners, and there is room for as many as there are holders: so there is room
-- for the slot of a holder that owns none.
pub record IsKept (p : Parts) : Type 0 where
  pub line_is : p.line ≤ 32
  pub few : length p.held < 2 ^ 32
  pub owners : IsOwned p.held p.owns
  pub room : length p.held ≤ p.store.capacity
  pub in_use : slab_len p.store ≡ count_by (λ own. own) p.owns
  pub within : (holder slot : ℕ) → slot_in p.held holder ≡ Some slot → slot < p.store.capacity
  pub stored : (holder slot : ℕ) → slot_in p.held holder ≡ Some slot → IsSome (get p.store slot)
  pub sized : (slot : ℕ) (bytes : List ℕ) → get p.store slot ≡ Some bytes → length bytes ≡ 32
  pub counts_length : length p.counts ≡ p.store.capacity
  pub counted : (slot : ℕ) → slot < p.store.capacity → slice_index p.counts slot ≡ holders_of slot p.held
