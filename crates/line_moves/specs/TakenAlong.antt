-- Out and its halves, place by place. The parts of a secondary line are the lines of its addresses in the primary caches, at the indexes
-- that bit 0 of its PIdx chooses. Out takes them along: what the data cache has dirty goes into the secondary line, which goes to RAM
-- where it is dirty, and all of them are discarded. The moves are made part after part; here each place, and each byte, is said by what
-- stood there before.
-- Source: MIPS R4000 Microprocessor User's Manual, 2nd edition (Heinrich), chapter 11, "Virtual Coherency", for PIdx, by which the
-- secondary cache finds its lines in the primary caches. Out is this project's own.
use Rattle.std.specs.Prelude.{◌≡◌, ℕ, ◌+◌, ◌*◌, ◌%◌, ◌<◌, ◌==◌, ◌&&◌, ◌⊎◌, Bool, true, false, map, Option, Some, None, slice_index, slice_set, if◌then◌else◌}
use Rattle.std.specs.List.{range_with_len}
use Rattle.r4_shape.specs.Numbers.{Numbers}
use Rattle.r4_shape.specs.Address.{granule, group_of}
use Rattle.line_moves.specs.declared.hierarchy.Hier.{Hier}
use Rattle.line_moves.specs.declared.places.Side.TheVariants.{I, D, S}
use Rattle.line_moves.specs.declared.places.Place.{Place}
use Rattle.line_moves.specs.Lines.{Line, marked, holds, dirty_of, line_bytes}
use Rattle.line_moves.specs.Moves.{line_of, put_within, place_under}

-- the places of the caches at an index
abbrev pub data_place : ℕ → Place
data_place at = record { side = D; index = at }

abbrev pub instruction_place : ℕ → Place
instruction_place at = record { side = I; index = at }

abbrev pub secondary_at : ℕ → Place
secondary_at index = record { side = S; index = index }

-- the index of a physical address under a PIdx, the same in both primary caches
abbrev pub index_under : Numbers → ℕ → ℕ → ℕ
index_under shape pidx pa = (place_under D pidx pa shape).index

-- A primary line that stands at an index is a part of a secondary line: its address lies in that line's bytes, and the index is the one
-- that the PIdx of that line chooses for it.
abbrev pub is_part : Numbers → Line → ℕ → Line → Bool
is_part shape x at l = group_of shape (l.number * shape.line) == x.number && index_under shape x.pidx (l.number * shape.line) == at

-- what a place holds after the parts of a secondary line were discarded
abbrev pub without_part : Numbers → Line → ℕ → Option Line → Option Line
without_part shape x at None = None
without_part shape x at (Some l) = if is_part shape x at l then None else Some l

-- what a place of the data cache holds after they were written back: a part is clean
abbrev pub cleaned_part : Numbers → Line → ℕ → Option Line → Option Line
cleaned_part shape x at None = None
cleaned_part shape x at (Some l) = if is_part shape x at l then Some (marked false l) else Some l

-- ---- the bytes of a secondary line, with those of its data lines

-- the place of the data cache at which a byte of a secondary line can stand, and whether it stands there in a dirty line
abbrev pub address_in : Hier → Line → ℕ → ℕ
address_in m x at = x.number * m.caches.shape.group + at

abbrev pub data_place_of : Hier → Line → ℕ → Place
data_place_of m x at = place_under D x.pidx (address_in m x at) m.caches.shape

abbrev pub is_dirty_above : Hier → Line → ℕ → Bool
is_dirty_above m x at =
    holds (data_place_of m x at) (granule m.caches.shape (address_in m x at)) m.caches && dirty_of (line_of (data_place_of m x at) m)

-- such a byte: the data line's where it stands there in a dirty line, else the secondary line's own
abbrev pub gathered_byte : Hier → Line → ℕ → ℕ
gathered_byte m x at =
    if is_dirty_above m x at then slice_index (line_bytes (line_of (data_place_of m x at) m)) (at % m.caches.shape.line)
    else slice_index x.bytes at

-- the secondary line after it was written back with its data lines: it has these bytes, and is clean
unfoldable pub gathered_line : Hier → Line → Line
gathered_line m x = record {
  number = x.number;
  dirty = false;
  pidx = x.pidx;
  bytes = map (gathered_byte m x) (range_with_len 0 m.caches.shape.group);
}

-- it or a data line of it is dirty, so that RAM does not have its bytes
abbrev pub IsDirtyWithParts : Hier → Line → Type 0
IsDirtyWithParts m x = (x.dirty ≡ true) ⊎ ((at : ℕ) × (at < m.caches.shape.group) × (is_dirty_above m x at ≡ true))

-- ---- what becomes of the places

-- The parts of a secondary line were discarded, and all else is as it was.
pub record ArePartsDiscarded (x : Line) (old new : Hier) : Type 0 where
  pub d : (at : ℕ) → line_of (data_place at) new ≡ without_part old.caches.shape x at (line_of (data_place at) old)
  pub i : (at : ℕ) → line_of (instruction_place at) new ≡ without_part old.caches.shape x at (line_of (instruction_place at) old)
  pub s : new.caches.s ≡ old.caches.s
  pub ram : new.ram ≡ old.ram
  pub shape : new.caches.shape ≡ old.caches.shape

-- The secondary line that stood at an index was discarded unwritten with its parts, and all else is as it was.
pub record IsDiscardedWhole (index : ℕ) (x : Line) (old new : Hier) : Type 0 where
  pub d : (at : ℕ) → line_of (data_place at) new ≡ without_part old.caches.shape x at (line_of (data_place at) old)
  pub i : (at : ℕ) → line_of (instruction_place at) new ≡ without_part old.caches.shape x at (line_of (instruction_place at) old)
  pub s : new.caches.s ≡ slice_set old.caches.s index None
  pub ram : new.ram ≡ old.ram
  pub shape : new.caches.shape ≡ old.caches.shape

-- What became of RAM: it has the bytes of the secondary line with its data lines, where one of them was dirty, and else is as it was.
pub record IsRamAfter (x : Line) (old new : Hier) : Type 0 where
  pub stored : IsDirtyWithParts old x → new.ram ≡ put_within old.ram (x.number * old.caches.shape.group) (gathered_line old x).bytes
  pub kept : ¬ IsDirtyWithParts old x → new.ram ≡ old.ram

-- The secondary line that stood at an index was written back with its data lines, and all of them stay, clean.
pub record IsWrittenBack (index : ℕ) (x : Line) (old new : Hier) : Type 0 where
  pub d : (at : ℕ) → line_of (data_place at) new ≡ cleaned_part old.caches.shape x at (line_of (data_place at) old)
  pub i : new.caches.i ≡ old.caches.i
  pub s : new.caches.s ≡ slice_set old.caches.s index (Some (gathered_line old x))
  pub ram : IsRamAfter x old new
  pub shape : new.caches.shape ≡ old.caches.shape

-- Out: the secondary line that stood at an index was written back with its data lines, and it and its parts were discarded.
pub record IsOut (index : ℕ) (x : Line) (old new : Hier) : Type 0 where
  pub d : (at : ℕ) → line_of (data_place at) new ≡ without_part old.caches.shape x at (line_of (data_place at) old)
  pub i : (at : ℕ) → line_of (instruction_place at) new ≡ without_part old.caches.shape x at (line_of (instruction_place at) old)
  pub s : new.caches.s ≡ slice_set old.caches.s index None
  pub ram : IsRamAfter x old new
  pub shape : new.caches.shape ≡ old.caches.shape
