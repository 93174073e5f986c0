-- The events that a trace may hold. An event is a beat of the disk, which moves 32 bytes, or a step's fetch, load, store
-- or CACHE operation; the grammar says which numbers it may have.
-- Source: this project's own format of traces, for accesses of the MIPS R4000 (MIPS R4000 Microprocessor User's Manual,
-- Heinrich, 2nd edition: physical addresses of 36 bits and pages of 4096 bytes in chapter 4, accesses within one
-- doubleword in chapter 2, CACHE with a code of 5 bits and TagLo in chapter 11).
use Rattle.std.specs.Prelude.{ℕ, ◌≡◌, ◌+◌, ◌%◌, ◌^◌, ◌==◌, nat_lt, nat_le, Bool, true, false, not, ◌&&◌, ◌||◌}
use Rattle.access_trace.specs.declared.event.EventKind.{EventKind}
use Rattle.access_trace.specs.declared.event.EventKind.TheVariants.{Fetch, Load, Store, BeatIn, BeatOut, Cache}
use Rattle.access_trace.specs.declared.event.Event.{Event}

-- how many bytes RAM has
abbrev pub ram_size : ℕ
ram_size = 8388608

-- a beat of the disk
abbrev pub is_beat : EventKind → Bool
is_beat BeatIn = true
is_beat BeatOut = true
is_beat kind = false

-- a load or a store
abbrev pub is_data : EventKind → Bool
is_data Load = true
is_data Store = true
is_data kind = false

-- a fetch
abbrev pub is_fetch : EventKind → Bool
is_fetch Fetch = true
is_fetch kind = false

-- an access to RAM through the caches, or a beat: such an event names an address in RAM
abbrev pub reaches_ram : EventKind → Bool → Bool
reaches_ram Cache cached = false
reaches_ram BeatIn cached = true
reaches_ram BeatOut cached = true
reaches_ram kind cached = cached

-- The numbers have the widths of their fields: a tick of 32 bits, a virtual address of 32, a physical address of 36, a
-- value of 64.
abbrev pub fits_its_fields : Event → Bool
fits_its_fields event =
    nat_lt event.tick (2 ^ 32) && (nat_lt event.va (2 ^ 32) && (nat_lt event.pa (2 ^ 36) && nat_lt event.value (2 ^ 64)))

-- The fields are those of the event's kind. A fetch takes 4 bytes, a load or a store 1 to 8. A beat has 32 bytes, and
-- neither an attribute, a quiet state, a virtual address nor a value. A CACHE has an operation's code of 5 bits and a
-- TagLo of 32.
abbrev pub has_fields : EventKind → Event → Bool
has_fields Fetch event = event.size == 4
has_fields Load event = nat_le 1 event.size && nat_le event.size 8
has_fields Store event = nat_le 1 event.size && nat_le event.size 8
has_fields BeatIn event = not event.cached && (not event.quiet && ((event.va == 0) && ((event.size == 32) && (event.value == 0))))
has_fields BeatOut event = not event.cached && (not event.quiet && ((event.va == 0) && ((event.size == 32) && (event.value == 0))))
has_fields Cache event = nat_lt event.size 32 && nat_lt event.value (2 ^ 32)

-- But for a beat, the physical address has the place in its page that the virtual one has.
abbrev pub keeps_its_page : Event → Bool
keeps_its_page event = is_beat event.kind || (event.pa % 4096 == event.va % 4096)

-- A beat, and a fetch, load or store through the caches, names an address in RAM.
abbrev pub is_in_ram : Event → Bool
is_in_ram event = not (reaches_ram event.kind event.cached) || nat_lt event.pa ram_size

-- A beat begins at a multiple of 32.
abbrev pub is_whole_beat : Event → Bool
is_whole_beat event = not (is_beat event.kind) || (event.pa % 32 == 0)

-- A fetch is of an aligned word.
abbrev pub is_whole_word : Event → Bool
is_whole_word event = not (is_fetch event.kind) || (event.pa % 4 == 0)

-- A load or a store lies in one aligned doubleword.
abbrev pub is_in_doubleword : Event → Bool
is_in_doubleword event = not (is_data event.kind) || nat_le (event.pa % 8 + event.size) 8

-- the events of the grammar
abbrev pub is_event : Event → Bool
is_event event =
    fits_its_fields event && (has_fields event.kind event && (keeps_its_page event && (is_in_ram event
    && (is_whole_beat event && (is_whole_word event && is_in_doubleword event)))))

-- an event of the grammar
pub record IsEvent (event : Event) : Type 0 where
  pub is : is_event event ≡ true
