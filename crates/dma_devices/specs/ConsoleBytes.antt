-- The console: the bytes that came to it and wait to be read, and those that it has printed.
-- Source: this project's own device.
use Rattle.std.specs.Prelude.{ℕ, ◌+◌, ◌-◌, ◌*◌, Bool, nat_lt, nat_le, List, [], ◌∷◌, ◌++◌, length, if◌then◌else◌}

-- how many bytes of output are kept
abbrev pub output_room : ℕ
output_room = 1048576

-- the console at a moment
pub record ConsoleState : Type 0 where
  -- the bytes that came and were not read yet, the first one first
  pub waiting : List ℕ
  -- how many more bytes may come
  pub room : ℕ
  -- the bytes that were printed
  pub printed : List ℕ

-- a console to which nothing came yet and that has printed nothing
abbrev pub new_console : ℕ → ConsoleState
new_console keys = record { waiting = []; room = keys; printed = [] }

-- the console after a byte came to it
abbrev pub with_key : ConsoleState → ℕ → ConsoleState
with_key console byte = record console { waiting = console.waiting ++ byte ∷ []; room = console.room - 1 }

-- whether the output is full
abbrev pub is_full : ConsoleState → Bool
is_full console = nat_le output_room (length console.printed)

-- the console after it printed a byte; one that finds the output full is lost
abbrev pub with_printed : ConsoleState → ℕ → ConsoleState
with_printed console byte = if is_full console then console else record console { printed = console.printed ++ byte ∷ [] }

-- whether a byte waits
abbrev pub has_waiting : ConsoleState → Bool
has_waiting console = nat_lt 0 (length console.waiting)

-- what a read takes of the waiting bytes: the first one, or ffffffff where none waits
abbrev pub first_waiting : List ℕ → ℕ
first_waiting [] = 0xffffffff
first_waiting (byte ∷ rest) = byte

-- the waiting bytes after a read
abbrev pub still_waiting : List ℕ → List ℕ
still_waiting [] = []
still_waiting (byte ∷ rest) = rest

-- the console after a read of its waiting bytes
abbrev pub after_taking : ConsoleState → ConsoleState
after_taking console = record console { waiting = still_waiting console.waiting }

-- a flag as a number
abbrev pub bit : Bool → ℕ
bit flag = if flag then 1 else 0

-- the console's status: bit 0 says that a byte waits, bit 1 that the output is full
abbrev pub console_status : ConsoleState → ℕ
console_status console = bit (has_waiting console) + 2 * bit (is_full console)
