-- How a shelf in memory stands, and what each call does to it.
use Rattle.std.specs.Prelude.{ℕ, Bool, true, false, ◌||◌, ◌-◌, List, [], is_none, nat_lt, Option, Some, None, if◌then◌else◌}
use Rattle.std.specs.FinMap.{get, insert}
use Rattle.r4_ports.specs.Told.{Files, Call, fetch_of, put_of}
use Rattle.r4_ports.specs.CallLog.{asked_after}
use Rattle.r4_ports.specs.PutLog.{PutLogState, put_size, files_after}
use Rattle.r4_ports.specs.Numbered.{counted, counted_if, is_listed}

-- The bytes that stand under each name, and whether they are told; the calls so far, where they are told; what is
-- left of the room for puts; the numbers of the calls that fail, and the number of the next call; and how many
-- fetches and puts have failed.
pub record ShelfState : Type 0 where
  pub files : Files
  pub is_told : Bool
  pub asked : Option (List Call)
  pub left : ℕ
  pub failing : List ℕ
  pub calls : ℕ
  pub fetch_faults : ℕ
  pub put_faults : ℕ

-- a shelf before its first call
abbrev pub new_shelf : Files → ℕ → List ℕ → ShelfState
new_shelf files room failing = record {
  files = files;
  is_told = true;
  asked = Some [];
  left = room;
  failing = failing;
  calls = 0;
  fetch_faults = 0;
  put_faults = 0;
}

-- the files, where they are told
abbrev pub held_by : ShelfState → Option Files
held_by shelf = if shelf.is_told then Some shelf.files else None

-- a fetch fails where its number is listed, or the name is missing
abbrev pub fetch_fails : ShelfState → List ℕ → Bool
fetch_fails shelf name = is_listed shelf.failing shelf.calls || is_none (get shelf.files name)

-- a put fails where its number is listed, or its name and bytes, with 16 bytes more, do not fit in what is left
abbrev pub put_fails : ShelfState → List ℕ → List ℕ → Bool
put_fails shelf name bytes = is_listed shelf.failing shelf.calls || nat_lt shelf.left (put_size name bytes)

-- the shelf after a call, whatever became of it: the call is counted, and listed where it fits
abbrev pub after_call : ShelfState → Call → ShelfState
after_call shelf call = record shelf { calls = counted shelf.calls; asked = asked_after shelf.asked call }

-- the shelf after a fetch
abbrev pub after_fetch : ShelfState → List ℕ → ShelfState
after_fetch shelf name = record (after_call shelf (fetch_of name)) { fetch_faults = counted_if (fetch_fails shelf name) shelf.fetch_faults }

-- the shelf after a put that failed: its files are as before, but told no more
abbrev pub after_failed_put : ShelfState → List ℕ → ShelfState
after_failed_put shelf name = record (after_call shelf (put_of name)) { is_told = false; put_faults = counted shelf.put_faults }

-- the shelf when a name has been set to these bytes
abbrev pub after_keeping : ShelfState → List ℕ → List ℕ → ShelfState
after_keeping shelf name bytes = record shelf { files = insert shelf.files name bytes; left = shelf.left - put_size name bytes }

-- the shelf after a put
abbrev pub after_put : ShelfState → List ℕ → List ℕ → ShelfState
after_put shelf name bytes =
    if put_fails shelf name bytes then after_failed_put shelf name
    else after_keeping (after_call shelf (put_of name)) name bytes

-- a shelf that was made of these files and has carried out these puts
abbrev pub shelf_state : Files → PutLogState → Bool → Option (List Call) → List ℕ → ℕ → ℕ → ℕ → ShelfState
shelf_state files log is_told asked failing calls fetch_faults put_faults = record {
  files = files_after files log.puts;
  is_told = is_told;
  asked = asked;
  left = log.left;
  failing = failing;
  calls = calls;
  fetch_faults = fetch_faults;
  put_faults = put_faults;
}
