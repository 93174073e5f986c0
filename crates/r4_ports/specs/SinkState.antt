-- How a sink in memory stands, and what a write and a flush do to it.
use Rattle.std.specs.Prelude.{ℕ, Bool, false, not, ◌||◌, ◌+◌, ◌-◌, ◌/◌, List, ◌++◌, length, take, min, nat_lt, if◌then◌else◌}
use Rattle.r4_ports.specs.Numbered.{counted, counted_if, is_listed}

-- What was written, the most bytes that it keeps, and whether all that was written has gone out; the numbers of the calls
-- that fail, the number of the next call, and how many have failed.
pub record SinkState : Type 0 where
  pub written : List ℕ
  pub room : ℕ
  pub is_flushed : Bool
  pub failing : List ℕ
  pub calls : ℕ
  pub faults : ℕ

-- a sink in memory by its parts
abbrev pub sink_state : List ℕ → ℕ → Bool → List ℕ → ℕ → ℕ → SinkState
sink_state written room is_flushed failing calls faults = record {
  written = written;
  room = room;
  is_flushed = is_flushed;
  failing = failing;
  calls = calls;
  faults = faults;
}

-- a write fails where its number is listed, or its piece goes beyond the room
abbrev pub write_fails : SinkState → List ℕ → Bool
write_fails sink piece = is_listed sink.failing sink.calls || nat_lt sink.room (length sink.written + length piece)

-- what a write appends: its piece, or the first half of it where its number is listed, as far as the room goes
abbrev pub part_written : SinkState → List ℕ → List ℕ
part_written sink piece =
    let going = if is_listed sink.failing sink.calls then length piece / 2 else length piece in
    take (min going (sink.room - length sink.written)) piece

-- the sink after a write
abbrev pub after_write : SinkState → List ℕ → SinkState
after_write sink piece = record sink {
  written = sink.written ++ part_written sink piece;
  is_flushed = false;
  calls = counted sink.calls;
  faults = counted_if (write_fails sink piece) sink.faults;
}

-- a flush fails where its number is listed
abbrev pub flush_fails : SinkState → Bool
flush_fails sink = is_listed sink.failing sink.calls

-- the sink after a flush: all has gone out unless it failed, and nothing of what was written is lost
abbrev pub after_flush : SinkState → SinkState
after_flush sink = record sink {
  is_flushed = not (flush_fails sink);
  calls = counted sink.calls;
  faults = counted_if (flush_fails sink) sink.faults;
}
