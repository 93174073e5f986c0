-- The calls made of a shelf, told while they fit.
use Rattle.std.specs.Prelude.{ℕ, Bool, ◌+◌, List, [], ◌∷◌, ◌++◌, map, length, sum_by, slice_get, nat_le, Option, Some, None, if◌then◌else◌}
use Rattle.r4_ports.specs.Told.{Call}
use Rattle.r4_ports.specs.Spans.{text_at, Within}
use Rattle.r4_ports.specs.declared.call_log.CallRecord.{CallRecord}

-- the room that calls take: their names, with 8 bytes more per call
abbrev pub calls_size : List Call → ℕ
calls_size calls = sum_by (λ call. length call.name + 8) calls

-- the calls with one more, told while they fit in 4096 bytes
abbrev pub asked_after : Option (List Call) → Call → Option (List Call)
asked_after None call = None
asked_after (Some calls) call = if nat_le (calls_size (calls ++ call ∷ [])) 4096 then Some (calls ++ call ∷ []) else None

-- the call of this number, where the calls are told and so many were made
abbrev pub told_call : Option (List Call) → ℕ → Option Call
told_call None number = None
told_call (Some calls) number = slice_get calls number

-- a call that is recorded in a buffer
abbrev pub call_at : List ℕ → CallRecord → Call
call_at buffer call = record { kind = call.kind; name = text_at buffer call.name }

-- the calls that are recorded in a buffer, where they are told
abbrev pub call_log : List ℕ → List CallRecord → Bool → Option (List Call)
call_log buffer records is_told = if is_told then Some (map (call_at buffer) records) else None

-- all recorded calls lie within so many bytes
abbrev pub AllCallsWithin : ℕ → List CallRecord → Type 0
AllCallsWithin size [] = Unit {0}
AllCallsWithin size (call ∷ calls) = Within size call.name × AllCallsWithin size calls
