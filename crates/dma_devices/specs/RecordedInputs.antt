-- The devices with the inputs that are recorded for them and still to come.
-- Source: this project's own format of scripts.
use Rattle.std.specs.Prelude.{ℕ, zero, suc, ◌==◌, ◌≤◌, Bool, nat_le, List, drop, filter, take_while, All}
use Rattle.std.specs.List.{fold, prefix_len}
use Rattle.input_script.specs.declared.inputs.Input.{Input}
use Rattle.input_script.specs.Inputs.{NamesALine, keys_of}
use Rattle.dma_devices.specs.DeviceSet.{DeviceState, devices_at_reset, after_input}

-- the devices and the inputs to come, at a moment
pub record RecordedState : Type 0 where
  pub devices : DeviceState
  pub pending : List Input

-- the devices at reset, with a whole script to come
abbrev pub recorded_at_reset : List ℕ → List Input → ℕ → RecordedState
recorded_at_reset bytes script entry = record { devices = devices_at_reset bytes (keys_of script) entry; pending = script }

-- an input comes at a tick or before it
abbrev pub is_due : ℕ → Input → Bool
is_due tick input = nat_le input.tick tick

-- the inputs up to the first one of a later tick
abbrev pub due : ℕ → List Input → List Input
due tick pending = take_while (is_due tick) pending

-- the inputs from the first one of a later tick on
abbrev pub still_pending : ℕ → List Input → List Input
still_pending tick pending = drop (prefix_len (is_due tick) pending) pending

-- the devices after some inputs, in their order
abbrev pub after_inputs : DeviceState → List Input → DeviceState
after_inputs devices inputs = fold (λ devices (input : Input). after_input devices input.what) devices inputs

-- the inputs up to the first one of a later tick come
unfoldable pub applied : RecordedState → ℕ → RecordedState
applied recorded tick =
    record { devices = after_inputs recorded.devices (due tick recorded.pending); pending = still_pending tick recorded.pending }

-- what is kept of the inputs to come: there is room for their bytes, and their interrupt lines are 4 to 6
pub record CanCome (room : ℕ) (pending : List Input) : Type 0 where
  pub fits : keys_of pending ≤ room
  pub lines : All (λ (input : Input). NamesALine input.what) pending

-- ---- by ticks

-- the inputs of a script that are recorded for a tick, in script order
abbrev pub inputs_of_tick : ℕ → List Input → List Input
inputs_of_tick tick script = filter (λ (input : Input). input.tick == tick) script

-- the inputs of a script from a tick on, in script order
abbrev pub inputs_from : ℕ → List Input → List Input
inputs_from tick script = filter (λ (input : Input). nat_le tick input.tick) script

-- the inputs of a script that are to come after those of the ticks 0, 1, .. below one were asked for, in this order
unfoldable pub pending_at : ℕ → List Input → List Input
pending_at zero script = script
pending_at (suc tick) script = still_pending tick (pending_at tick script)
