use Rattle.std.proofs.Common.{◌≡◌, ◌+◌, take, drop}
use Rattle.std.specs.List.{prefix_len}
use Rattle.dma_devices.specs.RecordedInputs.{is_due, after_inputs, CanCome}
use Rattle.dma_devices.proofs.recorded.apply_due.Given as goal

abbrev pub invariant-loop-count : goal.invariant-loop-count
invariant-loop-count l =
    record {
      came : l.devices ≡ after_inputs l.initial.devices (take l.count l.pending);
      passed : prefix_len (is_due l.tick) l.pending ≡ l.count + prefix_len (is_due l.tick) (drop l.count l.pending);
      can : CanCome l.devices.console.room (drop l.count l.pending);
    }
