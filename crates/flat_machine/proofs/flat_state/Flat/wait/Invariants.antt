use Rattle.std.proofs.Common.{◌≡◌, ◌+◌, ◌-◌}
use Rattle.flat_machine.specs.Pause.{pause_ticks}
use Rattle.flat_machine.proofs.flat_state.Flat.wait.Given as goal

-- what is left of the ticks comes to what all of them come to
abbrev pub invariant-loop-step : goal.invariant-loop-step
invariant-loop-step l =
    (pause_ticks (l.ticks - l.step) l.self ≡ pause_ticks l.ticks l.initial.self)
    × (l.self.cpu.ticks ≡ l.initial.self.cpu.ticks + l.step)
    × (l.self.cpu.halt ≡ l.initial.self.cpu.halt)
