use Rattle.std.proofs.Common.{◌≡◌, ◌+◌, ◌-◌, ℕ}
use Rattle.mips3_exec.specs.Fixed.{HasFixed}
use Rattle.mips3_exec.specs.Run.{run_of}
use Rattle.mips3_exec.proofs.ticking.make_run.Given as goal

-- what is left of the run comes to what the whole run comes to, and what is fixed was kept
abbrev pub invariant-loop-step : goal.invariant-loop-step
invariant-loop-step g l =
    (run_of g.M.MemorySystem.ask_gives (l.steps - l.step) (record { cpu = l.cpu; memory = l.memory })
    ≡ run_of g.M.MemorySystem.ask_gives l.steps (record { cpu = l.initial.cpu; memory = l.initial.memory }))
    × (l.cpu.ticks ≡ l.initial.cpu.ticks + l.step)
    × ((config : ℕ) → HasFixed config l.initial.cpu → HasFixed config l.cpu)
