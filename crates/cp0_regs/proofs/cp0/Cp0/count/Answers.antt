use Rattle.std.proofs.Common.{◌∙◌, ap}
use Rattle.cp0_regs.specs.Fields.{device_lines}
use Rattle.cp0_regs.specs.State.{value_of}
use Rattle.cp0_regs.proofs.DeviceLines.{count_leaves_lines, timer_leaves_lines, random_leaves_lines}
use Rattle.cp0_regs.proofs.cp0.Cp0.count.Goals as goal

pub returns-clause-lines : goal.returns-clause-lines
returns-clause-lines c =
    ap (λ cp0. value_of cp0 device_lines) c.lower_random.ensures.lowered ∙ random_leaves_lines c.compare_timer.new.self c.args.wired
    ∙ ap (λ cp0. value_of cp0 device_lines) c.compare_timer.ensures.compared ∙ timer_leaves_lines c.grow_count.new.self
    ∙ ap (λ cp0. value_of cp0 device_lines) c.grow_count.ensures.counted ∙ count_leaves_lines c.args.self.now
