-- The command as the program holds it.
use Rattle.std.specs.Prelude.{ℕ, List, Option, Some, None}
use Rattle.std.specs.Borrow.{Bor}
use Rattle.r4k_top.specs.declared.commands.Command.{Command}
use Rattle.r4k_top.specs.declared.commands.Command.TheVariants.{Run, Judge, Assemble, Disassemble, Make}
use Rattle.r4k_top.specs.declared.plan.Plan.{Plan}
use Rattle.r4k_top.specs.Command as law

-- a name, where one is given
abbrev pub name_shown : Option (Bor (List ℕ)) → Option (List ℕ)
name_shown None = None
name_shown (Some name) = Some name.now

-- a plan as it is defined
abbrev pub plan_shown : Plan → law.Plan
plan_shown plan = record {
  telling = plan.telling;
  shape = plan.shape;
  image = plan.image.now;
  script = name_shown plan.script;
  disk = name_shown plan.disk;
  steps = plan.steps;
}

-- a command as it is defined
abbrev pub command_shown : Command → law.Command
command_shown (Run plan) = law.Run (plan_shown plan)
command_shown (Judge inquiry) = law.Judge inquiry.shape inquiry.trace.now
command_shown (Assemble source out) = law.Assemble source.now out.now
command_shown (Disassemble image) = law.Disassemble image.now
command_shown (Make load) = law.Make load.number load.count load.out.now
