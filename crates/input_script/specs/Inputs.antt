-- The inputs of a run: what is kept of the list of them.
-- Source: this project's own format of scripts.
use Rattle.std.specs.Prelude.{ℕ, ◌≤◌, Bool, true, false, List, count_by, All}
use Rattle.std.specs.List.Sorted.{IsNonDecreasingBy}
use Rattle.input_script.specs.declared.inputs.What.{What}
use Rattle.input_script.specs.declared.inputs.What.TheVariants.{Key, Irq}
use Rattle.input_script.specs.declared.inputs.Input.{Input}

-- an input is a byte for the console
abbrev pub is_key : What → Bool
is_key (Key byte) = true
is_key what = false

-- how many of the inputs are bytes for the console
abbrev pub keys_of : List Input → ℕ
keys_of inputs = count_by (λ (input : Input). is_key input.what) inputs

-- an input names no other interrupt line than 4, 5 and 6
abbrev pub NamesALine : What → Type 0
NamesALine (Irq line level) = (4 ≤ line) × (line ≤ 6)
NamesALine what = Unit {0}

-- no input comes after this tick
abbrev pub AreUpTo : ℕ → List Input → Type 0
AreUpTo tick inputs = All (λ (input : Input). input.tick ≤ tick) inputs

-- The inputs of a script: an input's tick is not below the tick of any input before it, and the interrupt lines that they
-- name are 4 to 6.
pub record IsScript (inputs : List Input) : Type 0 where
  pub ordered : IsNonDecreasingBy (λ (input : Input). input.tick) inputs
  pub lines : All (λ (input : Input). NamesALine input.what) inputs
