-- Whole texts, computed by the definitions alone.
use Rattle.std.proofs.Common.{◌≡◌, ℕ, true, [], ◌∷◌, refl}
use Rattle.std.specs.Prelude.{codes}
use Rattle.input_script.specs.declared.inputs.What.{What}
use Rattle.input_script.specs.declared.inputs.What.TheVariants.{Key, Irq, Hold, Go}
use Rattle.input_script.specs.declared.inputs.Input.{Input}
use Rattle.input_script.specs.declared.faults.ScriptWhy.TheVariants as why
use Rattle.input_script.specs.Grammar.{Inputs, Bad, fault_of, read_line, script_text}

abbrev at : ℕ → What → Input
at tick what = record { tick = tick; what = what }

a_tick_that_falls : script_text (codes "5 hold\n4 go") ≡ Bad 2 why.Order
unfolding script_text fault_of read_line
a_tick_that_falls = refl

no_such_interrupt_line : script_text (codes "1 irq 3 1") ≡ Bad 1 why.Number
unfolding script_text fault_of read_line
no_such_interrupt_line = refl

half_a_pair : script_text (codes "1 key 4") ≡ Bad 1 why.Line
unfolding script_text fault_of read_line
half_a_pair = refl

one_key : script_text (codes "0 key 41") ≡ Inputs (at 0 (Key 0x41) ∷ [])
unfolding script_text fault_of read_line
one_key = refl

every_row : script_text (codes "# all\n1 key 0Dfa\n\n1 irq 6 1\n4294967295 hold\n4294967295 go\n") ≡ Inputs (at 1 (Key 0x0d) ∷ at 1 (Key 0xfa) ∷ at 1 (Irq 6 true) ∷ at 4294967295 Hold ∷ at 4294967295 Go ∷ [])
unfolding script_text fault_of read_line
every_row = refl

an_empty_text : script_text (codes "") ≡ Inputs []
unfolding script_text fault_of read_line
an_empty_text = refl

a_lone_carriage_return : script_text (codes "\r") ≡ Inputs []
unfolding script_text fault_of read_line
a_lone_carriage_return = refl

two_carriage_returns : script_text (codes "\r\r") ≡ Bad 1 why.Line
unfolding script_text fault_of read_line
two_carriage_returns = refl

a_carriage_return_at_the_end : script_text (codes "7 go\r") ≡ Inputs (at 7 Go ∷ [])
unfolding script_text fault_of read_line
a_carriage_return_at_the_end = refl

a_blank_before_a_line : script_text (codes " 5 hold") ≡ Bad 1 why.Line
unfolding script_text fault_of read_line
a_blank_before_a_line = refl

a_blank_after_a_line : script_text (codes "5 hold ") ≡ Bad 1 why.Line
unfolding script_text fault_of read_line
a_blank_after_a_line = refl

an_empty_tick : script_text (codes " key 41") ≡ Bad 1 why.Number
unfolding script_text fault_of read_line
an_empty_tick = refl

no_row_before_no_number : script_text (codes "x hold 1") ≡ Bad 1 why.Line
unfolding script_text fault_of read_line
no_row_before_no_number = refl

no_number_before_a_tick_that_falls : script_text (codes "5 hold\n4 irq 4 2") ≡ Bad 2 why.Number
unfolding script_text fault_of read_line
no_number_before_a_tick_that_falls = refl

the_first_bad_line : script_text (codes "1 go\n2 stay\n0 go") ≡ Bad 2 why.Line
unfolding script_text fault_of read_line
the_first_bad_line = refl
