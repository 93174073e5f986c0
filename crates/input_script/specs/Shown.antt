-- What the values of the code stand for in the grammar.
use Rattle.std.specs.Prelude.{◌≡◌, ℕ, nat_lt, true, false, if◌then◌else◌, List, [], ◌∷◌, ◌++◌, length, map, Option, Some, None, Result, Ok, Err}
use Rattle.std.specs.List.{list_all}
use Rattle.std.specs.Char.{is_ascii_hexdigit}
use Rattle.input_script.specs.declared.inputs.What.{What}
use Rattle.input_script.specs.declared.inputs.What.TheVariants.{Key}
use Rattle.input_script.specs.declared.inputs.Input.{Input}
use Rattle.input_script.specs.declared.faults.ScriptWhy.{ScriptWhy}
use Rattle.input_script.specs.declared.faults.ScriptWhy.TheVariants as why
use Rattle.input_script.specs.declared.rows.Deed.{Deed}
use Rattle.input_script.specs.declared.rows.Deed.TheVariants.{Keys, One}
use Rattle.input_script.specs.declared.lines.Said.{Said}
use Rattle.input_script.specs.Inputs.{NamesALine, is_key}
use Rattle.input_script.specs.Grammar.{Row, whats_of, bytes_of_pairs, Reading, Skipped, Says, Refused, inputs_in}

-- what comes by a deed
abbrev pub whats_shown : Deed → List What
whats_shown (Keys digits) = map Key (bytes_of_pairs digits.now)
whats_shown (One what) = what ∷ []

-- a deed can be carried out: its digits are hexadecimal, its one input names a line that there is and is no key
abbrev pub IsSound : Deed → Type 0
IsSound (Keys digits) = list_all is_ascii_hexdigit digits.now ≡ true
IsSound (One what) = NamesALine what × (is_key what ≡ false)

-- how many digits a deed has
abbrev pub digits_in : Deed → ℕ
digits_in (Keys digits) = length digits.now
digits_in (One what) = 0

-- the same of a line, if it lets something come
abbrev pub digits_said : Option Said → ℕ
digits_said (Some said) = digits_in said.deed
digits_said None = 0

-- a row that is matched, by what it lets come
abbrev pub matched : Option (List What) → Result (List What) ScriptWhy
matched (Some whats) = Ok whats
matched None = Err why.Number

-- what the words after the first come to, by the row that they match
abbrev pub row_result : Option Row → Result (List What) ScriptWhy
row_result (Some row) = matched (whats_of row)
row_result None = Err why.Line

-- the same of the code's answer
abbrev pub deed_shown : Result Deed ScriptWhy → Result (List What) ScriptWhy
deed_shown (Ok deed) = Ok (whats_shown deed)
deed_shown (Err reason) = Err reason

-- a line that is not skipped, as the code has read it
abbrev pub said_shown : Result Said ScriptWhy → Reading
said_shown (Ok said) = Says said.tick (whats_shown said.deed)
said_shown (Err reason) = Refused reason

-- a line as the code has read it
abbrev pub reading_shown : Result (Option Said) ScriptWhy → Reading
reading_shown (Ok None) = Skipped
reading_shown (Ok (Some said)) = Says said.tick (whats_shown said.deed)
reading_shown (Err reason) = Refused reason

-- the reason for which a line is bad after lines of which this is the latest tick
abbrev pub fault_by : ℕ → Reading → Option ScriptWhy
fault_by latest Skipped = None
fault_by latest (Says tick whats) = if nat_lt tick latest then Some why.Order else None
fault_by latest (Refused reason) = Some reason

-- the latest tick after a line
abbrev pub latest_after : ℕ → Reading → ℕ
latest_after latest (Says tick whats) = tick
latest_after latest reading = latest

-- a line was taken: it is not bad, this is the latest tick after it, and its inputs were put after the others; or it was
-- not, and this is the first reason for which it is bad
abbrev pub IsTaken : ℕ → Reading → List Input → List Input → Result ℕ ScriptWhy → Type 0
IsTaken latest reading old new (Ok next) =
    (fault_by latest reading ≡ None) × (next ≡ latest_after latest reading) × (new ≡ old ++ inputs_in reading)
IsTaken latest reading old new (Err reason) = fault_by latest reading ≡ Some reason
