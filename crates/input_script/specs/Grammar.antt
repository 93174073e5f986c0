-- The grammar of a script: what each line of a text says, which lines are bad and why, and the inputs of the whole text.
-- The text has lines that end with a newline; the last may lack it. One carriage return at a line's end is dropped. A line
-- that is empty or begins with # is skipped. Every other line is cut at each single blank, and says one of
--     TICK key HEX    the bytes, 1 or more pairs of hexadecimal digits in either case, join the console's input
--     TICK irq N L    the interrupt line N, 4 to 6, takes the level L, 0 or 1
--     TICK hold       the disk makes no beats from this tick on
--     TICK go         it makes beats again
-- or is bad: for Line where its words after the first match no row; else for Number where TICK is no decimal text, N is
-- not 4 to 6 or L is not 0 or 1; else for Order where TICK is below that of an earlier line.
-- Source: this project's own format.
use Rattle.std.specs.Prelude.{◌≡◌, ℕ, ◌+◌, ◌*◌, ◌%◌, ◌<◌, ◌==◌, nat_lt, Bool, true, false, ◌&&◌, if◌then◌else◌, List, [], ◌∷◌, length, take, map, slice_get, Option, Some, None, option_map, option_and_then, codes, bytes_eq}
use Rattle.std.specs.List.{slice_split, list_all, list_any, filter_map, flat_map, range_with_len}
use Rattle.std.specs.Str.Lines.{strip_carriage_return}
use Rattle.std.specs.Char.{is_ascii_hexdigit}
use Rattle.r4_words.specs.Texts.{read_dec, value_of_digit}
use Rattle.r4_words.specs.Ascii.{newline, blank, hash}
use Rattle.input_script.specs.declared.inputs.What.{What}
use Rattle.input_script.specs.declared.inputs.What.TheVariants.{Key, Irq, Hold, Go}
use Rattle.input_script.specs.declared.inputs.Input.{Input}
use Rattle.input_script.specs.declared.faults.ScriptWhy.{ScriptWhy}
use Rattle.input_script.specs.declared.faults.ScriptWhy.TheVariants as why
use Rattle.input_script.specs.declared.faults.ScriptFault.{ScriptFault}
use Rattle.input_script.specs.declared.faults.ScriptFault.TheVariants as fault

-- LINES AND WORDS

-- the parts of a text that the bytes of a code separate: one part more than there are such bytes
abbrev pub parts_of : ℕ → List ℕ → List (List ℕ)
parts_of code text = slice_split (λ byte. byte == code) text

-- The lines of a text: its parts between newlines. After a newline at the end stands one that is empty, and skipped.
abbrev pub lines_of : List ℕ → List (List ℕ)
lines_of text = parts_of newline text

-- the words of a line: its parts between blanks, of which two side by side have an empty word between them
abbrev pub words_of : List ℕ → List (List ℕ)
words_of line = parts_of blank line

-- a line that is skipped: an empty one, or one that begins with #
abbrev pub is_skipped : List ℕ → Bool
is_skipped [] = true
is_skipped (code ∷ line) = code == hash

-- ROWS

-- The words after the first, by the row that they match.
pub data Row : Type 0 where
  -- `key` and the digits
  KeyRow : List ℕ → Row
  -- `irq`, the line and the level
  IrqRow : List ℕ → List ℕ → Row
  -- `hold`
  HoldRow : Row
  -- `go`
  GoRow : Row

-- 1 or more pairs of hexadecimal digits, in either case
abbrev pub is_pairs : List ℕ → Bool
is_pairs digits = nat_lt 0 (length digits) && (length digits % 2 == 0) && list_all is_ascii_hexdigit digits

-- the byte of each pair of digits
abbrev pub bytes_of_pairs : List ℕ → List ℕ
bytes_of_pairs (high ∷ low ∷ digits) = (value_of_digit high * 16 + value_of_digit low) ∷ bytes_of_pairs digits
bytes_of_pairs digits = []

-- the row that the words after the first match, if they match one
abbrev pub row_of : List (List ℕ) → Option Row
row_of (name ∷ []) =
    if bytes_eq name (codes "hold") then Some HoldRow else if bytes_eq name (codes "go") then Some GoRow else None
row_of (name ∷ digits ∷ []) = if bytes_eq name (codes "key") && is_pairs digits then Some (KeyRow digits) else None
row_of (name ∷ line ∷ level ∷ []) = if bytes_eq name (codes "irq") then Some (IrqRow line level) else None
row_of words = None

-- NUMBERS

-- the interrupt line that a word names
abbrev pub line_named : List ℕ → Option ℕ
line_named word =
    if bytes_eq word (codes "4") then Some 4
    else if bytes_eq word (codes "5") then Some 5
    else if bytes_eq word (codes "6") then Some 6
    else None

-- the level that a word names
abbrev pub level_named : List ℕ → Option Bool
level_named word =
    if bytes_eq word (codes "0") then Some false else if bytes_eq word (codes "1") then Some true else None

-- a level of a line
abbrev pub irq_of : Option ℕ → Option Bool → Option (List What)
irq_of (Some line) (Some level) = Some (Irq line level ∷ [])
irq_of line level = None

-- what a row lets come; nothing where its line or its level is none
abbrev pub whats_of : Row → Option (List What)
whats_of (KeyRow digits) = Some (map Key (bytes_of_pairs digits))
whats_of (IrqRow line level) = irq_of (line_named line) (level_named level)
whats_of HoldRow = Some (Hold ∷ [])
whats_of GoRow = Some (Go ∷ [])

-- LINES AS THEY ARE READ

-- A line as it is read, whatever stands before it.
pub data Reading : Type 0 where
  -- it is skipped
  Skipped : Reading
  -- at this tick comes this
  Says : ℕ → List What → Reading
  -- it is bad for this reason
  Refused : ScriptWhy → Reading

-- a line that matches a row, by its numbers
abbrev pub reading_by : Option ℕ → Option (List What) → Reading
reading_by (Some tick) (Some whats) = Says tick whats
reading_by tick whats = Refused why.Number

-- a line, by its first word and the row that the others match
abbrev pub reading_in : List ℕ → Option Row → Reading
reading_in tick (Some row) = reading_by (read_dec tick) (whats_of row)
reading_in tick None = Refused why.Line

-- a line, by its words; each line has one word at least
abbrev pub read_words : List (List ℕ) → Reading
read_words [] = Refused why.Line
read_words (tick ∷ others) = reading_in tick (row_of others)

-- a line that has lost its carriage return
abbrev pub read_stripped : List ℕ → Reading
read_stripped line = if is_skipped line then Skipped else read_words (words_of line)

-- A line as it is read.
unfoldable pub read_line : List ℕ → Reading
read_line line = read_stripped (strip_carriage_return line)

-- all lines of a text as they are read
abbrev pub readings_of : List ℕ → List Reading
readings_of text = map read_line (lines_of text)

-- BAD LINES

-- the tick of a line that lets something come
abbrev pub tick_in : Reading → Option ℕ
tick_in (Says tick whats) = Some tick
tick_in reading = None

-- the ticks of lines
abbrev pub ticks_of : List Reading → List ℕ
ticks_of readings = filter_map tick_in readings

-- the first reason for which a line is bad after these lines, if it is bad
abbrev pub fault_after : List Reading → Reading → Option ScriptWhy
fault_after before Skipped = None
fault_after before (Refused reason) = Some reason
fault_after before (Says tick whats) =
    if list_any (λ earlier. nat_lt tick earlier) (ticks_of before) then Some why.Order else None

-- The first reason for which the line that has n lines before it is bad. None where it is not bad, or where there is no
-- such line.
unfoldable pub fault_of : List Reading → ℕ → Option ScriptWhy
fault_of readings n = option_and_then (fault_after (take n readings)) (slice_get readings n)

-- No line of a text is bad.
abbrev pub HasNoBadLine : List ℕ → Type 0
HasNoBadLine text = (n : ℕ) → fault_of (readings_of text) n ≡ None

-- The line of this number, counted from 1, is bad for this reason first, and no line before it is bad.
pub record IsFirstBad (readings : List Reading) (number : ℕ) (reason : ScriptWhy) : Type 0 where
  -- how many lines stand before it
  pub before : ℕ
  pub counted : number ≡ before + 1
  pub has : fault_of readings before ≡ Some reason
  pub none_before : (n : ℕ) → n < before → fault_of readings n ≡ None

-- INPUTS

-- what comes at a tick, as inputs
abbrev pub inputs_at : ℕ → List What → List Input
inputs_at tick whats = map (λ what. record { tick = tick; what = what }) whats

-- the inputs of a line
abbrev pub inputs_in : Reading → List Input
inputs_in (Says tick whats) = inputs_at tick whats
inputs_in reading = []

-- the inputs of lines, in their order
abbrev pub inputs_of : List Reading → List Input
inputs_of readings = flat_map inputs_in readings

-- THE WHOLE TEXT

-- What a text says.
pub data ScriptText : Type 0 where
  -- the inputs
  Inputs : List Input → ScriptText
  -- the number of the first bad line, from 1, and the first reason for which it is bad
  Bad : ℕ → ScriptWhy → ScriptText

-- the number of the line that has n lines before it, and the first reason for which it is bad, if it is bad
abbrev pub numbered_fault : List Reading → ℕ → Option (ℕ × ScriptWhy)
numbered_fault readings n = option_map (λ reason. (n + 1, reason)) (fault_of readings n)

-- the bad lines, each with its number and its reason, in their order
abbrev pub bad_lines : List Reading → List (ℕ × ScriptWhy)
bad_lines readings = filter_map (numbered_fault readings) (range_with_len 0 (length readings))

-- by the bad lines that there are
abbrev pub text_by : List Reading → List (ℕ × ScriptWhy) → ScriptText
text_by readings [] = Inputs (inputs_of readings)
text_by readings (bad ∷ later) = Bad bad.0 bad.1

-- the text of lines as they are read
abbrev pub text_of : List Reading → ScriptText
text_of readings = text_by readings (bad_lines readings)

-- What a text says: the inputs of all its lines, or its first bad line.
unfoldable pub script_text : List ℕ → ScriptText
script_text text = text_of (readings_of text)

-- A text has the first bad line that a fault names; want of memory says nothing of it.
abbrev pub IsFirstBadBy : List ℕ → ScriptFault → Type 0
IsFirstBadBy text (fault.Bad line reason) = IsFirstBad (readings_of text) line reason
IsFirstBadBy text fault.Memory = Unit {0}
