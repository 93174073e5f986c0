-- The command that the words give, read by position. The words are this project's own.
use Rattle.std.specs.Prelude.{ℕ, ◌==◌, Bool, List, [], length, nat_le, codes, bytes_eq, string_bytes, slice_get, String, Vec, ◌&&◌, ◌++◌, if◌then◌else◌, Option, Some, None}
use Rattle.std.specs.declared.alloc.Global.{Global}
use Rattle.r4_words.specs.Texts.{read_dec}
use Rattle.r4_shape.specs.Numbers.{Numbers}
use Rattle.r4k_top.specs.declared.telling.Telling.{Telling}
use Rattle.r4k_top.specs.declared.telling.Telling.TheVariants as telling
use Rattle.r4_shape.specs.Names.{read_shape}

-- the words after the program's name
abbrev pub Words : Type 0
Words = Vec (String Global) Global

-- the bytes of a word, none where it is missing
abbrev pub text_of : Option (String Global) → List ℕ
text_of (Some text) = string_bytes text
text_of None = []

-- the word at a position
abbrev pub word : Words → ℕ → List ℕ
word words at = text_of (slice_get words.items at)

-- the plan of a run: what it tells, the shape of the caches, the files by their names, the script and the disk where they are
-- given, and the bound on its ticks
pub record Plan : Type 0 where
  pub telling : Telling
  pub shape : Numbers
  pub image : List ℕ
  pub script : Option (List ℕ)
  pub disk : Option (List ℕ)
  pub steps : ℕ

-- what the words ask for; files go by their names
pub data Command : Type 0 where
  -- a run by a plan
  Run : Plan → Command
  -- the verdict on a trace, on a shape
  Judge : Numbers → List ℕ → Command
  -- the image of a source, put under a name
  Assemble : List ℕ → List ℕ → Command
  -- the listing of an image
  Disassemble : List ℕ → Command
  -- the image of a load, from a number and a count of turns, put under a name
  Make : ℕ → ℕ → List ℕ → Command

-- six words, as `run SHAPE IMAGE SCRIPT DISK STEPS`, whatever they are
abbrev pub is_run : Words → Bool
is_run words = length words.items == 6

-- what a run tells by its first word: its report, with the verdict on its trace, or with both
abbrev pub telling_of : List ℕ → Option Telling
telling_of name =
    if bytes_eq name (codes "run") then Some telling.Report
    else if bytes_eq name (codes "check") then Some telling.Verdict
    else if bytes_eq name (codes "trace") then Some telling.Trace
    else None

-- the words `judge SHAPE TRACE`, whatever SHAPE and TRACE are
abbrev pub is_judge : Words → Bool
is_judge words = (length words.items == 3) && bytes_eq (word words 0) (codes "judge")

-- the words `asm SOURCE OUT`, whatever SOURCE and OUT are
abbrev pub is_asm : Words → Bool
is_asm words = (length words.items == 3) && bytes_eq (word words 0) (codes "asm")

-- the words `dis IMAGE`, whatever IMAGE is
abbrev pub is_dis : Words → Bool
is_dis words = (length words.items == 2) && bytes_eq (word words 0) (codes "dis")

-- the words `make NUMBER COUNT OUT`, whatever NUMBER, COUNT and OUT are
abbrev pub is_make : Words → Bool
is_make words = (length words.items == 4) && bytes_eq (word words 0) (codes "make")

-- the name of a script or of a disk: the word `-` stands for none
abbrev pub given : List ℕ → Option (List ℕ)
given name = if bytes_eq name (codes "-") then None else Some name

-- the shapes that have no secondary cache; the others are not built
abbrev pub without_secondary : Option Numbers → Option Numbers
without_secondary (Some shape) = if shape.sc then None else Some shape
without_secondary None = None

-- the shape that a word names, if it is one without a secondary cache
abbrev pub shape_named : List ℕ → Option Numbers
shape_named name = without_secondary (read_shape name)

-- a plan that tells something, on a shape, for so many ticks, if all these are there
abbrev pub plan_for : Words → Option Telling → Option Numbers → Option ℕ → Option Plan
plan_for words (Some told) (Some shape) (Some steps) =
    Some (record {
      telling = told;
      shape = shape;
      image = word words 2;
      script = given (word words 3);
      disk = given (word words 4);
      steps = steps;
    })
plan_for words told shape steps = None

-- the plan that the words of a run give: none where the first is no name of a run, the second names no shape, or the last is no
-- decimal text of a number below 2 ^ 32
abbrev pub plan_of : Words → Option Plan
plan_of words = plan_for words (telling_of (word words 0)) (shape_named (word words 1)) (read_dec (word words 5))

-- a run by a plan, if it is there
abbrev pub run_by : Option Plan → Option Command
run_by (Some plan) = Some (Run plan)
run_by None = None

-- the verdict on a trace, if the shape is there
abbrev pub judged_on : List ℕ → Option Numbers → Option Command
judged_on trace (Some shape) = Some (Judge shape trace)
judged_on trace None = None

abbrev pub judge_of : Words → Option Command
judge_of words = judged_on (word words 2) (shape_named (word words 1))

-- a load, if both numbers are there and the count is one from 1 to 100000
abbrev pub load_with : List ℕ → Option ℕ → Option ℕ → Option Command
load_with out (Some number) (Some count) = if nat_le 1 count && nat_le count 100000 then Some (Make number count out) else None
load_with out number count = None

abbrev pub make_of : Words → Option Command
make_of words = load_with (word words 3) (read_dec (word words 1)) (read_dec (word words 2))

-- the command of the words: none where they match no command that is built
unfoldable pub command_of : Words → Option Command
command_of words =
    if is_run words then run_by (plan_of words)
    else if is_judge words then judge_of words
    else if is_asm words then Some (Assemble (word words 1) (word words 2))
    else if is_dis words then Some (Disassemble (word words 1))
    else if is_make words then make_of words
    else None

-- the name under which the changed disk is put, where a disk is given: the disk's own, followed by `.out`
abbrev pub disk_out : Option (List ℕ) → Option (List ℕ)
disk_out None = None
disk_out (Some name) = Some (name ++ codes ".out")

-- the name under which a command puts a file, where it puts one
abbrev pub put_name : Command → Option (List ℕ)
put_name (Run plan) = disk_out plan.disk
put_name (Judge shape trace) = None
put_name (Assemble source out) = Some out
put_name (Disassemble image) = None
put_name (Make number count out) = Some out

-- the name under which the words put a file, where they do
abbrev pub out_name : Option Command → Option (List ℕ)
out_name None = None
out_name (Some command) = put_name command
