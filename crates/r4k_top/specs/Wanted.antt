-- The files that a command wants, in their order, and why one of them is refused. The limits are this project's own; the
-- grammars are those of the files' kinds.
use Rattle.std.specs.Prelude.{ℕ, List, [], ◌∷◌, ◌++◌, length, map, nat_lt, Option, Some, None, Result, Ok, Err, if◌then◌else◌}
use Rattle.elf_image.specs.declared.rules.ImageFault.{ImageFault}
use Rattle.elf_image.specs.Rules.{image_fault}
use Rattle.access_trace.specs.declared.event.Event.{Event}
use Rattle.access_trace.specs.Traces.{trace_of}
use Rattle.mips_text.specs.declared.reason.AsmWhy.{AsmWhy}
use Rattle.mips_asm.specs.Assembly.{Assembly, Image, Bad, assembled}
use Rattle.input_script.specs.declared.faults.ScriptWhy.{ScriptWhy}
use Rattle.input_script.specs.Grammar as script
use Rattle.r4_ports.specs.Told.{Call, fetch_of, put_of}
use Rattle.r4k_top.specs.Command.{Plan, Command, Run, Judge, Assemble, Disassemble, Make, out_name}

-- Why nothing is made.
pub data Refusal : Type 0 where
  -- the words are no command
  NoCommand : Refusal
  -- a file has more bytes than its limit
  TooLong : Refusal
  -- an image breaks this rule first
  Broken : ImageFault → Refusal
  -- a script is refused at this line, numbered from 1, for this reason
  Unreadable : ℕ → ScriptWhy → Refusal
  -- a trace has this first line outside its grammar, numbered from 1, or lacks its end there
  Unparsed : ℕ → Refusal
  -- a source is refused at this line, numbered from 1, for this reason
  Refused : ℕ → AsmWhy → Refusal

-- A file that a command wants: its name, the most bytes that it may have, and why bytes are none of its kind.
pub record Wanted : Type 0 where
  pub name : List ℕ
  pub limit : ℕ
  pub grammar : List ℕ → Option Refusal

-- why a file is refused with these bytes
abbrev pub refusal_of : Wanted → List ℕ → Option Refusal
refusal_of file bytes = if nat_lt file.limit (length bytes) then Some TooLong else file.grammar bytes

-- THE KINDS OF FILES

-- the most bytes of an image, of a script and of a source
abbrev pub file_limit : ℕ
file_limit = 16777216

-- an image that breaks a rule is refused by the first
abbrev pub rule_refusal : Option ImageFault → Option Refusal
rule_refusal None = None
rule_refusal (Some fault) = Some (Broken fault)

-- an image
abbrev pub an_image : List ℕ → Wanted
an_image name = record { name = name; limit = file_limit; grammar = λ bytes. rule_refusal (image_fault bytes) }

-- a script that has a bad line is refused by the first
abbrev pub script_refusal : script.ScriptText → Option Refusal
script_refusal (script.Inputs inputs) = None
script_refusal (script.Bad line reason) = Some (Unreadable line reason)

-- a script
abbrev pub a_script : List ℕ → Wanted
a_script name = record { name = name; limit = file_limit; grammar = λ bytes. script_refusal (script.script_text bytes) }

-- the most bytes of a disk
abbrev pub disk_limit : ℕ
disk_limit = 33554432

-- a disk, whatever its bytes are
abbrev pub a_disk : List ℕ → Wanted
a_disk name = record { name = name; limit = disk_limit; grammar = λ bytes. None }

-- the most bytes of a trace
abbrev pub trace_limit : ℕ
trace_limit = 67108864

-- a trace that has a line outside the grammar is refused by the first
abbrev pub trace_refusal : Result (List Event) ℕ → Option Refusal
trace_refusal (Ok events) = None
trace_refusal (Err line) = Some (Unparsed line)

-- a trace
abbrev pub a_trace : List ℕ → Wanted
a_trace name = record { name = name; limit = trace_limit; grammar = λ bytes. trace_refusal (trace_of bytes) }

-- a source that has a bad line is refused by the first
abbrev pub line_refusal : Assembly → Option Refusal
line_refusal (Image base entry bytes) = None
line_refusal (Bad line reason) = Some (Refused line reason)

-- a source
abbrev pub a_source : List ℕ → Wanted
a_source name = record { name = name; limit = file_limit; grammar = λ bytes. line_refusal (assembled bytes) }

-- a file that may be left out, where its name is given
abbrev pub if_given : (List ℕ → Wanted) → Option (List ℕ) → List Wanted
if_given kind None = []
if_given kind (Some name) = kind name ∷ []

-- ALL COMMANDS

-- the files of a run
abbrev pub wanted_by : Plan → List Wanted
wanted_by plan = an_image plan.image ∷ (if_given a_script plan.script ++ if_given a_disk plan.disk)

-- the files that a command wants
abbrev pub wanted_of : Command → List Wanted
wanted_of (Run plan) = wanted_by plan
wanted_of (Judge shape trace) = a_trace trace ∷ []
wanted_of (Assemble source out) = a_source source ∷ []
wanted_of (Disassemble image) = an_image image ∷ []
wanted_of (Make number count out) = []

-- the fetches that the words ask for, in their order
abbrev pub fetches_of : Option Command → List Call
fetches_of None = []
fetches_of (Some command) = map (λ file. fetch_of file.name) (wanted_of command)

-- the put to a name, where there is one
abbrev pub puts_to : Option (List ℕ) → List Call
puts_to None = []
puts_to (Some name) = put_of name ∷ []

-- the calls of the shelf that the words ask for, in their order: the fetches, and then the put
abbrev pub calls_of : Option Command → List Call
calls_of said = fetches_of said ++ puts_to (out_name said)
