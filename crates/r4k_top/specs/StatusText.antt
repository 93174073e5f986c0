-- The numbers and the lines of the statuses. Both are this project's own.
use Rattle.std.specs.Prelude.{ℕ, List, [], ◌++◌, codes}
use Rattle.r4_words.specs.Texts.{dec_of}
use Rattle.elf_image.specs.declared.rules.ImageRule.{ImageRule}
use Rattle.elf_image.specs.declared.rules.ImageRule.TheVariants as rule
use Rattle.access_trace.specs.declared.event.Breach as rule_of
use Rattle.access_trace.specs.declared.event.Breach.TheVariants as broken
use Rattle.input_script.specs.declared.faults.ScriptWhy.{ScriptWhy}
use Rattle.input_script.specs.declared.faults.ScriptWhy.TheVariants as bad
use Rattle.mips_text.specs.declared.reason.AsmWhy.{AsmWhy}
use Rattle.mips_text.specs.declared.reason.AsmWhy.TheVariants as why
use Rattle.r4k_top.specs.declared.statuses.Status.{Status}
use Rattle.r4k_top.specs.declared.statuses.Status.TheVariants.{Done, Breach, Usage, ReadFault, WriteFault, BadImage, BadScript, BadSource, Memory, BadTrace, TooLong}

-- the number with which the program ends; the numbers between belong to statuses that later parts build, and 11 is not used
abbrev pub number_of : Status → ℕ
number_of Done = 0
number_of (Breach event breach) = 1
number_of Usage = 2
number_of ReadFault = 3
number_of WriteFault = 4
number_of (BadImage rule offset) = 5
number_of (BadScript line reason) = 6
number_of (BadSource line reason) = 7
number_of Memory = 8
number_of (BadTrace line) = 9
number_of TooLong = 10

-- the name of a rule
abbrev pub rule_name : ImageRule → List ℕ
rule_name rule.Short = codes "Short"
rule_name rule.Magic = codes "Magic"
rule_name rule.Class = codes "Class"
rule_name rule.Machine = codes "Machine"
rule_name rule.Kind = codes "Kind"
rule_name rule.Table = codes "Table"
rule_name rule.Range = codes "Range"
rule_name rule.Entry = codes "Entry"

-- the name of a reason for which a line of a source is refused
abbrev pub why_name : AsmWhy → List ℕ
why_name why.Unknown = codes "Unknown"
why_name why.Operand = codes "Operand"
why_name why.Range = codes "Range"
why_name why.Twice = codes "Twice"
why_name why.NoLabel = codes "NoLabel"
why_name why.Align = codes "Align"

-- the name of a reason for which a line of a script is refused
abbrev pub script_why_name : ScriptWhy → List ℕ
script_why_name bad.Line = codes "Line"
script_why_name bad.Number = codes "Number"
script_why_name bad.Order = codes "Order"

-- the name of a breach
abbrev pub breach_name : rule_of.Breach → List ℕ
breach_name broken.Forge = codes "Forge"
breach_name broken.Peek = codes "Peek"
breach_name broken.Unquiet = codes "Unquiet"
breach_name broken.Old = codes "Old"
breach_name broken.Owed = codes "Owed"
breach_name broken.Lost = codes "Lost"

-- the line of a verdict of no
abbrev pub breach_line : ℕ → rule_of.Breach → List ℕ
breach_line event breach = codes "Breach " ++ dec_of event ++ codes " " ++ breach_name breach ++ codes "\n"

-- the line of a trace that is refused
abbrev pub bad_trace_line : ℕ → List ℕ
bad_trace_line line = codes "BadTrace " ++ dec_of line ++ codes "\n"

-- the line of an image that breaks a rule
abbrev pub bad_image_line : ImageRule → ℕ → List ℕ
bad_image_line rule offset = codes "BadImage " ++ rule_name rule ++ codes " " ++ dec_of offset ++ codes "\n"

-- the line of a script that is refused
abbrev pub bad_script_line : ℕ → ScriptWhy → List ℕ
bad_script_line line reason = codes "BadScript " ++ dec_of line ++ codes " " ++ script_why_name reason ++ codes "\n"

-- the line of a source that is refused
abbrev pub bad_source_line : ℕ → AsmWhy → List ℕ
bad_source_line line reason = codes "BadSource " ++ dec_of line ++ codes " " ++ why_name reason ++ codes "\n"

-- the line of a status: its name, then each field after a blank
abbrev pub status_line : Status → List ℕ
status_line Done = codes "Done\n"
status_line (Breach event breach) = breach_line event breach
status_line Usage = codes "Usage\n"
status_line ReadFault = codes "ReadFault\n"
status_line WriteFault = codes "WriteFault\n"
status_line (BadImage rule offset) = bad_image_line rule offset
status_line (BadScript line reason) = bad_script_line line reason
status_line (BadSource line reason) = bad_source_line line reason
status_line Memory = codes "Memory\n"
status_line (BadTrace line) = bad_trace_line line
status_line TooLong = codes "TooLong\n"

-- what the program complains of with a status: nothing of Done, and the line of every other
abbrev pub complaint_of : Status → List ℕ
complaint_of Done = []
complaint_of status = status_line status
