-- The text of a verdict. The format is this project's own.
use Rattle.std.specs.Prelude.{ℕ, List, [], ◌∷◌, ◌++◌, codes, Option, Some, None}
use Rattle.r4_words.specs.Texts.{dec_of}
use Rattle.access_trace.specs.Texts.{line_of}
use Rattle.access_trace.specs.Traces.{newline}
use Rattle.access_trace.specs.declared.event.Event.{Event}
use Rattle.access_trace.specs.declared.event.Breach.{Breach}
use Rattle.access_trace.specs.declared.event.Breach.TheVariants.{Forge, Peek, Unquiet, Old, Owed, Lost}
use Rattle.access_trace.specs.declared.event.Verdict.{Verdict}
use Rattle.access_trace.specs.declared.event.Verdict.TheVariants.{Yes, No}

-- the line of an event, with the newline that ends it
unfoldable pub event_line : Event → List ℕ
event_line event = line_of event ++ newline ∷ []

-- a breach by its name, in small letters
abbrev pub breach_name : Breach → List ℕ
breach_name Forge = codes "forge"
breach_name Peek = codes "peek"
breach_name Unquiet = codes "unquiet"
breach_name Old = codes "old"
breach_name Owed = codes "owed"
breach_name Lost = codes "lost"

-- the number of an event, from 0, and the breach
unfoldable pub no_text : ℕ → Breach → List ℕ
no_text number breach = codes "verdict no " ++ dec_of number ++ codes " " ++ breach_name breach ++ codes " "

-- the line of an event, where there is one
abbrev pub first_text : Option Event → List ℕ
first_text None = []
first_text (Some event) = event_line event

-- The text of a verdict, with the first event that breaks a rule, which there is exactly where the verdict is no.
unfoldable pub verdict_text : Verdict → Option Event → List ℕ
verdict_text Yes first = codes "verdict yes\n"
verdict_text (No number breach) first = no_text number breach ++ first_text first
