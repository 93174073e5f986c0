-- The answers of the top call: which one belongs to an end, and which of them are free.
use Rattle.std.specs.Prelude.{Option, Some, None}
use Rattle.r4k_top.specs.declared.statuses.Status.{Status}
use Rattle.r4k_top.specs.declared.statuses.Status.TheVariants as status
use Rattle.access_trace.specs.declared.event.Verdict.{Verdict}
use Rattle.access_trace.specs.declared.event.Verdict.TheVariants as verdict
use Rattle.r4k_top.specs.Wanted.{Refusal, NoCommand, TooLong, Broken, Unreadable, Unparsed, Refused}
use Rattle.r4k_top.specs.Outcome.{End, Makes, Refuses}

-- the status of a refusal
abbrev pub status_of_refusal : Refusal → Status
status_of_refusal NoCommand = status.Usage
status_of_refusal TooLong = status.TooLong
status_of_refusal (Broken fault) = status.BadImage fault.rule fault.offset
status_of_refusal (Unreadable line reason) = status.BadScript line reason
status_of_refusal (Unparsed line) = status.BadTrace line
status_of_refusal (Refused line reason) = status.BadSource line reason

-- the status with which a job is complete: Breach where its verdict is no
abbrev pub status_of_verdict : Option Verdict → Status
status_of_verdict None = status.Done
status_of_verdict (Some verdict.Yes) = status.Done
status_of_verdict (Some (verdict.No event breach)) = status.Breach event breach

-- the status of an end
abbrev pub status_of : End → Status
status_of (Makes made) = status_of_verdict made.verdict
status_of (Refuses refusal) = status_of_refusal refusal

-- Which answers may come: Memory is free, ReadFault and WriteFault have a cause outside, and of every other answer the
-- fact holds.
abbrev pub MayAnswer : Type 0 → Type 0 → (Status → Type 0) → Status → Type 0
MayAnswer unread unwritten ends status.Memory = Unit {0}
MayAnswer unread unwritten ends status.ReadFault = unread
MayAnswer unread unwritten ends status.WriteFault = unwritten
MayAnswer unread unwritten ends answer = ends answer

-- the answers of a job that is complete
abbrev pub IsComplete : Status → Type 0
IsComplete status.Done = Unit {0}
IsComplete (status.Breach event breach) = Unit {0}
IsComplete answer = ⊥

-- the answers that refuse what the words ask for
abbrev pub IsRefusal : Status → Type 0
IsRefusal status.Done = ⊥
IsRefusal (status.Breach event breach) = ⊥
IsRefusal status.ReadFault = ⊥
IsRefusal status.WriteFault = ⊥
IsRefusal status.Memory = ⊥
IsRefusal answer = Unit {0}
