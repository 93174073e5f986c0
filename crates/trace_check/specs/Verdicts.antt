-- The verdict on a list of events: whether one breaks a rule of cache discipline, and which is the first.
-- Source: this project's own.
use Rattle.std.specs.Prelude.{ℕ, ◌+◌, ◌<◌, List, fold, Option, Some, None, IfSome}
use Rattle.access_trace.specs.declared.event.Breach.{Breach}
use Rattle.access_trace.specs.declared.event.Event.{Event}
use Rattle.access_trace.specs.declared.event.Verdict.{Verdict}
use Rattle.access_trace.specs.declared.event.Verdict.TheVariants.{Yes, No}
use Rattle.r4_shape.specs.Numbers.{Numbers}
use Rattle.rule_ledger.specs.Marks.{Ledger, facts_of}
use Rattle.trace_check.specs.declared.found.Found.{Found}
use Rattle.trace_check.specs.Books.{Book, OnPc, blank, breach_by, book_after}

-- What stands after some events: the book, how many events there were, and the first that broke a rule.
pub record Standing : Type 0 where
  pub book : Book
  pub events : ℕ
  pub first : Option Found

-- before the first event, on a shape
abbrev pub start : Numbers → Standing
start shape = record { book = blank shape; events = 0; first = None }

-- what is found at an event with this answer of the rules
abbrev pub found_at : ℕ → Event → Option Breach → Option Found
found_at number event None = None
found_at number event (Some breach) = Some (record { number = number; breach = breach; event = event })

-- One event more. Once an event has broken a rule, events are counted and no longer held against the rules.
abbrev pub held_by : Option Found → Standing → Event → Standing
held_by (Some found) standing event = record standing { events = standing.events + 1 }
held_by None standing event = record {
  book = book_after standing.book event;
  events = standing.events + 1;
  first = found_at standing.events event (breach_by standing.book event);
}

abbrev pub held : Standing → Event → Standing
held standing event = held_by standing.first standing event

-- the events of a list on a shape, one after the other
abbrev pub standing_of : Numbers → List Event → Standing
standing_of shape events = fold held (start shape) events

-- the verdict: Yes where no event broke a rule
abbrev pub verdict_by : Option Found → Verdict
verdict_by None = Yes
verdict_by (Some found) = No found.number found.breach

-- the verdict on a list of events
abbrev pub verdict_of : Numbers → List Event → Verdict
verdict_of shape events = verdict_by (standing_of shape events).first

-- the event that is named, none where all rules are kept
abbrev pub event_by : Option Found → Option Event
event_by None = None
event_by (Some found) = Some found.event

-- the first event that broke a rule is one of so many, of which the first has the number 0
abbrev pub IsAmong : Option Found → ℕ → Type 0
IsAmong first events = IfSome first (λ found. found.number < events)

-- What a judge has: its ledger, how many events there were, and the first that broke a rule.
pub record Judging : Type 0 where
  pub ledger : Ledger
  pub events : ℕ
  pub first : Option Found

-- the book that a judge keeps
abbrev pub book_of : Judging → Book
book_of judge = OnPc judge.ledger.shape (facts_of judge.ledger)

-- how matters stand with a judge
abbrev pub standing_at : Judging → Standing
standing_at judge = record { book = book_of judge; events = judge.events; first = judge.first }
