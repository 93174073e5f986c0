-- What a judge holds an event against: a book, which is what the ledger says so far and knows the rules that it is kept by.
-- Source: this project's own.
use Rattle.std.specs.Prelude.{Option, Some, None}
use Rattle.access_trace.specs.declared.event.Breach.{Breach}
use Rattle.access_trace.specs.declared.event.Event.{Event}
use Rattle.r4_shape.specs.Numbers.{Numbers}
use Rattle.rule_ledger.specs.Events.{breach_of, facts_after}
use Rattle.rule_ledger.specs.Facts.{Facts, no_facts}

-- A book, by the rules that it is kept by.
pub data Book : Type 0 where
  -- the rules of a machine without a secondary cache, of this shape, with the facts
  OnPc : Numbers → Facts → Book

-- the book of a shape before the first event
abbrev pub blank : Numbers → Book
blank shape = OnPc shape no_facts

-- the first rule of the book that an event breaks
abbrev pub breach_by : Book → Event → Option Breach
breach_by (OnPc shape facts) event = breach_of shape facts event

-- the book after an event that was answered so
abbrev pub book_by : Option Breach → Book → Event → Book
book_by answer (OnPc shape facts) event = OnPc shape (facts_after shape facts event answer)

-- the book after an event, by its own rules: where the event breaks one, nothing changes
abbrev pub book_after : Book → Event → Book
book_after book event = book_by (breach_by book event) book event

-- the book after an event that breaks no rule, and after none
abbrev pub book_kept : Book → Option Event → Book
book_kept book None = book
book_kept book (Some event) = book_by None book event
