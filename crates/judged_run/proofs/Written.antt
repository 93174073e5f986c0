-- A run whose events are written as they come.
use Rattle.std.proofs.Common.{◌≡◌, ◌<◌, ◌+◌, ◌∙◌, ℕ, true, false, sym, ap, List, [], ◌++◌, append-nil, append_assoc, Some}
use Rattle.access_trace.specs.Traces.{events_text}
use Rattle.machine_core.specs.Machine.{MachineState}
use Rattle.machine_core.specs.Traced.{machine_in, tick_events}
use Rattle.machine_core.proofs.TracedRuns.{run_events_none}
use Rattle.machine_core.proofs.TracedTicks.{halted_events}
use Rattle.mips3_exec.specs.declared.ticking.Tick.{Tick}
use Rattle.mips3_exec.specs.Tick.{goes_on}
use Rattle.r4_ports.specs.Writing.{Stand, Writes}
use Rattle.r4_ports.proofs.Writing.{writes_nothing, writes_same, writes_stopped, writes_then}
use Rattle.run_report.proofs.EventLines.{events_text_then}
use Rattle.judged_run.specs.JudgedMachines.{JudgedState}
use Rattle.judged_run.specs.JudgedMachines.{Ticked, events_in}
use Rattle.judged_run.proofs.JudgedRuns.{events_more, events_end}

-- the tick of a machine that has halted has nothing to write
pub writes_halted : (at : Stand) (span : ℕ) (machine : MachineState) (code : ℕ) → machine.cpu.halt ≡ Some code → Writes at at (events_text (tick_events span machine))
writes_halted at span machine code is = writes_same at at [] (events_text (tick_events span machine)) (writes_nothing at) (ap events_text (sym (halted_events span machine code is)))

-- A text was written. It and the events of what is left of a run, so many ticks from this judged on, are the events of the whole run.
pub record IsBeingWritten (left : ℕ) (judged : JudgedState) (steps : ℕ) (initial : JudgedState) (old new : Stand) : Type 0 where
  pub text : List ℕ
  pub writes : Writes old new text
  pub is_all : text ++ events_text (events_in left judged) ≡ events_text (events_in steps initial)

pub writing_first : (left steps : ℕ) (judged : JudgedState) (at : Stand) → left ≡ steps → IsBeingWritten left judged steps judged at at
writing_first left steps judged at is = record { text = []; writes = writes_nothing at; is_all = ap (λ n. events_text (events_in n judged)) is }

pub writing_more : (left rest steps : ℕ) (initial old new : JudgedState) (answer : Tick) (a b c : Stand) → IsBeingWritten left old steps initial a b →
    Ticked old new answer → goes_on answer ≡ true → left ≡ rest + 1 →
    Writes b c (events_text (tick_events old.machine.span_left (machine_in old.machine))) → IsBeingWritten rest new steps initial a c
writing_more left rest steps initial old new answer a b c being ticked on is writes =
    let events = tick_events old.machine.span_left (machine_in old.machine) in
    record {
      text = being.text ++ events_text events;
      writes = writes_then a b c being.text (events_text events) writes being.writes;
      is_all =
          append_assoc being.text (events_text events) (events_text (events_in rest new))
          ∙ ap (λ text. being.text ++ text) (sym (events_text_then events (events_in rest new)) ∙ ap events_text (sym (events_more old new answer ticked left rest is on)))
          ∙ being.is_all;
    }

-- no tick is left
pub writing_made : (left steps : ℕ) (initial judged : JudgedState) (a b : Stand) → IsBeingWritten left judged steps initial a b → left ≡ 0 → Writes a b (events_text (events_in steps initial))
writing_made left steps initial judged a b being is =
    writes_same a b being.text (events_text (events_in steps initial)) being.writes
    (sym (append-nil being.text)
    ∙ ap (λ events. being.text ++ events_text events) (sym (run_events_none left judged.machine.span_left (machine_in judged.machine) is))
    ∙ being.is_all)

-- a tick halted
pub writing_halted : (left steps : ℕ) (initial old new : JudgedState) (answer : Tick) (a b c : Stand) → IsBeingWritten left old steps initial a b →
    Ticked old new answer → goes_on answer ≡ false → 0 < left →
    Writes b c (events_text (tick_events old.machine.span_left (machine_in old.machine))) → Writes a c (events_text (events_in steps initial))
writing_halted left steps initial old new answer a b c being ticked off lt writes =
    let events = tick_events old.machine.span_left (machine_in old.machine) in
    writes_same a c (being.text ++ events_text events) (events_text (events_in steps initial))
    (writes_then a b c being.text (events_text events) writes being.writes)
    (ap (λ events. being.text ++ events_text events) (sym (events_end old new answer ticked left lt off)) ∙ being.is_all)

-- a write failed
pub writing_failed : (left steps : ℕ) (initial judged : JudgedState) (a b : Stand) → IsBeingWritten left judged steps initial a b → b.failed ≡ true → Writes a b (events_text (events_in steps initial))
writing_failed left steps initial judged a b being failed =
    let rest = events_text (events_in left judged) in
    writes_same a b (being.text ++ rest) (events_text (events_in steps initial)) (writes_then a b b being.text rest (writes_stopped b rest failed) being.writes) being.is_all
