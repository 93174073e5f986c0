-- How a run with pauses goes on: it may be taken to a tick, and then by one move more; and pauses that begin later do not change it.
use Rattle.std.proofs.Common.{◌≡◌, ◌<◌, ◌≤◌, ◌∙◌, ◌++◌, ℕ, zero, suc, true, false, List, [], Option, Some, None, inl, inr, refl, sym, ap, subst, append_assoc, arith}
use Rattle.std.specs.Prelude.{◌==◌}
use Rattle.std.specs.Option.{option_or}
use Rattle.std.proofs.lemmas.Bool.{cases_Bool}
use Rattle.std.proofs.lemmas.List.{append-nil}
use Rattle.std.proofs.lemmas.List.Folds.{find-append}
use Rattle.mips3_exec.specs.Run as runs
use Rattle.flat_machine.specs.declared.flat_state.Flat.{Flat}
use Rattle.flat_machine.specs.Reads.{Read}
use Rattle.flat_machine.specs.FlatRun.{Pause, ReadTo, pause_at, move, move_of, read_before, has_ended, moves_of}

-- a run that has ended stays where it is
pub ended_stays : (k ticks : ℕ) (pauses : List Pause) (flat : Flat) → has_ended ticks flat flat.cpu.halt ≡ true
    → moves_of k ticks pauses flat ≡ record { flat = flat; reads = [] }
unfolding moves_of runs.moves_of
ended_stays zero ticks pauses flat ended = refl
ended_stays (suc k) ticks pauses flat ended = rw ended refl

-- one that has not makes a move
pub moves_on : (k ticks : ℕ) (pauses : List Pause) (flat : Flat) → has_ended ticks flat flat.cpu.halt ≡ false
    → moves_of (suc k) ticks pauses flat ≡ read_before (move_of pauses flat).reads (moves_of k ticks pauses (move_of pauses flat).flat)
unfolding moves_of runs.moves_of
moves_on k ticks pauses flat going = rw going refl

-- a run that has not ended has not halted, and has ticks to make
going_ticks : (ticks : ℕ) (flat : Flat) (halt : Option ℕ) → has_ended ticks flat halt ≡ false → flat.cpu.ticks < ticks
going_ticks ticks flat (Some code) going = absurd cc
going_ticks ticks flat None going = grind arith

goes_later : (ticks later : ℕ) (flat : Flat) (halt : Option ℕ) → ticks ≤ later → has_ended ticks flat halt ≡ false → has_ended later flat halt ≡ false
goes_later ticks later flat (Some code) le going = going
goes_later ticks later flat None le going = grind arith

still_going : (ticks later : ℕ) (flat : Flat) (halt : Option ℕ) → halt ≡ None → flat.cpu.ticks ≡ ticks → ticks < later → has_ended later flat halt ≡ false
still_going ticks later flat (Some code) is at lt = absurd cc
still_going ticks later flat None is at lt = grind arith

-- ---- one move more

-- where a run to a tick came to, the end of a run to a later one: a move after it
abbrev pub one_after : List Pause → ReadTo → ReadTo
one_after pauses end = record { flat = (move_of pauses end.flat).flat; reads = end.reads ++ (move_of pauses end.flat).reads }

-- the run came to a tick, has not halted, and its next move ends the run to a later tick
pub record GoesOnTo (ticks later : ℕ) (pauses : List Pause) (end : ReadTo) : Type 0 where
  pub bound : ticks < later
  pub at : end.flat.cpu.ticks ≡ ticks
  pub runs : end.flat.cpu.halt ≡ None
  pub ends : has_ended later (move_of pauses end.flat).flat (move_of pauses end.flat).flat.cpu.halt ≡ true

from_here : (j ticks later : ℕ) (pauses : List Pause) (flat : Flat) → GoesOnTo ticks later pauses (record { flat = flat; reads = [] })
    → moves_of (suc j) later pauses flat ≡ one_after pauses (record { flat = flat; reads = [] })
from_here j ticks later pauses flat on =
    let next : ReadTo = move_of pauses flat in
    moves_on j later pauses flat (still_going ticks later flat flat.cpu.halt on.runs on.at on.bound)
    ∙ ap (read_before next.reads) (ended_stays j later pauses next.flat on.ends)
    ∙ ap (λ (reads : List Read). record { flat = next.flat; reads = reads }) (append-nil next.reads)

joined : (before : List Read) (pauses : List Pause) (end : ReadTo) → read_before before (one_after pauses end) ≡ one_after pauses (read_before before end)
joined before pauses end =
    let next : ReadTo = move_of pauses end.flat in
    let regrouped : (before ++ end.reads) ++ next.reads ≡ before ++ (end.reads ++ next.reads) = rw append_assoc refl in
    ap (λ (reads : List Read). record { flat = next.flat; reads = reads }) (sym regrouped)

-- the run to the later tick, in any number of moves that suffices
pub one_more : (k j ticks later : ℕ) (pauses : List Pause) (flat : Flat) → k < j → GoesOnTo ticks later pauses (moves_of k ticks pauses flat)
    → moves_of j later pauses flat ≡ one_after pauses (moves_of k ticks pauses flat)
unfolding moves_of runs.moves_of
one_more zero zero ticks later pauses flat lt on = absurd (omega arith)
one_more zero (suc j) ticks later pauses flat lt on = from_here j ticks later pauses flat on
one_more (suc k) zero ticks later pauses flat lt on = absurd (omega arith)
one_more (suc k) (suc j) ticks later pauses flat lt on =
    let next : ReadTo = move_of pauses flat in
    let rest : ReadTo = moves_of k ticks pauses next.flat in
    elim (cases_Bool (has_ended ticks flat flat.cpu.halt)) [
      | inl ended ↦
          let stays : moves_of (suc k) ticks pauses flat ≡ record { flat = flat; reads = [] } = ended_stays (suc k) ticks pauses flat ended in
          from_here j ticks later pauses flat (subst (GoesOnTo ticks later pauses) stays on) ∙ ap (one_after pauses) (sym stays)
      | inr going ↦
          let steps : moves_of (suc k) ticks pauses flat ≡ read_before next.reads rest = moves_on k ticks pauses flat going in
          let there : GoesOnTo ticks later pauses (read_before next.reads rest) = subst (GoesOnTo ticks later pauses) steps on in
          let inner : GoesOnTo ticks later pauses rest = record { bound = there.bound; at = there.at; runs = there.runs; ends = there.ends } in
          moves_on j later pauses flat (goes_later ticks later flat flat.cpu.halt (omega (arith, on.bound)) going)
          ∙ ap (read_before next.reads) (one_more k j ticks later pauses next.flat (omega arith) inner)
          ∙ joined next.reads pauses rest
          ∙ ap (one_after pauses) (sym steps)
    ]

-- ---- pauses that begin later

or_none : (found : Option Pause) → option_or found None ≡ found
or_none None = refl
or_none (Some pause) = refl

-- a run to a tick does not see the pauses that begin at it or later
pub later_pauses : (k ticks : ℕ) (pauses more : List Pause) (flat : Flat) → ((tick : ℕ) → tick < ticks → pause_at more tick ≡ None)
    → moves_of k ticks (pauses ++ more) flat ≡ moves_of k ticks pauses flat
unfolding moves_of runs.moves_of
later_pauses zero ticks pauses more flat none = refl
later_pauses (suc k) ticks pauses more flat none =
    let next : ReadTo = move_of pauses flat in
    elim (cases_Bool (has_ended ticks flat flat.cpu.halt)) [
      | inl ended ↦ ended_stays (suc k) ticks (pauses ++ more) flat ended ∙ sym (ended_stays (suc k) ticks pauses flat ended)
      | inr going ↦
          let unseen : pause_at more flat.cpu.ticks ≡ None = none flat.cpu.ticks (going_ticks ticks flat flat.cpu.halt going) in
          let same : pause_at (pauses ++ more) flat.cpu.ticks ≡ pause_at pauses flat.cpu.ticks =
          find-append (λ (pause : Pause). pause.tick == flat.cpu.ticks) pauses more
          ∙ ap (option_or (pause_at pauses flat.cpu.ticks)) unseen
          ∙ or_none (pause_at pauses flat.cpu.ticks) in
          moves_on k ticks (pauses ++ more) flat going
          ∙ ap (λ (after : ReadTo). read_before after.reads (moves_of k ticks (pauses ++ more) after.flat)) (ap (move flat) same)
          ∙ ap (read_before next.reads) (later_pauses k ticks pauses more next.flat none)
          ∙ sym (moves_on k ticks pauses flat going)
    ]
