-- The laws of writing: nothing is written by no text, and one text after another is their concatenation.
use Rattle.std.proofs.Common.{◌≡◌, ◌≤◌, ℕ, Bool, true, false, List, [], ◌++◌, Option, Some, None, refl, ap, sym, ◌∙◌, subst, arith, append_assoc, append-nil, ⊎_elim, Result, Ok, Err, OnOk, OnErr}
use Rattle.std.proofs.lemmas.Bool.{cases_Bool, both_ways}
use Rattle.r4_ports.specs.Told.{Appended, AppendedPrefix, Rose, HasCause}
use Rattle.r4_ports.specs.Writing.{Stand, Handed, Writes, IsFresh}

-- what a sink tells, tells it with nothing appended
pub appended_nothing : (w : Option (List ℕ)) → Appended w w []
appended_nothing None = tt
appended_nothing (Some xs) = sym (append-nil xs)

-- one text after another
pub appended_then : (a b c : Option (List ℕ)) (x y : List ℕ) → Appended a b x → Appended b c y → Appended a c (x ++ y)
appended_then a b None x y p q = tt
appended_then (Some a) (Some b) (Some c) x y p q = q ∙ ap (λ s. s ++ y) p ∙ append_assoc a x y
appended_then None (Some b) (Some c) x y p q = p
appended_then a None (Some c) x y p q = absurd q

-- a prefix of a text is a prefix of a longer one
pub prefix_more : (a b : Option (List ℕ)) (x y : List ℕ) → AppendedPrefix a b x → AppendedPrefix a b (x ++ y)
prefix_more a b x y p = record {
  front = p.front;
  rest = p.rest ++ y;
  is_text = sym (append_assoc p.front p.rest y) ∙ ap (λ s. s ++ y) p.is_text;
  appended = p.appended;
}

-- it cannot be that a write has failed and that none has
both : (failed : Bool) → failed ≡ true → failed ≡ false → ⊥
both failed is_set is_clear = both_ways failed is_clear is_set

-- after a text, and one more, all but what is pending was handed over
handed_then : (a b c : Stand) (x y : List ℕ) → Handed a b x → Handed b c y → Handed a c (x ++ y)
handed_then a b c x y p q = record {
  sent = p.sent ++ q.sent;
  is_all =
      append_assoc p.sent q.sent c.pending ∙ ap (λ s. p.sent ++ s) q.is_all ∙ sym (append_assoc p.sent b.pending y)
      ∙ ap (λ s. s ++ y) p.is_all ∙ append_assoc a.pending x y;
  appended = appended_then a.written b.written c.written p.sent q.sent p.appended q.appended;
}

-- after a text, and a prefix of the next with what was pending, a prefix of both was appended
prefix_then : (a b c : Stand) (x y : List ℕ) → Handed a b x → AppendedPrefix b.written c.written (b.pending ++ y) → AppendedPrefix a.written c.written (a.pending ++ (x ++ y))
prefix_then a b c x y p q = record {
  front = p.sent ++ q.front;
  rest = q.rest;
  is_text =
      append_assoc p.sent q.front q.rest ∙ ap (λ s. p.sent ++ s) q.is_text ∙ sym (append_assoc p.sent b.pending y)
      ∙ ap (λ s. s ++ y) p.is_all ∙ append_assoc a.pending x y;
  appended = appended_then a.written b.written c.written p.sent q.front p.appended q.appended;
}

-- a text after a text
pub writes_then : (a b c : Stand) (x y : List ℕ) → Writes b c y → Writes a b x → Writes a c (x ++ y)
writes_then a b c x y q p = record {
  whole = λ start end. ⊎_elim
      (λ failed. absurd (both c.failed (q.stays_failed failed) end))
      (λ fine. handed_then a b c x y (p.whole start fine) (q.whole fine end))
      (cases_Bool b.failed);
  prefix = λ start end. ⊎_elim
      (λ failed. subst (λ w. AppendedPrefix a.written w (a.pending ++ (x ++ y))) (sym (q.nothing_more failed))
      (subst (AppendedPrefix a.written b.written) (append_assoc a.pending x y) (prefix_more a.written b.written (a.pending ++ x) y (p.prefix start failed))))
      (λ fine. prefix_then a b c x y (p.whole start fine) (q.prefix fine end))
      (cases_Bool b.failed);
  cause = λ start end. ⊎_elim
      (λ failed. let rose : Rose a.faults b.faults = p.cause start failed in omega (arith, rose, q.never_falls))
      (λ fine. let rose : Rose b.faults c.faults = q.cause fine end in omega (arith, rose, p.never_falls))
      (cases_Bool b.failed);
  stays_failed = λ failed. q.stays_failed (p.stays_failed failed);
  nothing_more = λ failed. q.nothing_more (p.stays_failed failed) ∙ p.nothing_more failed;
  never_falls = omega (arith, p.never_falls, q.never_falls);
}

-- a text that joins what is pending
pub writes_pending : (a b : Stand) (text : List ℕ) → b.written ≡ a.written → b.faults ≡ a.faults → b.failed ≡ a.failed → b.pending ≡ a.pending ++ text → Writes a b text
writes_pending a b text written faults failed pending = record {
  whole = λ start end. record { sent = []; is_all = pending; appended = subst (λ w. Appended a.written w []) (sym written) (appended_nothing a.written) };
  prefix = λ start end. absurd (both b.failed end (failed ∙ start));
  cause = λ start end. absurd (both b.failed end (failed ∙ start));
  stays_failed = λ before. failed ∙ before;
  nothing_more = λ before. written;
  never_falls = omega (arith, faults);
}

-- no text leaves the stand as it is
pub writes_nothing : (a : Stand) → Writes a a []
writes_nothing a = writes_pending a a [] refl refl refl (sym (append-nil a.pending))

-- a text under another name
pub writes_same : (a b : Stand) (x y : List ℕ) → Writes a b x → x ≡ y → Writes a b y
writes_same a b x y p is = subst (Writes a b) is p

-- a line after a text, where the line is known by an equation
pub writes_line : (a b c : Stand) (x y z : List ℕ) → Writes b c z → z ≡ y → Writes a b x → Writes a c (x ++ y)
writes_line a b c x y z q is p = writes_then a b c x y (writes_same b c z y q is) p

-- Once a write has failed, nothing more is written.
pub writes_stopped : (a : Stand) (text : List ℕ) → a.failed ≡ true → Writes a a text
writes_stopped a text failed = record {
  whole = λ start end. absurd (both a.failed failed start);
  prefix = λ start end. absurd (both a.failed failed start);
  cause = λ start end. absurd (both a.failed failed start);
  stays_failed = λ before. before;
  nothing_more = λ before. refl;
  never_falls = omega arith;
}

-- What is pending was handed over: to a sink that took it, or failed at it.
pub handed_over : (a b : Stand) → b.pending ≡ [] → a.failed ≡ false → (b.failed ≡ false → Appended a.written b.written a.pending) →
    (b.failed ≡ true → AppendedPrefix a.written b.written a.pending) → (b.failed ≡ true → Rose a.faults b.faults) → a.faults ≤ b.faults → Writes a b []
handed_over a b empty start took failed_at rose falls = record {
  whole = λ before end. record { sent = a.pending; is_all = ap (λ s. a.pending ++ s) empty; appended = took end };
  prefix = λ before end. subst (AppendedPrefix a.written b.written) (sym (append-nil a.pending)) (failed_at end);
  cause = λ before end. rose end;
  stays_failed = λ before. absurd (both a.failed before start);
  nothing_more = λ before. absurd (both a.failed before start);
  never_falls = falls;
}

-- A sink was flushed: it tells what it told, and where the flush failed its count rose.
pub flushed_over : (a b : Stand) → a.failed ≡ false → b.pending ≡ a.pending → b.written ≡ a.written → (b.failed ≡ true → Rose a.faults b.faults) → a.faults ≤ b.faults → Writes a b []
flushed_over a b start pending written rose falls = record {
  whole = λ before end. record { sent = []; is_all = pending ∙ sym (append-nil a.pending); appended = subst (λ w. Appended a.written w []) (sym written) (appended_nothing a.written) };
  prefix = λ before end. record { front = []; rest = a.pending ++ []; is_text = refl; appended = subst (λ w. Appended a.written w []) (sym written) (appended_nothing a.written) };
  cause = λ before end. rose end;
  stays_failed = λ before. absurd (both a.failed before start);
  nothing_more = λ before. written;
  never_falls = falls;
}

-- THE WHOLE TEXT: from a fresh stand, with all handed over at the end

-- without a failure the whole text was appended
all_appended : (a m b : Stand) (text : List ℕ) → IsFresh a → Writes a m text → Writes m b [] → b.pending ≡ [] → b.failed ≡ false → Appended a.written b.written text
all_appended a m b text fresh wrote handed empty fine =
    let whole : Handed a b (text ++ []) = (writes_then a m b text [] handed wrote).whole fresh.failed fine in
    let sent : whole.sent ≡ text =
    sym (append-nil whole.sent) ∙ ap (λ s. whole.sent ++ s) (sym empty) ∙ whole.is_all ∙ ap (λ s. s ++ (text ++ [])) fresh.pending ∙ append-nil text in
    subst (Appended a.written b.written) sent whole.appended

-- with one, a prefix of it
prefix_appended : (a m b : Stand) (text : List ℕ) → IsFresh a → Writes a m text → Writes m b [] → b.failed ≡ true → AppendedPrefix a.written b.written text
prefix_appended a m b text fresh wrote handed failed =
    let prefix : AppendedPrefix a.written b.written (a.pending ++ (text ++ [])) = (writes_then a m b text [] handed wrote).prefix fresh.failed failed in
    subst (AppendedPrefix a.written b.written) (ap (λ s. s ++ (text ++ [])) fresh.pending ∙ append-nil text) prefix

-- a writer's answer Ok says that the whole text was appended
pub ok_appended : {T E : Type 0} (a m b : Stand) (text : List ℕ) (result : Result T E) → IsFresh a → Writes a m text → Writes m b [] → b.pending ≡ [] →
    OnOk result (b.failed ≡ false) → OnOk result (Appended a.written b.written text)
ok_appended a m b text (Ok done) fresh wrote handed empty fine = all_appended a m b text fresh wrote handed empty fine
ok_appended a m b text (Err fault) fresh wrote handed empty fine = tt

-- its answer Err, that a prefix of it was
pub err_appended : {T E : Type 0} (a m b : Stand) (text : List ℕ) (result : Result T E) → IsFresh a → Writes a m text → Writes m b [] →
    OnErr result (b.failed ≡ true) → OnErr result (AppendedPrefix a.written b.written text)
err_appended a m b text (Ok done) fresh wrote handed failed = tt
err_appended a m b text (Err fault) fresh wrote handed failed = prefix_appended a m b text fresh wrote handed failed

counted_on_err : {T E : Type 0} (a b : Stand) (text : List ℕ) (result : Result T E) → IsFresh a → Writes a b text → OnErr result (b.failed ≡ true) → OnErr result (Rose a.faults b.faults)
counted_on_err a b text (Ok done) fresh wrote failed = tt
counted_on_err a b text (Err fault) fresh wrote failed = wrote.cause fresh.failed failed

-- and Err has its cause in the sink
pub err_caused : {T E : Type 0} (a m b : Stand) (text : List ℕ) (result : Result T E) → IsFresh a → Writes a m text → Writes m b [] →
    OnErr result (b.failed ≡ true) → HasCause a.faults b.faults result
err_caused a m b text result fresh wrote handed failed =
    let all : Writes a b (text ++ []) = writes_then a m b text [] handed wrote in
    record { never_falls = all.never_falls; on_err = counted_on_err a b (text ++ []) result fresh all failed }
