-- The other files stay where one is put, and where the put fails.
use Rattle.std.proofs.Common.{◌≡◌, ℕ, Bool, true, false, List, Option, Some, None, Result, Ok, Err, OnOk, OnErr, cond, refl, sym, ap, subst, ◌∙◌, [], inl, inr}
use Rattle.std.specs.Str.{bytes_eq}
use Rattle.std.specs.Cmp.Lexicographic.{nat_list_cmp_total}
use Rattle.std.specs.FinMap.{get, get-insert}
use Rattle.std.proofs.lemmas.Map.Text.{is_eq-slice_cmp}
use Rattle.std.proofs.lemmas.Slice.Eq.{bytes_eq-Decides}
use Rattle.r4_ports.specs.declared.PutFault.{PutFault}
use Rattle.r4_ports.specs.Told.{Files, PutInto}
use Rattle.r4_ports.specs.Told.{Call, Appended, AppendedPrefix, Rose}
use Rattle.std.proofs.lemmas.List.{append-nil}
use Rattle.machine_core.specs.Run.{run_of}
use Rattle.machine_core.specs.Shown.{shown_of}
use Rattle.machine_core.specs.Traced.{machine_in}
use Rattle.trace_check.specs.Verdicts.{Standing, verdict_by}
use Rattle.judged_run.specs.JudgedMachines.{JudgedState, HasRun}
use Rattle.r4k_top.specs.declared.statuses.Status.{Status}
use Rattle.r4k_top.specs.declared.statuses.Status.TheVariants.{WriteFault}
use Rattle.r4k_top.specs.Outcome.{Made, file_name, named_file, checked}
use Rattle.r4k_top.specs.EndShown.{traced_shown}
use Rattle.r4k_top.specs.Making.{Placed, Delivered}
use Rattle.r4k_top.specs.Clauses.{OthersStay}

is_false : {P : Type 0} (b : Bool) → (b ≡ true → P) → ¬ P → b ≡ false
is_false true says not_so = absurd (not_so (says refl))
is_false false says not_so = refl

-- the other files stay where one is put
others_stay : (before now : Option Files) (name bytes : List ℕ) → PutInto before now name bytes → OthersStay (Some name) before now
others_stay before None name bytes p = tt
others_stay (Some before) (Some now) name bytes p = λ other ne.
    ap (λ files. get files other) p
    ∙ get-insert nat_list_cmp_total before name bytes other
    ∙ ap (λ b. cond b (Some bytes) (get before other))
    (is_eq-slice_cmp other name ∙ is_false (bytes_eq other name) (λ e. ap Some (sym ((bytes_eq-Decides other name).0 e))) ne)
others_stay None (Some now) name bytes p = absurd p

-- and where the put fails
pub others_put : (result : Result (Unit {0}) PutFault) (before now : Option Files) (name bytes : List ℕ) →
    OnOk result (PutInto before now name bytes) → OnErr result (now ≡ None) → OthersStay (Some name) before now
others_put (Ok done) before now name bytes ok err = others_stay before now name bytes ok
others_put (Err fault) before now name bytes ok err = subst (λ n. OthersStay (Some name) before n) (sym err) tt

-- A text that has gone out, and then the file.
pub delivered : {S : Type 0} (held : S → Option Files) (asked : S → Option (List Call)) (puts : S → ℕ) (before now : S) (u v : Option (List ℕ)) (gone : Bool) (f h : ℕ) (made : Made) (answer : Status) →
    Appended u v made.text → gone ≡ true → Placed held asked puts before now made.verdict made.file answer → Delivered held asked puts before now u v gone f h made answer
delivered held asked puts before now u v gone f h made answer text flushed placed = record {
  late = placed.late;
  verdict = placed.verdict_is;
  written = λ is. text;
  flushed = λ is. flushed;
  put = placed.put;
  asked_put = λ is. placed.calls;
  prefix = λ is. whole_prefix u v made.text text;
  cause = λ is. inr (placed.rose is);
  stops = λ is. inr (record { text = text; flushed = flushed; calls = placed.calls; rose = placed.rose is });
  none = placed.none;
  others = placed.others;
}
  where
    whole_prefix : (u v : Option (List ℕ)) (text : List ℕ) → Appended u v text → AppendedPrefix u v text
    whole_prefix u v text all = record { front = text; rest = []; is_text = append-nil text; appended = all }

same_files : (before : Option Files) (name : Option (List ℕ)) → OthersStay name before before
same_files None name = tt
same_files (Some files) name = λ other ne. refl

-- A write or the flush that failed, after which no put is tried.
pub undelivered : {S : Type 0} (held : S → Option Files) (asked : S → Option (List Call)) (puts : S → ℕ) (before : S) (u v : Option (List ℕ)) (gone : Bool) (f h : ℕ) (made : Made) →
    AppendedPrefix u v made.text → Rose f h → Delivered held asked puts before before u v gone f h made WriteFault
undelivered held asked puts before u v gone f h made prefix rose = record {
  late = tt;
  verdict = λ is. absurd is;
  written = λ is. absurd is;
  flushed = λ is. absurd is;
  put = λ is. absurd is;
  asked_put = λ is. absurd is;
  prefix = λ is. prefix;
  cause = λ is. inl rose;
  stops = λ is. inl (rose, refl);
  none = λ is. refl;
  others = same_files (held before) (file_name made.file);
}

-- The file and the verdict of a run that was made while its trace was written.
pub placed_traced : {S : Type 0} (held : S → Option Files) (asked : S → Option (List Call)) (puts : S → ℕ) (before now : S) (answer : Status) (out : Option (List ℕ)) (steps : ℕ) (old new : JudgedState) →
    HasRun steps old new → Placed held asked puts before now (checked out [] new.judge.first (machine_in new.machine)).verdict (checked out [] new.judge.first (machine_in new.machine)).file answer →
    Placed held asked puts before now (traced_shown out steps old).verdict (traced_shown out steps old).file answer
placed_traced held asked puts before now answer out steps old new run placed =
    subst (λ first. Placed held asked puts before now (Some (verdict_by first)) (named_file out (shown_of (run_of steps (machine_in old.machine)).machine).disk) answer)
    (ap (λ (standing : Standing). standing.first) run.standing)
    (subst (λ machine. Placed held asked puts before now (Some (verdict_by new.judge.first)) (named_file out (shown_of machine).disk) answer) run.machine placed)
