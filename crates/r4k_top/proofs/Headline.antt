-- The clauses of the top call, from what its calls ensure.
use Rattle.std.proofs.Common.{◌≡◌, ℕ, Bool, ◌⊎◌, List, [], ◌++◌, Option, Some, None, IsNone, refl, sym, ap, subst, ◌∙◌, inl, inr}
use Rattle.r4_ports.specs.Told.{Files, Call, Rose, Appended, AppendedPrefix}
use Rattle.r4k_top.specs.declared.statuses.Status.{Status}
use Rattle.r4k_top.specs.declared.statuses.Status.TheVariants.{Done, Breach, Usage, ReadFault, WriteFault, BadImage, BadScript, BadSource, Memory, BadTrace, TooLong}
use Rattle.r4k_top.specs.Command.{Command, out_name}
use Rattle.r4k_top.specs.Wanted.{fetches_of, puts_to, calls_of}
use Rattle.r4k_top.specs.Outcome.{File, Made, Makes, file_name, outcome_of}
use Rattle.r4k_top.specs.Answers.{MayAnswer, IsComplete, IsRefusal, status_of, status_of_verdict}
use Rattle.r4k_top.specs.Clauses.{ComesTo, EndsWith, IfMade, Written, WrittenPrefix, HasPut, FilePut, PutRose, OthersStay, AskedPrefix, AskedUpTo}
use Rattle.r4k_top.specs.Stands.{Ports, Outside, Stands, NothingPut, NothingMade, FileRefused, AllMade, WriteFailed, PutFailed, outside}
use Rattle.r4k_top.specs.Making.{IsLate, MadeOf, StoppedWith, PutAfter, Delivered}
use Rattle.r4k_top.proofs.Reading.{calls_then, weaker}

-- WORDS THAT ARE NO COMMAND

pub usage_ends : (said : Option Command) (held : Option Files) → IsNone said → EndsWith said held Usage
unfolding outcome_of
usage_ends None None none = tt
usage_ends None (Some files) none = refl
usage_ends (Some command) held none = cc

-- THE CALLS OF THE SHELF

-- all calls of a job that is complete
pub all_asked : (said : Option Command) (command : Command) (held : Option Files) (a b c : Option (List Call)) (made : Made) →
    said ≡ Some command → MadeOf (Some command) held a b made → Appended b c (puts_to (file_name made.file)) → Appended a c (calls_of said)
all_asked said command held a b c made is of put =
    subst (λ s. Appended a c (calls_of s)) (sym is)
    (subst (λ name. Appended a c (fetches_of (Some command) ++ puts_to name)) of.named
    (calls_then a b c (fetches_of (Some command)) (puts_to (file_name made.file)) of.calls put))

-- WHAT A FAILED DELIVERY LEAVES

-- the text that is written of what the words come to
written_of : (said : Option Command) (command : Command) (held : Option Files) (before now : Option (List Call)) (made : Made) (u v : Option (List ℕ)) →
    said ≡ Some command → MadeOf (Some command) held before now made → Appended u v made.text → ComesTo said held (Written u v)
written_of said command held before now made u v is of text =
    subst (λ s. ComesTo s held (Written u v)) (sym is)
    (weaker (Some command) held (λ o. o.end ≡ Makes made) (Written u v) (λ o e. subst (IfMade (λ m. Appended u v m.text)) (sym e) text) of.came)

-- a prefix of the text that is written of what the words come to
prefix_of : (said : Option Command) (command : Command) (held : Option Files) (before now : Option (List Call)) (made : Made) (u v : Option (List ℕ)) →
    said ≡ Some command → MadeOf (Some command) held before now made → AppendedPrefix u v made.text → ComesTo said held (WrittenPrefix u v)
prefix_of said command held before now made u v is of text =
    subst (λ s. ComesTo s held (WrittenPrefix u v)) (sym is)
    (weaker (Some command) held (λ o. o.end ≡ Makes made) (WrittenPrefix u v) (λ o e. subst (IfMade (λ m. AppendedPrefix u v m.text)) (sym e) text) of.came)

no_file : (file : Option File) → file_name file ≡ None → IsNone file
no_file None e = refl
no_file (Some file) e = cc

-- THE ANSWER OF A DELIVERY

complete_ends : (said : Option Command) (command : Command) (held : Option Files) (before now : Option (List Call)) (made : Made) (answer : Status) →
    said ≡ Some command → MadeOf (Some command) held before now made → answer ≡ status_of_verdict made.verdict → EndsWith said held answer
complete_ends said command held before now made answer is of verdict =
    subst (λ s. EndsWith s held answer) (sym is)
    (weaker (Some command) held (λ o. o.end ≡ Makes made) (λ o. answer ≡ status_of o.end) (λ o e. verdict ∙ ap status_of (sym e)) of.came)

cause_named : (said : Option Command) (command : Command) (held : Option Files) (before now : Option (List Call)) (made : Made) (f h m n k : ℕ) →
    said ≡ Some command → MadeOf (Some command) held before now made → n ≡ m → Rose f h ⊎ PutRose (file_name made.file) n k → Rose f h ⊎ PutRose (out_name said) m k
cause_named said command held before now made f h m n k is of same (inl rose) = inl rose
cause_named said command held before now made f h m n k is of same (inr put) =
    inr (subst (λ s. PutRose (out_name s) m k) (sym is) (subst (λ c. PutRose (out_name (Some command)) c k) same (subst (λ name. PutRose name n k) of.named put)))

-- complete with the status of what the words come to, or with a failure that has its cause outside
pub delivered_answer : (said : Option Command) (command : Command) (held : Option Files) (before now : Option (List Call)) (made : Made) (unread : Type 0) (f h m n k : ℕ) (answer : Status) →
    said ≡ Some command → MadeOf (Some command) held before now made → IsLate answer → n ≡ m → (IsComplete answer → answer ≡ status_of_verdict made.verdict) →
    (answer ≡ WriteFault → Rose f h ⊎ PutRose (file_name made.file) n k) → MayAnswer unread (Rose f h ⊎ PutRose (out_name said) m k) (EndsWith said held) answer
delivered_answer said command held before now made unread f h m n k Done is of late same verdict cause = complete_ends said command held before now made Done is of (verdict tt)
delivered_answer said command held before now made unread f h m n k (Breach event breach) is of late same verdict cause = complete_ends said command held before now made (Breach event breach) is of (verdict tt)
delivered_answer said command held before now made unread f h m n k WriteFault is of late same verdict cause = cause_named said command held before now made f h m n k is of same (cause refl)
delivered_answer said command held before now made unread f h m n k Usage is of late same verdict cause = absurd late
delivered_answer said command held before now made unread f h m n k ReadFault is of late same verdict cause = absurd late
delivered_answer said command held before now made unread f h m n k (BadImage rule offset) is of late same verdict cause = absurd late
delivered_answer said command held before now made unread f h m n k (BadScript line reason) is of late same verdict cause = absurd late
delivered_answer said command held before now made unread f h m n k (BadSource line reason) is of late same verdict cause = absurd late
delivered_answer said command held before now made unread f h m n k Memory is of late same verdict cause = absurd late
delivered_answer said command held before now made unread f h m n k (BadTrace line) is of late same verdict cause = absurd late
delivered_answer said command held before now made unread f h m n k TooLong is of late same verdict cause = absurd late

-- the file of a complete job was put
file_of_delivery : (said : Option Command) (command : Command) (held held' now' : Option Files) (before now : Option (List Call)) (made : Made) →
    said ≡ Some command → MadeOf (Some command) held before now made → held' ≡ held → HasPut held' now' made.file → ComesTo said held (FilePut held now')
file_of_delivery said command held held' now' before now made is of same put =
    subst (λ s. ComesTo s held (FilePut held now')) (sym is)
    (weaker (Some command) held (λ o. o.end ≡ Makes made) (FilePut held now')
    (λ o e. subst (IfMade (λ m. HasPut held now' m.file)) (sym e) (subst (λ h. HasPut h now' made.file) same put)) of.came)

-- WHAT STANDS

module _ {S K : Type 0} (ports : Ports S K) (said : Option Command) (command : Command) (a b c : S) (u v : K) (made : Made)
    (is : said ≡ Some command) (of : MadeOf (Some command) (ports.held a) (ports.asked a) (ports.asked b) made)
    (same : ports.held b ≡ ports.held a) (count : ports.put_faults b ≡ ports.put_faults a) where
  -- the name of the file that is made is that of the words
  put_name : file_name made.file ≡ out_name said
  put_name = of.named ∙ ap out_name (sym is)

  -- without a name nothing is put
  unput : (IsNone made.file → c ≡ b) → IsNone (out_name said) → NothingPut ports (outside a u) (outside c v)
  unput none named =
      let stays : c ≡ b = none (no_file made.file (put_name ∙ none_is (out_name said) named)) in
      record { files = ap ports.held stays ∙ same; no_put = ap ports.put_faults stays ∙ count }
    where
      none_is : (name : Option (List ℕ)) → IsNone name → name ≡ None
      none_is None n = refl
      none_is (Some name) n = cc

  -- the other files
  others_of : OthersStay (file_name made.file) (ports.held b) (ports.held c) → OthersStay (out_name said) (ports.held a) (ports.held c)
  others_of others =
      subst (λ held. OthersStay (out_name said) held (ports.held c)) same
      (subst (λ name. OthersStay name (ports.held b) (ports.held c)) put_name others)

  module _ (answer : Status) (d : Delivered ports.held ports.asked ports.put_faults b c (ports.written u) (ports.written v) (ports.is_flushed v)
      (ports.faults u) (ports.faults v) made answer) where
    all_made : IsComplete answer → AllMade ports said (outside a u) (outside c v)
    all_made complete = record {
      text = written_of said command (ports.held a) (ports.asked a) (ports.asked b) made (ports.written u) (ports.written v) is of (d.written complete);
      flushed = d.flushed complete;
      file = file_of_delivery said command (ports.held a) (ports.held b) (ports.held c) (ports.asked a) (ports.asked b) made is of same (d.put complete);
      no_file = unput d.none;
      others = others_of d.others;
      calls = all_asked said command (ports.held a) (ports.asked a) (ports.asked b) (ports.asked c) made is of (d.asked_put complete);
    }

    write_failed : Rose (ports.faults u) (ports.faults v) × (c ≡ b) → AppendedPrefix (ports.written u) (ports.written v) made.text →
        WriteFailed ports said (outside a u) (outside c v)
    write_failed stop prefix = record {
      rose = stop.0;
      text = prefix_of said command (ports.held a) (ports.asked a) (ports.asked b) made (ports.written u) (ports.written v) is of prefix;
      put = record { files = ap ports.held stop.1 ∙ same; no_put = ap ports.put_faults stop.1 ∙ count };
      calls = subst (λ s. Appended (ports.asked a) (ports.asked s) (fetches_of said)) (sym stop.1)
          (subst (λ s. Appended (ports.asked a) (ports.asked b) (fetches_of s)) (sym is) of.calls);
    }

    put_failed : PutAfter made (ports.written u) (ports.written v) (ports.is_flushed v) (ports.asked b) (ports.asked c) (ports.put_faults b) (ports.put_faults c) →
        PutFailed ports said (outside a u) (outside c v)
    put_failed put = record {
      rose = subst (λ n. PutRose (out_name said) n (ports.put_faults c)) count
          (subst (λ name. PutRose name (ports.put_faults b) (ports.put_faults c)) put_name put.rose);
      text = written_of said command (ports.held a) (ports.asked a) (ports.asked b) made (ports.written u) (ports.written v) is of put.text;
      flushed = put.flushed;
      others = others_of d.others;
      calls = all_asked said command (ports.held a) (ports.asked a) (ports.asked b) (ports.asked c) made is of put.calls;
    }

    failed : (Rose (ports.faults u) (ports.faults v) × (c ≡ b))
        ⊎ PutAfter made (ports.written u) (ports.written v) (ports.is_flushed v) (ports.asked b) (ports.asked c) (ports.put_faults b) (ports.put_faults c) →
        AppendedPrefix (ports.written u) (ports.written v) made.text →
        WriteFailed ports said (outside a u) (outside c v) ⊎ PutFailed ports said (outside a u) (outside c v)
    failed (inl stop) prefix = inl (write_failed stop prefix)
    failed (inr put) prefix = inr (put_failed put)

  -- after a delivery
  pub delivered_stands : (answer : Status) → Delivered ports.held ports.asked ports.put_faults b c (ports.written u) (ports.written v) (ports.is_flushed v)
      (ports.faults u) (ports.faults v) made answer → Stands ports said (outside a u) (outside c v) answer
  delivered_stands Done d = all_made Done d tt
  delivered_stands (Breach event breach) d = all_made (Breach event breach) d tt
  delivered_stands WriteFault d = failed WriteFault d (d.stops refl) (d.prefix refl)
  delivered_stands Usage d = absurd d.late
  delivered_stands ReadFault d = absurd d.late
  delivered_stands (BadImage rule offset) d = absurd d.late
  delivered_stands (BadScript line reason) d = absurd d.late
  delivered_stands (BadSource line reason) d = absurd d.late
  delivered_stands Memory d = absurd d.late
  delivered_stands (BadTrace line) d = absurd d.late
  delivered_stands TooLong d = absurd d.late

module _ {S K : Type 0} (ports : Ports S K) (said : Option Command) (command : Command) (a b : S) (u : K) (unread : Type 0)
    (is : said ≡ Some command) (same : ports.held b ≡ ports.held a) (count : ports.put_faults b ≡ ports.put_faults a) where
  module _ (answer : Status) (stop : StoppedWith (Some command) (ports.held a) (ports.asked a) (ports.asked b) unread answer) where
    nothing_made : NothingMade ports said (outside a u) (outside b u)
    nothing_made = record {
      sink = refl;
      put = record { files = same; no_put = count };
      fetches = subst (λ s. AskedPrefix (ports.asked a) (ports.asked b) (fetches_of s)) (sym is) stop.calls;
    }

    refused : IsRefusal answer → FileRefused ports said (outside a u) (outside b u)
    refused refusal = record {
      nothing = nothing_made;
      up_to = subst (λ s. AskedUpTo s (ports.held a) (ports.asked a) (ports.asked b)) (sym is) (stop.up_to refusal);
    }

  -- where nothing is made
  pub stopped_stands : (answer : Status) → StoppedWith (Some command) (ports.held a) (ports.asked a) (ports.asked b) unread answer →
      Stands ports said (outside a u) (outside b u) answer
  stopped_stands ReadFault stop = nothing_made ReadFault stop
  stopped_stands Memory stop = nothing_made Memory stop
  stopped_stands (BadImage rule offset) stop = refused (BadImage rule offset) stop tt
  stopped_stands (BadScript line reason) stop = refused (BadScript line reason) stop tt
  stopped_stands (BadSource line reason) stop = refused (BadSource line reason) stop tt
  stopped_stands (BadTrace line) stop = refused (BadTrace line) stop tt
  stopped_stands TooLong stop = refused TooLong stop tt
  stopped_stands Done stop = absurd stop.answer
  stopped_stands (Breach event breach) stop = absurd stop.answer
  stopped_stands Usage stop = absurd stop.answer
  stopped_stands WriteFault stop = absurd stop.answer

-- the text of a job that is complete
pub text_of_complete : {S K : Type 0} (ports : Ports S K) (said : Option Command) (before after : Outside S K) (answer : Status) → Stands ports said before after answer →
    IsComplete answer → ComesTo said (ports.held before.shelf) (Written (ports.written before.sink) (ports.written after.sink))
text_of_complete ports said before after Done stands complete = stands.text
text_of_complete ports said before after (Breach event breach) stands complete = stands.text
text_of_complete ports said before after Usage stands complete = absurd complete
text_of_complete ports said before after ReadFault stands complete = absurd complete
text_of_complete ports said before after WriteFault stands complete = absurd complete
text_of_complete ports said before after (BadImage rule offset) stands complete = absurd complete
text_of_complete ports said before after (BadScript line reason) stands complete = absurd complete
text_of_complete ports said before after (BadSource line reason) stands complete = absurd complete
text_of_complete ports said before after Memory stands complete = absurd complete
text_of_complete ports said before after (BadTrace line) stands complete = absurd complete
text_of_complete ports said before after TooLong stands complete = absurd complete
