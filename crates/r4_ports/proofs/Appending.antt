-- What is appended to a buffer of texts keeps the texts before it, and adds one.
use Rattle.std.proofs.Common.{◌≡◌, ◌+◌, ℕ, List, [], ◌∷◌, ◌++◌, Some, map, length, ap, ◌∙◌, arith, subst, unwrap_or, slice_get, zero, suc, length-append}
use Rattle.std.proofs.lemmas.Grind.{common_steps}
use Rattle.r4_ports.specs.Spans.{text_at, span_after, Within}
use Rattle.r4_ports.specs.PutLog.{put_at, AllPutsWithin}
use Rattle.r4_ports.specs.CallLog.{call_at, AllCallsWithin}
use Rattle.r4_ports.specs.declared.CallKind.{CallKind}
use Rattle.r4_ports.specs.declared.spans.Span.{Span}
use Rattle.r4_ports.specs.declared.put_log.PutRecord.{PutRecord}
use Rattle.r4_ports.specs.declared.call_log.CallRecord.{CallRecord}

pub within_more : (size more : ℕ) (span : Span) → Within size span → Within (size + more) span
within_more size more span w = record { ordered = w.ordered; inside = omega (arith, w.inside) }

pub text_at_before : (buffer more : List ℕ) (span : Span) → Within (length buffer) span → text_at (buffer ++ more) span ≡ text_at buffer span
text_at_before buffer more span w = let a = w.ordered in let b = w.inside in grind (arith, common_steps)

pub text_at_last : (buffer text : List ℕ) → text_at (buffer ++ text) (span_after buffer text) ≡ text
text_at_last buffer text = grind (arith, common_steps)

-- a span of the text that was appended lies within the buffer
span_after_within : (buffer text : List ℕ) → Within (length buffer + length text) (span_after buffer text)
span_after_within buffer text = record { ordered = omega arith; inside = omega arith }

puts_within_more : (size more : ℕ) (puts : List PutRecord) → AllPutsWithin size puts → AllPutsWithin (size + more) puts
puts_within_more size more [] w = tt
puts_within_more size more (put ∷ puts) w = (within_more size more put.name w.0, within_more size more put.bytes w.1, puts_within_more size more puts w.2)

puts_within_and : (size : ℕ) (puts : List PutRecord) (put : PutRecord) → AllPutsWithin size puts → Within size put.name → Within size put.bytes → AllPutsWithin size (puts ++ put ∷ [])
puts_within_and size [] put w n b = (n, b, tt)
puts_within_and size (first ∷ puts) put w n b = (w.0, w.1, puts_within_and size puts put w.2 n b)

-- the record of a put whose name and bytes are appended
abbrev pub put_after : List ℕ → List ℕ → List ℕ → PutRecord
put_after buffer name bytes = record { name = span_after buffer name; bytes = span_after (buffer ++ name) bytes }

-- all puts lie within the buffer after one more
pub puts_within_after : (buffer name bytes : List ℕ) (puts : List PutRecord) → AllPutsWithin (length buffer) puts → AllPutsWithin (length (buffer ++ name ++ bytes)) (puts ++ put_after buffer name bytes ∷ [])
puts_within_after buffer name bytes puts w =
    rw (length-append (buffer ++ name) bytes)
    (puts_within_and _ puts (put_after buffer name bytes)
    (rw (length-append buffer name) (puts_within_more _ (length bytes) puts (puts_within_more _ (length name) puts w)))
    (rw (length-append buffer name) (within_more _ (length bytes) _ (span_after_within buffer name)))
    (span_after_within (buffer ++ name) bytes))

-- the puts after one more
pub puts_at_after : (buffer name bytes : List ℕ) (puts : List PutRecord) → AllPutsWithin (length buffer) puts → map (put_at (buffer ++ name ++ bytes)) (puts ++ put_after buffer name bytes ∷ []) ≡ map (put_at buffer) puts ++ (name, bytes) ∷ []
puts_at_after buffer name bytes [] w = λ i. (name_is i, text_at_last (buffer ++ name) bytes i) ∷ []
  where
    name_is : text_at (buffer ++ name ++ bytes) (span_after buffer name) ≡ name
    name_is = text_at_before (buffer ++ name) bytes (span_after buffer name) (rw (length-append buffer name) (span_after_within buffer name)) ∙ text_at_last buffer name
puts_at_after buffer name bytes (put ∷ puts) w = λ i. (kept put.name w.0 i, kept put.bytes w.1 i) ∷ puts_at_after buffer name bytes puts w.2 i
  where
    kept : (span : Span) → Within (length buffer) span → text_at (buffer ++ name ++ bytes) span ≡ text_at buffer span
    kept span within = text_at_before (buffer ++ name) bytes span (rw (length-append buffer name) (within_more _ _ span within)) ∙ text_at_before buffer name span within

calls_within_more : (size more : ℕ) (calls : List CallRecord) → AllCallsWithin size calls → AllCallsWithin (size + more) calls
calls_within_more size more [] w = tt
calls_within_more size more (call ∷ calls) w = (within_more size more call.name w.0, calls_within_more size more calls w.1)

calls_within_and : (size : ℕ) (calls : List CallRecord) (call : CallRecord) → AllCallsWithin size calls → Within size call.name → AllCallsWithin size (calls ++ call ∷ [])
calls_within_and size [] call w n = (n, tt)
calls_within_and size (first ∷ calls) call w n = (w.0, calls_within_and size calls call w.1 n)

-- the record of a call whose name is appended
abbrev pub call_after : List ℕ → CallKind → List ℕ → CallRecord
call_after buffer kind name = record { kind = kind; name = span_after buffer name }

-- all calls lie within the buffer after one more
pub calls_within_after : (buffer name : List ℕ) (kind : CallKind) (calls : List CallRecord) → AllCallsWithin (length buffer) calls → AllCallsWithin (length (buffer ++ name)) (calls ++ call_after buffer kind name ∷ [])
calls_within_after buffer name kind calls w =
    rw (length-append buffer name)
    (calls_within_and _ calls (call_after buffer kind name) (calls_within_more _ (length name) calls w) (span_after_within buffer name))

-- the calls after one more
pub calls_at_after : (buffer name : List ℕ) (kind : CallKind) (calls : List CallRecord) → AllCallsWithin (length buffer) calls → map (call_at (buffer ++ name)) (calls ++ call_after buffer kind name ∷ []) ≡ map (call_at buffer) calls ++ record { kind = kind; name = name } ∷ []
calls_at_after buffer name kind [] w = λ i. record { kind = kind; name = text_at_last buffer name i } ∷ []
calls_at_after buffer name kind (call ∷ calls) w = λ i. record { kind = call.kind; name = text_at_before buffer name call.name w.0 i } ∷ calls_at_after buffer name kind calls w.1 i

-- a recorded call lies within the buffer
pub call_within : (size : ℕ) (calls : List CallRecord) (number : ℕ) (call : CallRecord) → AllCallsWithin size calls → slice_get calls number ≡ Some call → Within size call.name
call_within size [] number call w e = cc
call_within size (first ∷ calls) zero call w e = subst (λ one. Within size one.name) (ap (λ o. unwrap_or o first) e) w.0
call_within size (first ∷ calls) (suc number) call w e = call_within size calls number call w.1 e
