-- What the exception sets goes through the lines and the counting of a tick; so the tick that opens a span is a tick without a step, and
-- then what a pause sets.
use Rattle.std.proofs.Common.{◌≡◌, ◌≢◌, ◌==◌, ◌+◌, ◌-◌, ◌*◌, ◌%◌, ◌^◌, ◌<◌, ◌||◌, ◌∙◌, ℕ, Bool, true, false, if◌then◌else◌, List, length, refl, ap, sym, arith}
use Rattle.std.specs.Prelude.{slice_index, slice_set, bit_and}
use Rattle.std.proofs.lemmas.Bool.{cond_both}
use Rattle.std.proofs.lemmas.List.{get_or-set_same, get_or-set_other, set-set, set_comm, set-get_or, length-set}
use Rattle.cp0_regs.specs.Bits.{merged, all_bits}
use Rattle.cp0_regs.specs.Counting.{with_lines, with_count, with_timer, with_random, counted}
use Rattle.cp0_regs.specs.Fields.{exl, timer_line}
use Rattle.cp0_regs.specs.Modes.{is_set}
use Rattle.cp0_regs.specs.State.{with_value}
use Rattle.cp0_exceptions.specs.Causes.{shown_of}
use Rattle.cp0_exceptions.specs.Raising.{raised, with_unit}
use Rattle.mips3_exec.specs.Pausing.{handled_cp0}
use Rattle.mips3_exec.specs.Routes.{at_address}
use Rattle.prom_code.proofs.Frames.{IsApart, counted_apart, lines_apart}
use Rattle.prom_code.proofs.CauseBits.{AreApart, merged_apart, cleared_again}

-- ---- what a pause sets: an exception of a coherency sets that, and EXL

pub raised_fetch : (cp0 : List ℕ) (pc va : ℕ) (slot : Bool) → is_set cp0 exl ≡ false → raised cp0 (at_address 14 va) pc slot ≡ with_value (handled_cp0 cp0 pc slot true va) exl 1
unfolding raised shown_of with_unit
raised_fetch cp0 pc va slot clear = rw clear refl

pub raised_data : (cp0 : List ℕ) (pc va : ℕ) (slot : Bool) → is_set cp0 exl ≡ false → raised cp0 (at_address 31 va) pc slot ≡ with_value (handled_cp0 cp0 pc slot false va) exl 1
unfolding raised shown_of with_unit
raised_data cp0 pc va slot clear = rw clear refl

-- ---- a field of Cause beside the lines and the timer

-- a field of Cause set to a value
abbrev pub in_cause : ℕ → ℕ → List ℕ → List ℕ
in_cause m v cp0 = slice_set cp0 13 (merged m (slice_index cp0 13) v)

two_fields : (m n v w : ℕ) (cp0 : List ℕ) → AreApart m n → 13 < length cp0 → in_cause m v (in_cause n w cp0) ≡ in_cause n w (in_cause m v cp0)
two_fields m n v w cp0 apart full =
    let word : ℕ = slice_index cp0 13 in
    ap (λ now. slice_set (in_cause n w cp0) 13 (merged m now v)) (get_or-set_same cp0 13 (merged n word w) 0 full)
    ∙ set-set cp0 13 (merged n word w) (merged m (merged n word w) v)
    ∙ ap (slice_set cp0 13) (merged_apart m n word v w apart)
    ∙ sym (set-set cp0 13 (merged m word v) (merged n (merged m word v) w))
    ∙ sym (ap (λ now. slice_set (in_cause m v cp0) 13 (merged n now w)) (get_or-set_same cp0 13 (merged m word v) 0 full))

pub cause_lines : (m v : ℕ) (cp0 : List ℕ) (level : ℕ) → AreApart m 0x7c00 → 13 < length cp0 → in_cause m v (with_lines cp0 level) ≡ with_lines (in_cause m v cp0) level
cause_lines m v cp0 level apart full = two_fields m 0x7c00 v (level * 2 ^ 10) cp0 apart full

-- a register beside Cause goes past a field of it
beside : (m v n x : ℕ) (cp0 : List ℕ) → n ≢ 13 → in_cause m v (slice_set cp0 n x) ≡ slice_set (in_cause m v cp0) n x
beside m v n x cp0 ne =
    ap (λ now. slice_set (slice_set cp0 n x) 13 (merged m now v)) (get_or-set_other cp0 n 13 x 0 (λ e. ne (sym e)))
    ∙ set_comm cp0 n 13 x (merged m (slice_index cp0 13) v) ne

cause_count : (m v : ℕ) (cp0 : List ℕ) → in_cause m v (with_count cp0) ≡ with_count (in_cause m v cp0)
cause_count m v cp0 =
    beside m v 9 ((slice_index cp0 9 + 1) % 2 ^ 32) cp0 (omega arith)
    ∙ sym (ap (λ now. slice_set (in_cause m v cp0) 9 ((now + 1) % 2 ^ 32)) (get_or-set_other cp0 13 9 (merged m (slice_index cp0 13) v) 0 (omega arith)))

timed : (m v : ℕ) (cp0 : List ℕ) (b : Bool) → AreApart m 0x8000 → 13 < length cp0
    → in_cause m v (if b then with_value cp0 timer_line 1 else cp0) ≡ (if b then with_value (in_cause m v cp0) timer_line 1 else in_cause m v cp0)
timed m v cp0 true apart full = two_fields m 0x8000 v (1 * 2 ^ 15) cp0 apart full
timed m v cp0 false apart full = refl

cause_timer : (m v : ℕ) (cp0 : List ℕ) → AreApart m 0x8000 → 13 < length cp0 → in_cause m v (with_timer cp0) ≡ with_timer (in_cause m v cp0)
cause_timer m v cp0 apart full =
    timed m v cp0 (slice_index cp0 9 == slice_index cp0 11) apart full
    ∙ sym (ap (λ now. if now == slice_index (in_cause m v cp0) 11 then with_value (in_cause m v cp0) timer_line 1 else in_cause m v cp0) (get_or-set_other cp0 13 9 (merged m (slice_index cp0 13) v) 0 (omega arith))
    ∙ ap (λ now. if slice_index cp0 9 == now then with_value (in_cause m v cp0) timer_line 1 else in_cause m v cp0) (get_or-set_other cp0 13 11 (merged m (slice_index cp0 13) v) 0 (omega arith)))

abbrev after : ℕ → ℕ → Bool → ℕ
after r w wrote = if wrote || (r == w) || (r == 0) then 47 else r - 1

cause_random : (m v : ℕ) (cp0 : List ℕ) (wrote : Bool) → in_cause m v (with_random cp0 wrote) ≡ with_random (in_cause m v cp0) wrote
cause_random m v cp0 wrote =
    beside m v 1 (after (slice_index cp0 1) (slice_index cp0 6) wrote) cp0 (omega arith)
    ∙ sym (ap (λ now. slice_set (in_cause m v cp0) 1 (after now (slice_index (in_cause m v cp0) 6) wrote)) (get_or-set_other cp0 13 1 (merged m (slice_index cp0 13) v) 0 (omega arith))
    ∙ ap (λ now. slice_set (in_cause m v cp0) 1 (after (slice_index cp0 1) now wrote)) (get_or-set_other cp0 13 6 (merged m (slice_index cp0 13) v) 0 (omega arith)))

timer_length : (cp0 : List ℕ) → length (with_timer cp0) ≡ length cp0
timer_length cp0 = cond_both (slice_index cp0 9 == slice_index cp0 11) (with_value cp0 timer_line 1) cp0 (λ (now : List ℕ). length now ≡ length cp0) (λ _. length-set cp0 13 _) (λ _. refl)

pub cause_counted : (m v : ℕ) (cp0 : List ℕ) (wrote : Bool) → AreApart m 0x8000 → 13 < length cp0 → in_cause m v (counted cp0 wrote) ≡ counted (in_cause m v cp0) wrote
unfolding counted
cause_counted m v cp0 wrote apart full =
    cause_random m v (with_timer (with_count cp0)) wrote
    ∙ ap (λ now. with_random now wrote) (cause_timer m v (with_count cp0) apart (rw (length-set cp0 9 ((slice_index cp0 9 + 1) % 2 ^ 32)) full) ∙ ap with_timer (cause_count m v cp0))

-- ---- what a pause sets goes through a tick

epc_apart : IsApart 14
epc_apart = record { random = omega arith; wired = omega arith; count = omega arith; compare = omega arith; cause = omega arith }

bad_apart : IsApart 8
bad_apart = record { random = omega arith; wired = omega arith; count = omega arith; compare = omega arith; cause = omega arith }

bd_lines : AreApart 0x80000000 0x7c00
bd_lines = record { first = refl; second = refl }

bd_timer : AreApart 0x80000000 0x8000
bd_timer = record { first = refl; second = refl }

code_lines : AreApart 0x7c 0x7c00
code_lines = record { first = refl; second = refl }

code_timer : AreApart 0x7c 0x8000
code_timer = record { first = refl; second = refl }

-- the same, step by step
abbrev pub handling : ℕ → ℕ → ℕ → ℕ → List ℕ → List ℕ
handling e b c va cp0 = slice_set (in_cause 0x7c c (in_cause 0x80000000 b (slice_set cp0 14 e))) 8 va

pub handling_lines : (e b c va level : ℕ) (cp0 : List ℕ) → 13 < length cp0 → handling e b c va (with_lines cp0 level) ≡ with_lines (handling e b c va cp0) level
handling_lines e b c va level cp0 full =
    let with_e : List ℕ = slice_set cp0 14 e in
    let full_e : 13 < length with_e = rw (length-set cp0 14 e) full in
    let with_b : List ℕ = in_cause 0x80000000 b with_e in
    let full_b : 13 < length with_b = rw (length-set with_e 13 (merged 0x80000000 (slice_index with_e 13) b)) full_e in
    ap (λ now. slice_set (in_cause 0x7c c (in_cause 0x80000000 b now)) 8 va) (sym (lines_apart 14 e epc_apart cp0 level))
    ∙ ap (λ now. slice_set (in_cause 0x7c c now) 8 va) (cause_lines 0x80000000 b with_e level bd_lines full_e)
    ∙ ap (λ now. slice_set now 8 va) (cause_lines 0x7c c with_b level code_lines full_b)
    ∙ sym (lines_apart 8 va bad_apart (in_cause 0x7c c with_b) level)

pub handling_counted : (e b c va : ℕ) (cp0 : List ℕ) (wrote : Bool) → 13 < length cp0 → handling e b c va (counted cp0 wrote) ≡ counted (handling e b c va cp0) wrote
handling_counted e b c va cp0 wrote full =
    let with_e : List ℕ = slice_set cp0 14 e in
    let full_e : 13 < length with_e = rw (length-set cp0 14 e) full in
    let with_b : List ℕ = in_cause 0x80000000 b with_e in
    let full_b : 13 < length with_b = rw (length-set with_e 13 (merged 0x80000000 (slice_index with_e 13) b)) full_e in
    ap (λ now. slice_set (in_cause 0x7c c (in_cause 0x80000000 b now)) 8 va) (sym (counted_apart 14 e epc_apart cp0 wrote))
    ∙ ap (λ now. slice_set (in_cause 0x7c c now) 8 va) (cause_counted 0x80000000 b with_e wrote bd_timer full_e)
    ∙ ap (λ now. slice_set now 8 va) (cause_counted 0x7c c with_b wrote code_timer full_b)
    ∙ sym (counted_apart 8 va bad_apart (in_cause 0x7c c with_b) wrote)

-- EXL set and cleared is as it was
pub set_and_cleared : (cp0 : List ℕ) → 12 < length cp0 → bit_and (slice_index cp0 12) (all_bits - 2) ≡ slice_index cp0 12 → with_value (with_value cp0 exl 1) exl 0 ≡ cp0
set_and_cleared cp0 full clear =
    ap (λ now. slice_set (with_value cp0 exl 1) 12 (merged 2 now 0)) (get_or-set_same cp0 12 (merged 2 (slice_index cp0 12) 2) 0 full)
    ∙ set-set cp0 12 (merged 2 (slice_index cp0 12) 2) (merged 2 (merged 2 (slice_index cp0 12) 2) 0)
    ∙ ap (slice_set cp0 12) (cleared_again (slice_index cp0 12) clear)
    ∙ set-get_or cp0 12 0
