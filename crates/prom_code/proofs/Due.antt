-- What the handler will leave, from a processor that is in it; a tick of the handler is a tick without a step of that.
use Rattle.std.proofs.Common.{◌≡◌, ◌==◌, ◌+◌, ◌-◌, ◌*◌, ◌%◌, ◌^◌, ◌<◌, ◌∙◌, ℕ, Bool, false, not, List, length, refl, ap, sym, arith}
use Rattle.std.specs.Prelude.{slice_index, slice_set}
use Rattle.std.proofs.lemmas.Bool.{cond_both}
use Rattle.std.proofs.lemmas.List.{get_or-set_same, get_or-set_other, set-set, length-set}
use Rattle.cp0_regs.specs.Bits.{merged, field}
use Rattle.cp0_regs.specs.Counting as system
use Rattle.cp0_regs.specs.Counting.{with_lines, with_count, with_timer}
use Rattle.cp0_regs.specs.Fields.{exc_code, exl, timer_line}
use Rattle.cp0_regs.specs.State.{value_of, with_value}
use Rattle.mips3_exec.specs.declared.processor.Cpu.{Cpu}
use Rattle.mips3_exec.specs.Pausing.{due_with, due}
use Rattle.mips3_exec.specs.Processor.{counted}
use Rattle.prom_code.proofs.AnyTick.{lined, paused}
use Rattle.prom_code.proofs.Frames.{IsApart, counted_other, lines_other, counted_apart, lines_apart}
use Rattle.prom_code.proofs.CauseBits.{code_beside, lines_beside, timer_beside, set_twice}

status_apart : IsApart 12
status_apart = record { random = omega arith; wired = omega arith; count = omega arith; compare = omega arith; cause = omega arith }

-- ---- ExcCode stays

code_set : (cp0 : List ℕ) (now : ℕ) → 13 < length cp0 → field now 6 2 ≡ value_of cp0 exc_code → value_of (slice_set cp0 13 now) exc_code ≡ value_of cp0 exc_code
code_set cp0 now full same = ap (λ w. field w 6 2) (get_or-set_same cp0 13 now 0 full) ∙ same

pub lines_code : (cp0 : List ℕ) (level : ℕ) → 13 < length cp0 → value_of (with_lines cp0 level) exc_code ≡ value_of cp0 exc_code
lines_code cp0 level full = code_set cp0 _ full (code_beside 0x7c00 (slice_index cp0 13) (level * 2 ^ 10) lines_beside)

timer_code : (cp0 : List ℕ) → 13 < length cp0 → value_of (with_timer cp0) exc_code ≡ value_of cp0 exc_code
timer_code cp0 full =
    cond_both (slice_index cp0 9 == slice_index cp0 11) (with_value cp0 timer_line 1) cp0 (λ now. value_of now exc_code ≡ value_of cp0 exc_code)
    (λ _. code_set cp0 _ full (code_beside 0x8000 (slice_index cp0 13) (1 * 2 ^ 15) timer_beside)) (λ _. refl)

pub counted_code : (cp0 : List ℕ) (wrote : Bool) → 13 < length cp0 → value_of (system.counted cp0 wrote) exc_code ≡ value_of cp0 exc_code
unfolding system.counted
counted_code cp0 wrote full =
    ap (λ w. field w 6 2) (get_or-set_other (with_timer (with_count cp0)) 1 13 _ 0 (omega arith))
    ∙ timer_code (with_count cp0) (rw (length-set cp0 9 ((slice_index cp0 9 + 1) % 2 ^ 32)) full)
    ∙ ap (λ w. field w 6 2) (get_or-set_other cp0 9 13 _ 0 (omega arith))

-- ---- what is due goes through a tick

-- from the parts
pub due_parts : (cpu : Cpu) (one other : Bool) (va va' : ℕ) (cp0 cp0' : List ℕ) (pc pc' : ℕ) → one ≡ other → va ≡ va' → cp0 ≡ cp0' → pc ≡ pc' → due_with cpu one va cp0 pc ≡ due_with cpu other va' cp0' pc'
due_parts cpu one other va va' cp0 cp0' pc pc' e1 e2 e3 e4 = ap (λ b. due_with cpu b va cp0 pc) e1 ∙ ap (λ v. due_with cpu other v cp0 pc) e2 ∙ ap (λ c. due_with cpu other va' c pc) e3 ∙ ap (λ p. due_with cpu other va' cp0' p) e4

clear_lines : (cp0 : List ℕ) (level : ℕ) → with_value (with_lines cp0 level) exl 0 ≡ with_lines (with_value cp0 exl 0) level
clear_lines cp0 level =
    ap (λ w. slice_set (with_lines cp0 level) 12 (merged 2 w 0)) (lines_other cp0 level 12 (omega arith))
    ∙ sym (lines_apart 12 (merged 2 (slice_index cp0 12) 0) status_apart cp0 level)

clear_counted : (cp0 : List ℕ) (wrote : Bool) → with_value (system.counted cp0 wrote) exl 0 ≡ system.counted (with_value cp0 exl 0) wrote
clear_counted cp0 wrote =
    ap (λ w. slice_set (system.counted cp0 wrote) 12 (merged 2 w 0)) (counted_other cp0 wrote 12 (omega arith) (omega arith) (omega arith))
    ∙ sym (counted_apart 12 (merged 2 (slice_index cp0 12) 0) status_apart cp0 wrote)

pub due_lined : (cpu : Cpu) (level : ℕ) → 13 < length cpu.cp0 → due (lined cpu level) ≡ lined (due cpu) level
unfolding due
due_lined cpu level full =
    due_parts (lined cpu level) _ _ _ _ _ _ _ _ (ap (λ n. not (n == 31)) (lines_code cpu.cp0 level full)) (lines_other cpu.cp0 level 8 (omega arith)) (clear_lines cpu.cp0 level) (lines_other cpu.cp0 level 14 (omega arith))

pub due_counted : (cpu : Cpu) (wrote : Bool) → 13 < length cpu.cp0 → due (counted cpu wrote) ≡ counted (due cpu) wrote
unfolding due
due_counted cpu wrote full =
    due_parts (counted cpu wrote) _ _ _ _ _ _ _ _ (ap (λ n. not (n == 31)) (counted_code cpu.cp0 wrote full)) (counted_other cpu.cp0 wrote 8 (omega arith) (omega arith) (omega arith))
    (clear_counted cpu.cp0 wrote) (counted_other cpu.cp0 wrote 14 (omega arith) (omega arith) (omega arith))

pub lined_twice : (cpu : Cpu) (level : ℕ) → 13 < length cpu.cp0 → lined (lined cpu level) level ≡ lined cpu level
lined_twice cpu level full =
    ap {B = Cpu} (λ w. record cpu { cp0 = slice_set (with_lines cpu.cp0 level) 13 (merged 0x7c00 w (level * 2 ^ 10)) }) (get_or-set_same cpu.cp0 13 _ 0 full)
    ∙ ap {B = Cpu} (λ (now : List ℕ). record cpu { cp0 = now }) (set-set cpu.cp0 13 _ _)
    ∙ ap {B = Cpu} (λ w. record cpu { cp0 = slice_set cpu.cp0 13 w }) (set_twice 0x7c00 (slice_index cpu.cp0 13) (level * 2 ^ 10) refl refl)

pub longer : (xs ys : List ℕ) → length ys ≡ length xs → 13 < length xs → 13 < length ys
longer xs ys same full = omega arith

-- A tick whose instruction leaves what is due is a tick without a step of what is due.
pub due_ticked : (cpu after : Cpu) (level : ℕ) → 13 < length cpu.cp0 → 13 < length after.cp0 → due after ≡ due (lined cpu level) → due (counted (lined after level) false) ≡ paused (due cpu) level
unfolding due
due_ticked cpu after level full full' same =
    due_counted (lined after level) false (longer after.cp0 (with_lines after.cp0 level) (length-set after.cp0 13 _) full')
    ∙ ap (λ c. counted c false) (due_lined after level full' ∙ ap (λ c. lined c level) (same ∙ due_lined cpu level full) ∙ lined_twice (due cpu) level (longer cpu.cp0 (with_value cpu.cp0 exl 0) (length-set cpu.cp0 12 _) full))
