-- The devices' lines stay where the counters change.
use Rattle.std.proofs.Common.{◌≡◌, refl, ap, ℕ, zero, suc, ◌^◌, ◌*◌, Bool, true, false, List, [], ◌∷◌, arith}
use Rattle.std.specs.Prelude.{if◌then◌else◌, ◌==◌, slice_index, slice_set}
use Rattle.std.proofs.lemmas.List.{get_or-set_other}
use Rattle.cp0_regs.specs.Bits.{field}
use Rattle.cp0_regs.specs.Counting.{with_count, with_timer, with_random}
use Rattle.cp0_regs.specs.Fields.{device_lines, timer_line}
use Rattle.cp0_regs.specs.Registers.{count, compare}
use Rattle.cp0_regs.specs.State.{value_of, with_value, word}
use Rattle.cp0_regs.proofs.ReadBack.{field_apart}

-- a function of a word in a list is as it was, where it is of the word that is set there
pub set_keeps : (f : ℕ → ℕ) (words : List ℕ) (at value : ℕ) → f value ≡ f (slice_index words at) → f (slice_index (slice_set words at value) at) ≡ f (slice_index words at)
set_keeps f [] at value same = refl
set_keeps f (word ∷ words) zero value same = same
set_keeps f (word ∷ words) (suc at) value same = set_keeps f words at value same

pub count_leaves_lines : (cp0 : List ℕ) → value_of (with_count cp0) device_lines ≡ value_of cp0 device_lines
count_leaves_lines cp0 = ap (λ n. field n 14 10) (get_or-set_other cp0 9 13 _ 0 (λ same. omega arith))

timer_by : (asks : Bool) (cp0 : List ℕ) → value_of (if asks then with_value cp0 timer_line 1 else cp0) device_lines ≡ value_of cp0 device_lines
timer_by true cp0 = set_keeps (λ n. field n 14 10) cp0 13 _ (field_apart 0x8000 (slice_index cp0 13) (1 * 2 ^ 15) 14 10 (omega arith) refl refl)
timer_by false cp0 = refl

pub timer_leaves_lines : (cp0 : List ℕ) → value_of (with_timer cp0) device_lines ≡ value_of cp0 device_lines
timer_leaves_lines cp0 = timer_by (word cp0 count == word cp0 compare) cp0

pub random_leaves_lines : (cp0 : List ℕ) (wired : Bool) → value_of (with_random cp0 wired) device_lines ≡ value_of cp0 device_lines
random_leaves_lines cp0 wired = ap (λ n. field n 14 10) (get_or-set_other cp0 1 13 _ 0 (λ same. omega arith))
