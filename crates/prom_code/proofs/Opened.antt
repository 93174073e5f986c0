-- The tick that opens a span: what is due after it is what a pause sets, after a tick without a step.
use Rattle.std.proofs.Common.{◌≡◌, ◌≢◌, ◌==◌, ◌+◌, ◌-◌, ◌*◌, ◌^◌, ◌<◌, ◌∙◌, ℕ, Bool, true, false, not, if◌then◌else◌, List, length, refl, ap, sym, arith}
use Rattle.std.specs.Prelude.{slice_index, slice_set, bit_and}
use Rattle.std.proofs.lemmas.List.{get_or-set_same, get_or-set_other, length-set}
use Rattle.cp0_regs.specs.Bits.{merged, field, all_bits}
use Rattle.cp0_regs.specs.Counting.{with_lines}
use Rattle.cp0_regs.specs.Fields.{exc_code, exl}
use Rattle.cp0_regs.specs.Modes.{is_set}
use Rattle.cp0_regs.specs.State.{IsField, value_of, with_value}
use Rattle.cp0_regs.proofs.ReadBack.{read_back}
use Rattle.cp0_exceptions.specs.Raising.{raised, return_address}
use Rattle.ll_sc.specs.Linking.{unlinked}
use Rattle.mips3_exec.specs.declared.processor.Cpu.{Cpu}
use Rattle.mips3_exec.specs.Pausing.{handled_registers, handled_cp0, handled, due_with, due}
use Rattle.mips3_exec.specs.Processor.{counted, gone_to, taken}
use Rattle.mips3_exec.specs.Routes.{at_address}
use Rattle.prom_code.proofs.AnyTick.{lined, paused}
use Rattle.prom_code.proofs.Due.{due_parts, due_lined, due_counted, lined_twice, longer}
use Rattle.prom_code.proofs.Opening.{handling_lines, handling_counted, raised_fetch, raised_data, set_and_cleared}

-- ExcCode of the exception
abbrev pub code_of : Bool → ℕ
code_of fetch = if fetch then 14 else 31

-- the exception of a coherency
abbrev pub excepted : Bool → ℕ → Cpu → Cpu
excepted fetch va cpu = taken cpu (at_address (code_of fetch) va)

raised_is : (fetch : Bool) (cp0 : List ℕ) (pc va : ℕ) (slot : Bool) → is_set cp0 exl ≡ false → raised cp0 (at_address (code_of fetch) va) pc slot ≡ with_value (handled_cp0 cp0 pc slot fetch va) exl 1
raised_is true cp0 pc va slot clear = raised_fetch cp0 pc va slot clear
raised_is false cp0 pc va slot clear = raised_data cp0 pc va slot clear

is_code_field : IsField exc_code
is_code_field = record { register = omega arith; order = omega arith; in_word = omega arith }

small_code : (fetch : Bool) → code_of fetch < 2 ^ 5
small_code true = omega arith
small_code false = omega arith

kind_of : (fetch : Bool) → (not (code_of fetch == 31)) ≡ fetch
kind_of true = refl
kind_of false = refl

-- what the exception set is found again
module _ (fetch : Bool) (va pc : ℕ) (slot : Bool) (cp0 : List ℕ) (full : length cp0 ≡ 32) where
  abbrev e : ℕ
  e = return_address pc slot

  abbrev b : ℕ
  b = (if slot then 1 else 0) * 2 ^ 31

  abbrev now : List ℕ
  now = handled_cp0 cp0 pc slot fetch va

  -- the registers step by step
  abbrev with_e : List ℕ
  with_e = slice_set cp0 14 e

  abbrev with_b : List ℕ
  with_b = slice_set with_e 13 (merged 0x80000000 (slice_index with_e 13) b)

  abbrev with_c : List ℕ
  with_c = slice_set with_b 13 (merged 0x7c (slice_index with_b 13) (code_of fetch * 2 ^ 2))

  full_b : length with_b ≡ 32
  full_b = length-set with_e 13 _ ∙ length-set cp0 14 e ∙ full

  pub full_now : length now ≡ 32
  full_now = length-set with_c 8 va ∙ length-set with_b 13 _ ∙ full_b

  below : (n : ℕ) (xs : List ℕ) → length xs ≡ 32 → n < 32 → n < length xs
  below n xs whole lt = omega arith

  pub code_now : value_of now exc_code ≡ code_of fetch
  code_now =
      ap (λ w. field w 6 2) (get_or-set_other with_c 8 13 va 0 (omega arith))
      ∙ read_back with_b exc_code (code_of fetch) is_code_field (below 13 with_b full_b (omega arith)) (small_code fetch)

  pub bad_now : slice_index now 8 ≡ va
  bad_now = get_or-set_same with_c 8 va 0 (below 8 with_c (length-set with_b 13 _ ∙ full_b) (omega arith))

  other : (n : ℕ) → n ≢ 8 → n ≢ 13 → n ≢ 14 → slice_index now n ≡ slice_index cp0 n
  other n ne8 ne13 ne14 =
      get_or-set_other with_c 8 n va 0 ne8 ∙ get_or-set_other with_b 13 n _ 0 ne13 ∙ get_or-set_other with_e 13 n _ 0 ne13 ∙ get_or-set_other cp0 14 n e 0 ne14

  pub epc_now : slice_index now 14 ≡ e
  epc_now =
      get_or-set_other with_c 8 14 va 0 (omega arith) ∙ get_or-set_other with_b 13 14 _ 0 (omega arith) ∙ get_or-set_other with_e 13 14 _ 0 (omega arith)
      ∙ get_or-set_same cp0 14 e 0 (below 14 cp0 full (omega arith))

  pub status_now : slice_index now 12 ≡ slice_index cp0 12
  status_now = other 12 (omega arith) (omega arith) (omega arith)

-- ---- what is due at once after the exception

module _ (fetch : Bool) (va : ℕ) (cpu : Cpu) (full : length cpu.cp0 ≡ 32) (clear : is_set cpu.cp0 exl ≡ false) (no_exl : bit_and (slice_index cpu.cp0 12) (all_bits - 2) ≡ slice_index cpu.cp0 12) where
  abbrev marked : List ℕ
  marked = with_value (handled_cp0 cpu.cp0 cpu.pc cpu.slot fetch va) exl 1

  past : (n : ℕ) → n ≢ 12 → slice_index marked n ≡ slice_index (handled_cp0 cpu.cp0 cpu.pc cpu.slot fetch va) n
  past n ne = get_or-set_other (handled_cp0 cpu.cp0 cpu.pc cpu.slot fetch va) 12 n _ 0 ne

  lowered : with_value marked exl 0 ≡ handled_cp0 cpu.cp0 cpu.pc cpu.slot fetch va
  lowered =
      set_and_cleared (handled_cp0 cpu.cp0 cpu.pc cpu.slot fetch va)
      (below_12 (handled_cp0 cpu.cp0 cpu.pc cpu.slot fetch va) (full_now fetch va cpu.pc cpu.slot cpu.cp0 full))
      (ap (λ w. bit_and w (all_bits - 2)) (status_now fetch va cpu.pc cpu.slot cpu.cp0 full) ∙ no_exl ∙ sym (status_now fetch va cpu.pc cpu.slot cpu.cp0 full))
    where
      below_12 : (xs : List ℕ) → length xs ≡ 32 → 12 < length xs
      below_12 xs whole = omega arith

  pub excepted_due : due (excepted fetch va cpu) ≡ handled fetch va cpu
  unfolding due handled
  excepted_due =
      let r : raised cpu.cp0 (at_address (code_of fetch) va) cpu.pc cpu.slot ≡ marked = raised_is fetch cpu.cp0 cpu.pc va cpu.slot clear in
      ap (λ now. due_with cpu (not (value_of now exc_code == 31)) (slice_index now 8) (with_value now exl 0) (slice_index now 14)) r
      ∙ due_parts cpu _ _ _ _ _ _ _ _
      (ap (λ n. not (n == 31)) (ap (λ w. field w 6 2) (past 13 (omega arith)) ∙ code_now fetch va cpu.pc cpu.slot cpu.cp0 full) ∙ kind_of fetch)
      (past 8 (omega arith) ∙ bad_now fetch va cpu.pc cpu.slot cpu.cp0 full)
      lowered
      (past 14 (omega arith) ∙ epc_now fetch va cpu.pc cpu.slot cpu.cp0 full)

-- ---- what a pause sets goes through a tick without a step

pub handled_lined : (fetch : Bool) (va : ℕ) (cpu : Cpu) (level : ℕ) → 13 < length cpu.cp0 → handled fetch va (lined cpu level) ≡ lined (handled fetch va cpu) level
unfolding handled
handled_lined fetch va cpu level full =
    ap {B = Cpu} (λ now. gone_to (record cpu { regs = handled_registers cpu.regs fetch va; cp0 = now; link = unlinked }) (return_address cpu.pc cpu.slot))
    (handling_lines (return_address cpu.pc cpu.slot) ((if cpu.slot then 1 else 0) * 2 ^ 31) (code_of fetch * 2 ^ 2) va level cpu.cp0 full)

pub handled_counted : (fetch : Bool) (va : ℕ) (cpu : Cpu) → 13 < length cpu.cp0 → handled fetch va (counted cpu false) ≡ counted (handled fetch va cpu) false
unfolding handled
handled_counted fetch va cpu full =
    ap {B = Cpu} (λ now. gone_to (record cpu { regs = handled_registers cpu.regs fetch va; cp0 = now; link = unlinked; ticks = cpu.ticks + 1 }) (return_address cpu.pc cpu.slot))
    (handling_counted (return_address cpu.pc cpu.slot) ((if cpu.slot then 1 else 0) * 2 ^ 31) (code_of fetch * 2 ^ 2) va cpu.cp0 false full)

-- The tick that opens a span, from the processor as its step began.
pub opened_due : (fetch : Bool) (va : ℕ) (cpu : Cpu) (level : ℕ) → length cpu.cp0 ≡ 32 → is_set (lined cpu level).cp0 exl ≡ false → bit_and (slice_index (lined cpu level).cp0 12) (all_bits - 2) ≡ slice_index (lined cpu level).cp0 12
    → length (excepted fetch va (lined cpu level)).cp0 ≡ 32
    → due (counted (lined (excepted fetch va (lined cpu level)) level) false) ≡ handled fetch va (paused cpu level)
opened_due fetch va cpu level full clear no_exl after_full =
    let c : Cpu = lined cpu level in
    let full_c : length c.cp0 ≡ 32 = length-set cpu.cp0 13 _ ∙ full in
    let enough : 13 < length cpu.cp0 = enough_for cpu.cp0 full in
    let enough_c : 13 < length c.cp0 = enough_for c.cp0 full_c in
    let enough_a : 13 < length (excepted fetch va c).cp0 = enough_for (excepted fetch va c).cp0 after_full in
    due_counted (lined (excepted fetch va c) level) false (longer (excepted fetch va c).cp0 (with_lines (excepted fetch va c).cp0 level) (length-set (excepted fetch va c).cp0 13 _) enough_a)
    ∙ ap (λ d. counted d false) (due_lined (excepted fetch va c) level enough_a ∙ ap (λ d. lined d level) (excepted_due fetch va c full_c clear no_exl) ∙ sym (handled_lined fetch va c level enough_c)
    ∙ ap (handled fetch va) (lined_twice cpu level enough))
    ∙ sym (handled_counted fetch va c enough_c)
  where
    enough_for : (xs : List ℕ) → length xs ≡ 32 → 13 < length xs
    enough_for xs whole = omega arith
