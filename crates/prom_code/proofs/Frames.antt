-- What the lines and the counting of a tick leave of CP0, and what may be set before them or after them.
use Rattle.std.proofs.Common.{◌≡◌, ◌≢◌, ◌==◌, ◌+◌, ◌-◌, ◌*◌, ◌%◌, ◌^◌, ◌||◌, ◌∙◌, ℕ, Bool, true, false, if◌then◌else◌, List, refl, ap, sym, arith}
use Rattle.std.specs.Prelude.{slice_index, slice_set}
use Rattle.std.proofs.lemmas.Bool.{cond_both}
use Rattle.std.proofs.lemmas.List.{get_or-set_other, set_comm}
use Rattle.cp0_regs.specs.Bits.{merged}
use Rattle.cp0_regs.specs.Counting.{with_lines, with_count, with_timer, with_random, counted}
use Rattle.cp0_regs.specs.Fields.{bits_of, timer_line}
use Rattle.cp0_regs.specs.Registers.{count, compare, random, wired}
use Rattle.cp0_regs.specs.State.{word, with_value}

-- ---- what is left

timer_other : (cp0 : List ℕ) (n : ℕ) → n ≢ 13 → slice_index (with_timer cp0) n ≡ slice_index cp0 n
timer_other cp0 n ne =
    cond_both (word cp0 count == word cp0 compare) (with_value cp0 timer_line 1) cp0 (λ now. slice_index now n ≡ slice_index cp0 n)
    (λ _. get_or-set_other cp0 13 n _ 0 ne) (λ _. refl)

pub counted_other : (cp0 : List ℕ) (wrote : Bool) (n : ℕ) → n ≢ 1 → n ≢ 9 → n ≢ 13 → slice_index (counted cp0 wrote) n ≡ slice_index cp0 n
unfolding counted
counted_other cp0 wrote n ne1 ne9 ne13 =
    get_or-set_other (with_timer (with_count cp0)) 1 n _ 0 ne1 ∙ timer_other (with_count cp0) n ne13 ∙ get_or-set_other cp0 9 n _ 0 ne9

pub lines_other : (cp0 : List ℕ) (levels n : ℕ) → n ≢ 13 → slice_index (with_lines cp0 levels) n ≡ slice_index cp0 n
lines_other cp0 levels n ne = get_or-set_other cp0 13 n _ 0 ne

-- ---- a register that neither reads nor changes

-- a register that the end of a tick does not look at
pub record IsApart (n : ℕ) : Type 0 where
  pub random : n ≢ 1
  pub wired : n ≢ 6
  pub count : n ≢ 9
  pub compare : n ≢ 11
  pub cause : n ≢ 13

back : (a b : ℕ) → a ≢ b → b ≢ a
back a b ne e = ne (sym e)

module _ (n v : ℕ) (apart : IsApart n) where
  count_apart : (cp0 : List ℕ) → with_count (slice_set cp0 n v) ≡ slice_set (with_count cp0) n v
  count_apart cp0 =
      ap (λ now. slice_set (slice_set cp0 n v) 9 ((now + 1) % 2 ^ 32)) (get_or-set_other cp0 n 9 v 0 (back n 9 apart.count))
      ∙ set_comm cp0 n 9 v ((slice_index cp0 9 + 1) % 2 ^ 32) apart.count

  timed : (cp0 : List ℕ) (b : Bool) → (if b then with_value (slice_set cp0 n v) timer_line 1 else slice_set cp0 n v) ≡ slice_set (if b then with_value cp0 timer_line 1 else cp0) n v
  timed cp0 true =
      ap (λ now. slice_set (slice_set cp0 n v) 13 (merged (bits_of timer_line) now (1 * 2 ^ 15))) (get_or-set_other cp0 n 13 v 0 (back n 13 apart.cause))
      ∙ set_comm cp0 n 13 v (merged (bits_of timer_line) (slice_index cp0 13) (1 * 2 ^ 15)) apart.cause
  timed cp0 false = refl

  timer_apart : (cp0 : List ℕ) → with_timer (slice_set cp0 n v) ≡ slice_set (with_timer cp0) n v
  timer_apart cp0 =
      ap (λ now. if now == slice_index (slice_set cp0 n v) 11 then with_value (slice_set cp0 n v) timer_line 1 else slice_set cp0 n v) (get_or-set_other cp0 n 9 v 0 (back n 9 apart.count))
      ∙ ap (λ now. if slice_index cp0 9 == now then with_value (slice_set cp0 n v) timer_line 1 else slice_set cp0 n v) (get_or-set_other cp0 n 11 v 0 (back n 11 apart.compare))
      ∙ timed cp0 (slice_index cp0 9 == slice_index cp0 11)

  abbrev after : ℕ → ℕ → Bool → ℕ
  after r w wrote = if wrote || (r == w) || (r == 0) then 47 else r - 1

  random_apart : (cp0 : List ℕ) (wrote : Bool) → with_random (slice_set cp0 n v) wrote ≡ slice_set (with_random cp0 wrote) n v
  random_apart cp0 wrote =
      ap (λ now. slice_set (slice_set cp0 n v) 1 (after now (slice_index (slice_set cp0 n v) 6) wrote)) (get_or-set_other cp0 n 1 v 0 (back n 1 apart.random))
      ∙ ap (λ now. slice_set (slice_set cp0 n v) 1 (after (slice_index cp0 1) now wrote)) (get_or-set_other cp0 n 6 v 0 (back n 6 apart.wired))
      ∙ set_comm cp0 n 1 v (after (slice_index cp0 1) (slice_index cp0 6) wrote) apart.random

  pub counted_apart : (cp0 : List ℕ) (wrote : Bool) → counted (slice_set cp0 n v) wrote ≡ slice_set (counted cp0 wrote) n v
  unfolding counted
  counted_apart cp0 wrote =
      ap (λ now. with_random (with_timer now) wrote) (count_apart cp0)
      ∙ ap (λ now. with_random now wrote) (timer_apart (with_count cp0))
      ∙ random_apart (with_timer (with_count cp0)) wrote

  pub lines_apart : (cp0 : List ℕ) (levels : ℕ) → with_lines (slice_set cp0 n v) levels ≡ slice_set (with_lines cp0 levels) n v
  lines_apart cp0 levels =
      ap (λ now. slice_set (slice_set cp0 n v) 13 (merged 0x7c00 now (levels * 2 ^ 10))) (get_or-set_other cp0 n 13 v 0 (back n 13 apart.cause))
      ∙ set_comm cp0 n 13 v (merged 0x7c00 (slice_index cp0 13) (levels * 2 ^ 10)) apart.cause
