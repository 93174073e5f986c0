-- A tick ends with Cause showing the levels of the devices' lines.
use Rattle.std.proofs.Common.{◌≡◌, refl, ◌∙◌, sym, ap, ℕ, zero, suc, Bool, true, false, List, [], ◌∷◌, Option, Some, None, length, arith}
use Rattle.std.specs.Prelude.{◌<◌, slice_index}
use Rattle.cp0_regs.specs.Counting.{with_lines, with_count, with_timer, counted}
use Rattle.cp0_regs.specs.Fields.{device_lines}
use Rattle.cp0_regs.specs.State.{value_of}
use Rattle.cp0_regs.proofs.DeviceLines.{count_leaves_lines, timer_leaves_lines, random_leaves_lines}
use Rattle.cp0_regs.proofs.Possible.{device_lines_is_free}
use Rattle.cp0_regs.proofs.ReadBack.{read_back}

-- a list that has a number other than zero at a place is longer than the place
longer : (cp0 : List ℕ) (place number : ℕ) → slice_index cp0 place ≡ suc number → place < length cp0
longer [] place number is = absurd cc
longer (first ∷ rest) zero number is = omega arith
longer (first ∷ rest) (suc place) number is = let less : place < length rest = longer rest place number is in omega (arith, less)

-- the levels that were told are shown when the tick is counted
pub lines_shown : (cp0 : List ℕ) (levels : ℕ) (wrote_wired : Bool) → slice_index cp0 15 ≡ 0x400 → levels < 32
    → value_of (counted (with_lines cp0 levels) wrote_wired) device_lines ≡ levels
unfolding counted
lines_shown cp0 levels wrote_wired prid small =
    let shown : List ℕ = with_lines cp0 levels in
    let long : 15 < length cp0 = longer cp0 15 0x3ff prid in
    random_leaves_lines (with_timer (with_count shown)) wrote_wired ∙ timer_leaves_lines (with_count shown) ∙ count_leaves_lines shown
    ∙ read_back cp0 device_lines levels device_lines_is_free.is_field (omega (arith, long)) (omega (arith, small))
