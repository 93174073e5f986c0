-- A processor that handles an exception in the PROM: its mode, its interrupts, and where its fetches go.
use Rattle.std.proofs.Common.{◌≡◌, ◌==◌, ◌%◌, ◌^◌, ◌&&◌, ◌||◌, ◌∙◌, ℕ, Bool, true, false, if◌then◌else◌, List, refl, ap, arith}
use Rattle.cp0_regs.specs.declared.mode.Mode.TheVariants.{Kernel, Supervisor, User}
use Rattle.cp0_regs.specs.Bits.{field}
use Rattle.cp0_regs.specs.Counting.{with_lines, counted}
use Rattle.cp0_regs.specs.Fields.{ie, exl, erl, ksu, k0}
use Rattle.cp0_regs.specs.Modes.{is_kernel, is_set, is_clear, has_pending, takes_interrupt, mode_of}
use Rattle.cp0_regs.specs.State.{value_of}
use Rattle.tlb_model.specs.Segments.{Kseg1, range_of, in_mode, segment_of}
use Rattle.mips3_exec.specs.declared.processor.Cpu.{Cpu}
use Rattle.mips3_exec.specs.declared.routes.Route.TheVariants.{To}
use Rattle.mips3_exec.specs.Routes.{route_in, route_of}
use Rattle.prom_code.proofs.Frames.{counted_other, lines_other}

-- EXL is 1 and ERL is 0
pub record IsHandling (cp0 : List ℕ) : Type 0 where
  pub exl : value_of cp0 exl ≡ 1
  pub erl : value_of cp0 erl ≡ 0

either : (a c : Bool) → (a || true || c) ≡ true
either true c = refl
either false c = refl

pub in_kernel : (cp0 : List ℕ) → IsHandling cp0 → is_kernel cp0 ≡ true
in_kernel cp0 h = ap (λ n. (value_of cp0 ksu == 0) || (n == 1) || is_set cp0 erl) h.exl ∙ either (value_of cp0 ksu == 0) (is_set cp0 erl)

never : (a c d : Bool) → (a && false && c && d) ≡ false
never true c d = refl
never false c d = refl

pub no_interrupt : (cp0 : List ℕ) → IsHandling cp0 → takes_interrupt cp0 ≡ false
unfolding takes_interrupt
no_interrupt cp0 h = ap (λ n. is_set cp0 ie && (n == 0) && is_clear cp0 erl && has_pending cp0) h.exl ∙ never (is_set cp0 ie) (is_clear cp0 erl) (has_pending cp0)

-- the lines and the counting leave it so
pub lined_handles : (cp0 : List ℕ) (levels : ℕ) → IsHandling cp0 → IsHandling (with_lines cp0 levels)
lined_handles cp0 levels h = record {
  exl = ap (λ now. field now 1 1) (lines_other cp0 levels 12 (omega arith)) ∙ h.exl;
  erl = ap (λ now. field now 2 2) (lines_other cp0 levels 12 (omega arith)) ∙ h.erl;
}

pub counted_handles : (cp0 : List ℕ) (wrote : Bool) → IsHandling cp0 → IsHandling (counted cp0 wrote)
counted_handles cp0 wrote h = record {
  exl = ap (λ now. field now 1 1) (counted_other cp0 wrote 12 (omega arith) (omega arith) (omega arith)) ∙ h.exl;
  erl = ap (λ now. field now 2 2) (counted_other cp0 wrote 12 (omega arith) (omega arith) (omega arith)) ∙ h.erl;
}

-- kseg1 is reached past the caches
pub kseg1_route : (cpu : Cpu) (va : ℕ) → is_kernel cpu.cp0 ≡ true → range_of va ≡ Kseg1 → route_of cpu false va va ≡ To (va % 2 ^ 29) false
unfolding route_of segment_of mode_of
kseg1_route cpu va kernel range =
    ap (λ b. route_in cpu false va va (in_mode va (is_set cpu.cp0 erl) (value_of cpu.cp0 k0) (if b then Kernel else if value_of cpu.cp0 ksu == 1 then Supervisor else User) (range_of va))) kernel
    ∙ ap (λ r. route_in cpu false va va (in_mode va (is_set cpu.cp0 erl) (value_of cpu.cp0 k0) Kernel r)) range
