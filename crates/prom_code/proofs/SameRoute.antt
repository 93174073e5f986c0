-- The handler's CACHE leads to the doubleword of the access that took the exception.
use Rattle.std.proofs.Common.{◌≡◌, ◌==◌, ◌+◌, ◌-◌, ◌*◌, ◌/◌, ◌%◌, ◌^◌, ◌<◌, ◌&&◌, ◌∙◌, ℕ, Bool, true, false, not, if◌then◌else◌, List, Option, Some, None, ◌⊎◌, inl, inr, refl, ap, sym, arith}
use Rattle.std.specs.Prelude.{bit_and, bit_xor, nat_lt}
use Rattle.std.proofs.lemmas.Bool.{cases_lt, lt-ltb, le-ltb}
use Rattle.std.proofs.lemmas.Nat.{and_block, xor_block, xor_lt, and_comm}
use Rattle.cp0_regs.specs.declared.mode.Mode.{Mode}
use Rattle.cp0_regs.specs.declared.mode.Mode.TheVariants.{Kernel, Supervisor, User}
use Rattle.cp0_regs.specs.Fields.{asid, k0, erl, ksu}
use Rattle.cp0_regs.specs.Modes.{is_kernel, is_set, mode_of}
use Rattle.cp0_regs.specs.State.{value_of}
use Rattle.tlb_model.specs.declared.pairs.Pair.{Pair}
use Rattle.tlb_model.specs.declared.segments.Seg.{Seg}
use Rattle.tlb_model.specs.declared.segments.Seg.TheVariants.{Mapped, Direct, Denied}
use Rattle.tlb_model.specs.declared.translation.Found.{Found}
use Rattle.tlb_model.specs.declared.translation.Found.TheVariants.{Page, Refill, Invalid, Modified}
use Rattle.tlb_model.specs.Segments.{Range, Useg, Kseg0, Kseg1, Sseg, Kseg3, range_of, in_mode, segment_of}
use Rattle.tlb_model.specs.Translation.{found_in, found_by, first_match, translated, page_of, is_valid, is_dirty, is_cached, physical_in}
use Rattle.mips3_exec.specs.declared.processor.Cpu.{Cpu}
use Rattle.mips3_exec.specs.declared.routes.Route.TheVariants.{To}
use Rattle.mips3_exec.specs.Routes.{route_by, route_in, route_of}

-- ---- a page that is found for a store is found for a load

found_again : (pair : Pair) (va lo pa : ℕ) (write cached : Bool) → found_in pair va write lo ≡ Page pa cached → found_in pair va false lo ≡ Page pa cached
found_again pair va lo pa write cached found = by_valid (is_valid lo) (write && not (is_dirty lo)) found
  where
    by_valid : (valid refused : Bool) → (if not valid then Invalid else if refused then Modified else Page (physical_in pair va lo) (is_cached lo)) ≡ Page pa cached
        → (if not valid then Invalid else if false && not (is_dirty lo) then Modified else Page (physical_in pair va lo) (is_cached lo)) ≡ Page pa cached
    by_valid true true e = absurd cc
    by_valid true false e = e
    by_valid false refused e = absurd cc

read_again : (va pa : ℕ) (write cached : Bool) (pair : Option Pair) → found_by va write pair ≡ Page pa cached → found_by va false pair ≡ Page pa cached
read_again va pa write cached None found = absurd cc
read_again va pa write cached (Some pair) found = found_again pair va (page_of pair va) pa write cached found

pub routed : (write : Bool) (bad pa : ℕ) (cached : Bool) (found : Found) → route_by write bad found ≡ To pa cached → found ≡ Page pa cached
routed write bad pa cached (Page at through) leads = cc
routed write bad pa cached Refill leads = absurd cc
routed write bad pa cached Invalid leads = absurd cc
routed write bad pa cached Modified leads = absurd cc

-- ---- what a mode reaches, kernel mode reaches so

kernel_reaches : (va attribute : ℕ) (mode : Mode) (range : Range) → (in_mode va false attribute mode range ≡ Denied) ⊎ (in_mode va false attribute mode range ≡ in_mode va false attribute Kernel range)
kernel_reaches va attribute Kernel range = inr refl
kernel_reaches va attribute Supervisor Useg = inr refl
kernel_reaches va attribute Supervisor Kseg0 = inl refl
kernel_reaches va attribute Supervisor Kseg1 = inl refl
kernel_reaches va attribute Supervisor Sseg = inr refl
kernel_reaches va attribute Supervisor Kseg3 = inl refl
kernel_reaches va attribute User Useg = inr refl
kernel_reaches va attribute User Kseg0 = inl refl
kernel_reaches va attribute User Kseg1 = inl refl
kernel_reaches va attribute User Sseg = inl refl
kernel_reaches va attribute User Kseg3 = inl refl

-- ---- the same address again, as a load in kernel mode

-- A processor that translates as another did, in kernel mode.
pub record TranslatesAs (cpu later : Cpu) : Type 0 where
  pub tlb : later.tlb ≡ cpu.tlb
  pub asid_is : value_of later.cp0 asid ≡ value_of cpu.cp0 asid
  pub k0_is : value_of later.cp0 k0 ≡ value_of cpu.cp0 k0
  pub erl_was : is_set cpu.cp0 erl ≡ false
  pub erl_is : is_set later.cp0 erl ≡ false
  pub kernel : is_kernel later.cp0 ≡ true

module _ (cpu later : Cpu) (same : TranslatesAs cpu later) where
  by_seg : (first bad again pa : ℕ) (write cached : Bool) (seg : Seg) → route_in cpu write first bad seg ≡ To pa cached → route_in later false first again seg ≡ To pa cached
  unfolding translated
  by_seg first bad again pa write cached Mapped leads =
      ap (λ (pairs : List Pair). route_by false again (translated pairs first (value_of later.cp0 asid) false)) same.tlb
      ∙ ap (λ space. route_by false again (translated cpu.tlb first space false)) same.asid_is
      ∙ ap (route_by false again) (read_again first pa write cached (first_match cpu.tlb first (value_of cpu.cp0 asid)) (routed write bad pa cached (translated cpu.tlb first (value_of cpu.cp0 asid) write) leads))
  by_seg first bad again pa write cached (Direct at through) leads = leads
  by_seg first bad again pa write cached Denied leads = absurd cc

  pub kernel_route : (first again : ℕ) → route_of later false first again ≡ route_in later false first again (in_mode first false (value_of cpu.cp0 k0) Kernel (range_of first))
  unfolding route_of segment_of mode_of
  kernel_route first again =
      ap (λ b. route_in later false first again (in_mode first (is_set later.cp0 erl) (value_of later.cp0 k0) (if b then Kernel else if value_of later.cp0 ksu == 1 then Supervisor else User) (range_of first))) same.kernel
      ∙ ap (λ b. route_in later false first again (in_mode first b (value_of later.cp0 k0) Kernel (range_of first))) same.erl_is
      ∙ ap (λ n. route_in later false first again (in_mode first false n Kernel (range_of first))) same.k0_is

  own_route : (first bad : ℕ) (write : Bool) → route_of cpu write first bad ≡ route_in cpu write first bad (in_mode first false (value_of cpu.cp0 k0) (mode_of cpu.cp0) (range_of first))
  unfolding route_of segment_of
  own_route first bad write = ap (λ b. route_in cpu write first bad (in_mode first b (value_of cpu.cp0 k0) (mode_of cpu.cp0) (range_of first))) same.erl_was

  pub leads_again : (first bad again pa : ℕ) (write cached : Bool) → route_of cpu write first bad ≡ To pa cached → route_of later false first again ≡ To pa cached
  leads_again first bad again pa write cached leads =
      let own : route_in cpu write first bad (in_mode first false (value_of cpu.cp0 k0) (mode_of cpu.cp0) (range_of first)) ≡ To pa cached = sym (own_route first bad write) ∙ leads in
      elim (kernel_reaches first (value_of cpu.cp0 k0) (mode_of cpu.cp0) (range_of first)) [
        | inl denied ↦ let e = sym (ap (route_in cpu write first bad) denied) ∙ own in absurd cc
        | inr alike ↦ kernel_route first again ∙ by_seg first bad again pa write cached (in_mode first false (value_of cpu.cp0 k0) Kernel (range_of first)) (sym (ap (route_in cpu write first bad) alike) ∙ own)
      ]

-- ---- another address of the same doubleword

side_same : (a b k : ℕ) → a / 8 ≡ b / 8 → nat_lt a (8 * k) ≡ nat_lt b (8 * k)
side_same a b k near = elim (cases_lt a (8 * k)) [
  | inl less ↦ lt-ltb a (8 * k) less ∙ sym (lt-ltb b (8 * k) (omega arith))
  | inr ge ↦ le-ltb a (8 * k) ge ∙ sym (le-ltb b (8 * k) (omega arith))
]

pub range_same : (a b : ℕ) → a / 8 ≡ b / 8 → range_of a ≡ range_of b
range_same a b near =
    ap (λ t. if t then Useg else if nat_lt a 0xa0000000 then Kseg0 else if nat_lt a 0xc0000000 then Kseg1 else if nat_lt a 0xe0000000 then Sseg else Kseg3) (side_same a b 0x10000000 near)
    ∙ ap (λ t. if nat_lt b 0x80000000 then Useg else if t then Kseg0 else if nat_lt a 0xc0000000 then Kseg1 else if nat_lt a 0xe0000000 then Sseg else Kseg3) (side_same a b 0x14000000 near)
    ∙ ap (λ t. if nat_lt b 0x80000000 then Useg else if nat_lt b 0xa0000000 then Kseg0 else if t then Kseg1 else if nat_lt a 0xe0000000 then Sseg else Kseg3) (side_same a b 0x18000000 near)
    ∙ ap (λ t. if nat_lt b 0x80000000 then Useg else if nat_lt b 0xa0000000 then Kseg0 else if nat_lt b 0xc0000000 then Kseg1 else if t then Sseg else Kseg3) (side_same a b 0x1c000000 near)

-- the bits of a number above its low three
pub high_bits : (a h m : ℕ) → bit_and (bit_xor a h) (m * 8) ≡ bit_and (bit_xor (a / 8) (h / 8)) m * 8
high_bits a h m =
    let split_a : a ≡ a / 8 * 2 ^ 3 + a % 8 = omega arith in
    let split_h : h ≡ h / 8 * 2 ^ 3 + h % 8 = omega arith in
    let split_m : m * 8 ≡ m * 2 ^ 3 + 0 = omega arith in
    let xored : bit_xor a h ≡ bit_xor (a / 8) (h / 8) * 2 ^ 3 + bit_xor (a % 8) (h % 8) =
    ap (λ n. bit_xor n h) split_a ∙ ap (bit_xor (a / 8 * 2 ^ 3 + a % 8)) split_h ∙ xor_block 3 (a / 8) (h / 8) (a % 8) (h % 8) (omega arith) (omega arith) in
    let small : bit_xor (a % 8) (h % 8) < 2 ^ 3 = xor_lt 3 (a % 8) (h % 8) (omega arith) (omega arith) in
    ap (λ n. bit_and n (m * 8)) xored
    ∙ ap (bit_and (bit_xor (a / 8) (h / 8) * 2 ^ 3 + bit_xor (a % 8) (h % 8))) split_m
    ∙ and_block 3 (bit_xor (a / 8) (h / 8)) m (bit_xor (a % 8) (h % 8)) 0 small (omega arith)
    ∙ ap (λ n. bit_and (bit_xor (a / 8) (h / 8)) m * 2 ^ 3 + n) (and_comm (bit_xor (a % 8) (h % 8)) 0)
    ∙ omega arith
