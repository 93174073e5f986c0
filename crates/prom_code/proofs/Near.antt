-- Another address of the doubleword of an access leads to the same doubleword, as a load in kernel mode.
use Rattle.std.proofs.Common.{◌≡◌, ◌==◌, ◌+◌, ◌-◌, ◌*◌, ◌/◌, ◌%◌, ◌^◌, ◌<◌, ◌≤◌, ◌&&◌, ◌||◌, ◌∙◌, ℕ, suc, Bool, true, false, not, cond, if◌then◌else◌, List, [], ◌∷◌, Option, Some, inl, inr, ap, ap₂, sym, arith, All, mul_assoc}
use Rattle.std.specs.Prelude.{bit_and, bit_xor}
use Rattle.std.specs.List.{find}
use Rattle.std.proofs.Math.Nat.{mul_comm, div-div-eq-div-mul}
use Rattle.std.proofs.lemmas.Bool.{cases_Bool, eqb-true}
use Rattle.std.proofs.lemmas.Nat.{div-mul-add, mod-mul-add, div-add-mod', mod_below}
use Rattle.cp0_regs.specs.declared.mode.Mode.TheVariants.{Kernel}
use Rattle.cp0_regs.specs.Fields.{asid, k0}
use Rattle.cp0_regs.specs.PageMasks.{is_mask}
use Rattle.cp0_regs.specs.State.{value_of}
use Rattle.tlb_model.specs.declared.pairs.Pair.{Pair}
use Rattle.tlb_model.specs.declared.translation.Found.TheVariants.{Page, Invalid}
use Rattle.tlb_model.specs.Pairs.{IsPair}
use Rattle.tlb_model.specs.Segments.{Range, Useg, Kseg0, Kseg1, Sseg, Kseg3, range_of, in_mode}
use Rattle.tlb_model.specs.Translation.{compared_bits, covers, is_in_space, is_match, page_size, page_of, is_valid, is_cached, frame_of, physical_in, found_in, found_by, translated}
use Rattle.mips3_exec.specs.declared.processor.Cpu.{Cpu}
use Rattle.mips3_exec.specs.declared.routes.Route.TheVariants.{To}
use Rattle.mips3_exec.specs.Routes.{route_by, route_in, route_of}
use Rattle.prom_code.proofs.SameRoute.{TranslatesAs, leads_again, kernel_route, range_same, high_bits, routed}

-- ---- the masks

pub record IsEven (mask : ℕ) : Type 0 where
  pub k : ℕ
  pub is : mask ≡ k * 16
  pub small : k ≤ 0x1ffe00

one_of : (n c k : ℕ) (rest : Bool) → c ≡ k * 16 → k ≤ 0x1ffe00 → (rest ≡ true → IsEven n) → ((n == c) || rest) ≡ true → IsEven n
one_of n c k rest e small next is = elim (cases_Bool (n == c)) [
  | inl so ↦ record { k = k; is = eqb-true n c so ∙ e; small = small }
  | inr other ↦ next (sym (ap (λ b. b || rest) other) ∙ is)
]

never : (n : ℕ) → false ≡ true → IsEven n
never n e = absurd cc

pub even : (n : ℕ) → is_mask n ≡ true → IsEven n
even n =
    one_of n 0x01ffe000 0x1ffe00 _ (omega arith) (omega arith)
    (one_of n 0x007fe000 0x7fe00 _ (omega arith) (omega arith)
    (one_of n 0x001fe000 0x1fe00 _ (omega arith) (omega arith)
    (one_of n 0x0007e000 0x7e00 _ (omega arith) (omega arith)
    (one_of n 0x0001e000 0x1e00 _ (omega arith) (omega arith)
    (one_of n 0x00006000 0x600 _ (omega arith) (omega arith)
    (one_of n 0 0 _ (omega arith) (omega arith) (never n)))))))

-- ---- one pair

module _ (a b : ℕ) (near : a / 8 ≡ b / 8) where
  covers_near : (pair : Pair) → IsEven pair.mask → covers pair a ≡ covers pair b
  covers_near pair e =
      let m : ℕ = 0x1ffffc00 - e.k * 2 in
      let mask = e.is in
      let small = e.small in
      let c : compared_bits pair ≡ m * 8 = omega (arith, mask, small) in
      ap (λ n. bit_and (bit_xor a pair.hi) n == 0) c
      ∙ ap (λ n. n == 0) (high_bits a pair.hi m ∙ ap (λ n. bit_and (bit_xor n (pair.hi / 8)) m * 8) near ∙ sym (high_bits b pair.hi m))
      ∙ sym (ap (λ n. bit_and (bit_xor b pair.hi) n == 0) c)

  size_is : (pair : Pair) (e : IsEven pair.mask) → page_size pair ≡ (e.k + 512) * 8
  size_is pair e = let mask = e.is in omega (arith, mask)

  page_near : (pair : Pair) → IsEven pair.mask → page_of pair a ≡ page_of pair b
  page_near pair e =
      let s : ℕ = e.k + 512 in
      let size : page_size pair ≡ 8 * s = size_is pair e ∙ mul_comm s 8 in
      let same : a / page_size pair ≡ b / page_size pair = ap (λ n. a / n) size ∙ sym (div-div-eq-div-mul a 8 s) ∙ ap (λ n. n / s) near ∙ div-div-eq-div-mul b 8 s ∙ sym (ap (λ n. b / n) size) in
      ap (λ n. if n % 2 == 1 then pair.lo1 else pair.lo0) same

  -- the place of an address in a page of eights
  in_eights : (n s : ℕ) → 0 < s → n % (s * 8) ≡ n / 8 % s * 8 + n % 8
  in_eights n s pos =
      let split : n ≡ n / 8 / s * (s * 8) + (n / 8 % s * 8 + n % 8) = (let one = div-add-mod' (n / 8) s in let two : n ≡ n / 8 * 8 + n % 8 = omega arith in two ∙ ap (λ x. x * 8 + n % 8) (sym one) ∙ regroup (n / 8 / s) s (n / 8 % s) (n % 8)) in
      let fits : n / 8 % s * 8 + n % 8 < s * 8 = (let r = mod_below (n / 8) s pos in omega (arith, r)) in
      ap (λ x. x % (s * 8)) split ∙ mod-mul-add (n / 8 / s) (s * 8) (n / 8 % s * 8 + n % 8) fits
    where
      regroup : (q s r t : ℕ) → (q * s + r) * 8 + t ≡ q * (s * 8) + (r * 8 + t)
      regroup q s r t = grind (arith, mul_assoc q s 8)

  physical_is : (pair : Pair) (e : IsEven pair.mask) (n lo : ℕ) → physical_in pair n lo ≡ (frame_of lo / ((e.k + 512) * 8) * (e.k + 512) + n / 8 % (e.k + 512)) * 8 + n % 8
  physical_is pair e n lo =
      let s : ℕ = e.k + 512 in
      ap (λ z. frame_of lo / z * z + n % z) (size_is pair e) ∙ ap (λ x. frame_of lo / (s * 8) * (s * 8) + x) (in_eights n s (omega arith)) ∙ join (frame_of lo / (s * 8)) s (n / 8 % s) (n % 8)
    where
      join : (q s r t : ℕ) → q * (s * 8) + (r * 8 + t) ≡ (q * s + r) * 8 + t
      join q s r t = grind (arith, mul_assoc q s 8)

  physical_near : (pair : Pair) → IsEven pair.mask → (lo pa : ℕ) → physical_in pair a lo ≡ pa → physical_in pair b lo ≡ pa / 8 * 8 + b % 8
  physical_near pair e lo pa is =
      let s : ℕ = e.k + 512 in
      let q : ℕ = frame_of lo / (s * 8) * s + a / 8 % s in
      let here : pa ≡ q * 8 + a % 8 = sym is ∙ physical_is pair e a lo in
      let high : pa / 8 ≡ q = ap (λ x. x / 8) here ∙ div-mul-add q 8 (a % 8) (omega arith) in
      physical_is pair e b lo ∙ ap (λ n. (frame_of lo / (s * 8) * s + n % s) * 8 + b % 8) (sym near) ∙ ap (λ x. x * 8 + b % 8) (sym high)

  found_near : (pair : Pair) → IsEven pair.mask → (pa : ℕ) (cached : Bool) → found_in pair a false (page_of pair a) ≡ Page pa cached → found_in pair b false (page_of pair b) ≡ Page (pa / 8 * 8 + b % 8) cached
  found_near pair e pa cached found =
      let lo : ℕ = page_of pair a in
      let page : found_in pair b false (page_of pair b) ≡ found_in pair b false lo = ap (found_in pair b false) (sym (page_near pair e)) in
      page ∙ by_valid (is_valid lo) lo found
    where
      page_is : (p q : ℕ) (t u : Bool) → Page p t ≡ Page q u → (p ≡ q) × (t ≡ u)
      page_is p q t u e = (cc, cc)

      by_valid : (valid : Bool) (lo : ℕ) → (if not valid then Invalid else Page (physical_in pair a lo) (is_cached lo)) ≡ Page pa cached
          → (if not valid then Invalid else Page (physical_in pair b lo) (is_cached lo)) ≡ Page (pa / 8 * 8 + b % 8) cached
      by_valid true lo f = let p = page_is (physical_in pair a lo) pa (is_cached lo) cached f in ap₂ Page (physical_near pair e lo pa p.0) p.1
      by_valid false lo f = absurd cc

  -- ---- the pairs

  by_match : (pair : Pair) (e : IsEven pair.mask) (rest other : Option Pair) (pa : ℕ) (cached : Bool) → (found_by a false rest ≡ Page pa cached → found_by b false other ≡ Page (pa / 8 * 8 + b % 8) cached)
      → (t : Bool) → found_by a false (cond t (Some pair) rest) ≡ Page pa cached → found_by b false (cond t (Some pair) other) ≡ Page (pa / 8 * 8 + b % 8) cached
  by_match pair e rest other pa cached goes true f = found_near pair e pa cached f
  by_match pair e rest other pa cached goes false f = goes f

  pub pairs_near : (pairs : List Pair) (space pa : ℕ) (cached : Bool) → All IsPair pairs → found_by a false (find (is_match a space) pairs) ≡ Page pa cached → found_by b false (find (is_match b space) pairs) ≡ Page (pa / 8 * 8 + b % 8) cached
  pairs_near [] space pa cached all found = absurd cc
  pairs_near (pair ∷ pairs) space pa cached all found =
      let head : IsPair pair = all 0 pair (omega arith) in
      let e = even pair.mask head.mask.is in
      ap (λ t. found_by b false (cond (t && is_in_space space pair) (Some pair) (find (is_match b space) pairs))) (sym (covers_near pair e))
      ∙ by_match pair e (find (is_match a space) pairs) (find (is_match b space) pairs) pa cached (pairs_near pairs space pa cached (λ k d lt. all (suc k) d (omega (arith, lt)))) (is_match a space pair) found

-- ---- the route

module _ (cpu later : Cpu) (same : TranslatesAs cpu later) (pairs : All IsPair later.tlb) where
  near_in : (first bad again x pa attribute : ℕ) (cached : Bool) (range : Range) → first / 8 ≡ bad / 8
      → route_in later false first x (in_mode first false attribute Kernel range) ≡ To pa cached → route_in later false bad again (in_mode bad false attribute Kernel range) ≡ To (pa / 8 * 8 + bad % 8) cached
  unfolding translated
  near_in first bad again x pa attribute cached range near = by range
    where
      to_is : (p q : ℕ) (t u : Bool) → To p t ≡ To q u → (p ≡ q) × (t ≡ u)
      to_is p q t u e = (cc, cc)

      mapped : route_by false x (translated later.tlb first (value_of later.cp0 asid) false) ≡ To pa cached → route_by false again (translated later.tlb bad (value_of later.cp0 asid) false) ≡ To (pa / 8 * 8 + bad % 8) cached
      mapped leads = ap (route_by false again) (pairs_near first bad near later.tlb (value_of later.cp0 asid) pa cached pairs (routed false x pa cached (translated later.tlb first (value_of later.cp0 asid) false) leads))

      direct : (t : Bool) → To (first % 2 ^ 29) t ≡ To pa cached → To (bad % 2 ^ 29) t ≡ To (pa / 8 * 8 + bad % 8) cached
      direct t leads = let p = to_is (first % 2 ^ 29) pa t cached leads in let at = p.0 in let low : bad % 2 ^ 29 ≡ pa / 8 * 8 + bad % 8 = omega (arith, near, at) in ap₂ To low p.1

      by : (range : Range) → route_in later false first x (in_mode first false attribute Kernel range) ≡ To pa cached → route_in later false bad again (in_mode bad false attribute Kernel range) ≡ To (pa / 8 * 8 + bad % 8) cached
      by Useg leads = mapped leads
      by Kseg0 leads = direct _ leads
      by Kseg1 leads = direct _ leads
      by Sseg leads = mapped leads
      by Kseg3 leads = mapped leads

  -- The address that the exception shows leads to the doubleword of the access that took it.
  pub leads_near : (first bad pa : ℕ) (write cached : Bool) → first / 8 ≡ bad / 8 → route_of cpu write first bad ≡ To pa cached → route_of later false bad bad ≡ To (pa / 8 * 8 + bad % 8) cached
  leads_near first bad pa write cached near leads =
      let again = sym (kernel_route cpu later same first bad) ∙ leads_again cpu later same first bad bad pa write cached leads in
      kernel_route cpu later same bad bad
      ∙ ap (λ r. route_in later false bad bad (in_mode bad false (value_of cpu.cp0 k0) Kernel r)) (range_same bad first (sym near))
      ∙ near_in first bad bad bad pa (value_of cpu.cp0 k0) cached (range_of first) near again
