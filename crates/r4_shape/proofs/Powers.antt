-- The laws of a shape that is kept by its logarithms: a shift right is a division by the number, and a mask is the remainder.
use Rattle.std.proofs.Common.{◌≡◌, inl, inr, ℕ, ◌+◌, ◌-◌, ◌*◌, ◌/◌, ◌%◌, ◌^◌, ◌<◌, ◌≤◌, ◌∙◌, ap, arith, refl, Bool, true}
use Rattle.std.specs.Int.Bits.{bit_and}
use Rattle.std.proofs.lemmas.Bool.{cases_eq, cases_lt}
use Rattle.std.proofs.lemmas.Nat.{one_shl, and_mask}
use Rattle.std.proofs.Math.Pow.{pow-lt}
use Rattle.std.specs.Int.Count.{count_trailing_zeros}
use Rattle.r4_shape.specs.Numbers.{IsShape, IsPrim, IsLine, IsGroup, IsSize, HasPages}
use Rattle.r4_shape.specs.Powers.{ArePowers, numbers_of, logarithm}

-- ---- statements of a logarithm, shown for each

pub by_line : (P : ℕ → Type 0) (line : ℕ) → 4 ≤ line → line ≤ 5 → P 4 → P 5 → P line
by_line P line least most a b = elim (cases_eq line 4) [ inl e ↦ rw e a | inr n ↦ (let e : line ≡ 5 = omega arith in rw e b) ]

pub by_group : (P : ℕ → Type 0) (group : ℕ) → 4 ≤ group → group ≤ 7 → P 4 → P 5 → P 6 → P 7 → P group
by_group P group least most a b c d = elim (cases_eq group 4) [
  | inl e ↦ rw e a
  | inr n ↦ elim (cases_eq group 5) [
    | inl e ↦ rw e b
    | inr m ↦ elim (cases_eq group 6) [ inl e ↦ rw e c | inr k ↦ (let e : group ≡ 7 = omega arith in rw e d) ]
  ]
]

pub by_size : (P : ℕ → Type 0) (size : ℕ) → 17 ≤ size → size ≤ 20 → P 17 → P 18 → P 19 → P 20 → P size
by_size P size least most a b c d = elim (cases_eq size 17) [
  | inl e ↦ rw e a
  | inr n ↦ elim (cases_eq size 18) [
    | inl e ↦ rw e b
    | inr m ↦ elim (cases_eq size 19) [ inl e ↦ rw e c | inr k ↦ (let e : size ≡ 20 = omega arith in rw e d) ]
  ]
]

-- ---- shifts and masks

-- a mask of the low bits is the remainder
pub masked : (n k w : ℕ) → k < w → bit_and n ((1 * 2 ^ k) % 2 ^ w - 1) ≡ n % 2 ^ k
masked n k w few = rw (one_shl k w few) (and_mask n k)

-- ---- copies

-- the number of a copy, as it is computed
pub copy_at : (line : ℕ) → 4 ≤ line → line ≤ 5 → (g c : ℕ) → g < 8388608 / 2 ^ line → c < 2
    → (g / 2 ^ (12 - line) * 2 ^ (13 - line)) % 2 ^ 32 + ((c * 2 ^ (12 - line)) % 2 ^ 32 + bit_and g ((1 * 2 ^ (12 - line)) % 2 ^ 32 - 1))
    ≡ g / (4096 / 2 ^ line) * (8192 / 2 ^ line) + (c * (4096 / 2 ^ line) + g % (4096 / 2 ^ line))
copy_at line least most g c =
    by_line (λ l. g < 8388608 / 2 ^ l → c < 2
    → (g / 2 ^ (12 - l) * 2 ^ (13 - l)) % 2 ^ 32 + ((c * 2 ^ (12 - l)) % 2 ^ 32 + bit_and g ((1 * 2 ^ (12 - l)) % 2 ^ 32 - 1))
    ≡ g / (4096 / 2 ^ l) * (8192 / 2 ^ l) + (c * (4096 / 2 ^ l) + g % (4096 / 2 ^ l))) line least most
    (λ low few. let e : bit_and g 255 ≡ g % 256 = masked g 8 32 (omega arith) in omega arith)
    (λ low few. let e : bit_and g 127 ≡ g % 128 = masked g 7 32 (omega arith) in omega arith)

-- and it is no large one
pub copy_most : (line : ℕ) → 4 ≤ line → line ≤ 5 → (g c : ℕ) → g < 8388608 / 2 ^ line → c < 2
    → (g / 2 ^ (12 - line) * 2 ^ (13 - line)) % 2 ^ 32 + ((c * 2 ^ (12 - line)) % 2 ^ 32 + bit_and g ((1 * 2 ^ (12 - line)) % 2 ^ 32 - 1)) < 2 ^ 32
copy_most line least most g c =
    by_line (λ l. g < 8388608 / 2 ^ l → c < 2
    → (g / 2 ^ (12 - l) * 2 ^ (13 - l)) % 2 ^ 32 + ((c * 2 ^ (12 - l)) % 2 ^ 32 + bit_and g ((1 * 2 ^ (12 - l)) % 2 ^ 32 - 1)) < 2 ^ 32) line least most
    (λ low few. let e : bit_and g 255 ≡ g % 256 = masked g 8 32 (omega arith) in omega arith)
    (λ low few. let e : bit_and g 127 ≡ g % 128 = masked g 7 32 (omega arith) in omega arith)

-- the copy of an access: its page's copies come before it, and then as many as its index says
pub accessed_at : (line : ℕ) → 4 ≤ line → line ≤ 5 → (pa va : ℕ) → pa < 8388608 → pa % 4096 ≡ va % 4096
    → (pa / 4096 * 2 ^ (13 - line)) % 2 ^ 32 + va % 8192 / 2 ^ line
    ≡ pa / 2 ^ line / (4096 / 2 ^ line) * (8192 / 2 ^ line) + (va % 8192 / 4096 * (4096 / 2 ^ line) + pa / 2 ^ line % (4096 / 2 ^ line))
accessed_at line least most pa va low same =
    by_line (λ l. (pa / 4096 * 2 ^ (13 - l)) % 2 ^ 32 + va % 8192 / 2 ^ l
    ≡ pa / 2 ^ l / (4096 / 2 ^ l) * (8192 / 2 ^ l) + (va % 8192 / 4096 * (4096 / 2 ^ l) + pa / 2 ^ l % (4096 / 2 ^ l))) line least most
    (omega arith)
    (omega arith)

-- ---- the logarithms of numbers

pub prim_of : (prim p : ℕ) → IsPrim prim → p ≡ logarithm prim → (p ≡ 13) × (2 ^ p ≡ prim) × (logarithm (2 ^ p) ≡ p)
unfolding count_trailing_zeros
prim_of prim p is e = let h : p ≡ 13 = e ∙ ap logarithm is in rw (h, is) (refl, refl, refl)

pub line_of : (line l : ℕ) → IsLine line → l ≡ logarithm line → (4 ≤ l) × (l ≤ 5) × (2 ^ l ≡ line) × (logarithm (2 ^ l) ≡ l)
unfolding count_trailing_zeros
line_of line l is e = elim is [
  | inl q ↦ (let h : l ≡ 4 = e ∙ ap logarithm q in rw (h, q) (omega arith, omega arith, refl, refl))
  | inr q ↦ (let h : l ≡ 5 = e ∙ ap logarithm q in rw (h, q) (omega arith, omega arith, refl, refl))
]

pub group_of : (group g : ℕ) → IsGroup group → g ≡ logarithm group → (g ≤ 7) × (2 ^ g ≡ group) × (logarithm (2 ^ g) ≡ g)
unfolding count_trailing_zeros
group_of group g is e = elim is [
  | inl q ↦ (let h : g ≡ 4 = e ∙ ap logarithm q in rw (h, q) (omega arith, refl, refl))
  | inr o ↦ elim o [
    | inl q ↦ (let h : g ≡ 5 = e ∙ ap logarithm q in rw (h, q) (omega arith, refl, refl))
    | inr r ↦ elim r [
      | inl q ↦ (let h : g ≡ 6 = e ∙ ap logarithm q in rw (h, q) (omega arith, refl, refl))
      | inr q ↦ (let h : g ≡ 7 = e ∙ ap logarithm q in rw (h, q) (omega arith, refl, refl))
    ]
  ]
]

pub size_of : (size s : ℕ) → IsSize size → s ≡ logarithm size → (17 ≤ s) × (s ≤ 20) × (2 ^ s ≡ size) × (logarithm (2 ^ s) ≡ s)
unfolding count_trailing_zeros
size_of size s is e = elim is [
  | inl q ↦ (let h : s ≡ 17 = e ∙ ap logarithm q in rw (h, q) (omega arith, omega arith, refl, refl))
  | inr o ↦ elim o [
    | inl q ↦ (let h : s ≡ 18 = e ∙ ap logarithm q in rw (h, q) (omega arith, omega arith, refl, refl))
    | inr r ↦ elim r [
      | inl q ↦ (let h : s ≡ 19 = e ∙ ap logarithm q in rw (h, q) (omega arith, omega arith, refl, refl))
      | inr q ↦ (let h : s ≡ 20 = e ∙ ap logarithm q in rw (h, q) (omega arith, omega arith, refl, refl))
    ]
  ]
]

pub logarithms_in_order : (line group l g : ℕ) → IsLine line → IsGroup group → line ≤ group → l ≡ logarithm line → g ≡ logarithm group → l ≤ g
logarithms_in_order line group l g is are holds e f =
    let a = line_of line l is e in
    let b = group_of group g are f in
    elim (cases_lt g l) [
      | inl less ↦ (let h : 2 ^ g < 2 ^ l = pow-lt less in let p : group < line = rw (b.1, a.2) at h in omega arith)
      | inr order ↦ order
    ]

-- ---- a shape

module _ (sc : Bool) (prim line group size : ℕ) (is : ArePowers sc prim line group size) where
  pub group_least : sc ≡ true → 4 ≤ group
  group_least e = let h = is.holds e in let l = is.line_least in omega arith

  pub shape_is : IsShape (numbers_of sc prim line group size)
  shape_is = record {
    prim = rw is.prim_is refl;
    line = by_line (λ l. IsLine (2 ^ l)) line is.line_least is.line_most (inl refl) (inr refl);
    no_group = λ e. rw e refl;
    no_size = λ e. rw e refl;
    group = λ e. rw e (by_group (λ g. IsGroup (2 ^ g)) group (group_least e) is.group_most (inl refl) (inr (inl refl)) (inr (inr (inl refl))) (inr (inr (inr refl))));
    holds = λ e. rw e (holds e);
    size = λ e. rw e (by_size (λ s. IsSize (2 ^ s)) size (is.size_least e) is.size_most (inl refl) (inr (inl refl)) (inr (inr (inl refl))) (inr (inr (inr refl))));
  }
    where
      holds : sc ≡ true → 2 ^ line ≤ 2 ^ group
      holds e =
          by_line (λ l. l ≤ group → 2 ^ l ≤ 2 ^ group) line is.line_least is.line_most
          (λ h. by_group (λ g. 16 ≤ 2 ^ g) group (group_least e) is.group_most (omega arith) (omega arith) (omega arith) (omega arith))
          (λ h. by_group (λ g. 5 ≤ g → 32 ≤ 2 ^ g) group (group_least e) is.group_most (λ n. omega arith) (λ n. omega arith) (λ n. omega arith) (λ n. omega arith) h)
          (is.holds e)

  pub pages_are : HasPages (numbers_of sc prim line group size)
  pages_are = rw is.prim_is (record { whole = refl; least = omega arith; most = omega arith })

  -- an address within the secondary cache lies at one of its places
  pub secondary_inside : sc ≡ true → (pa : ℕ) → pa % 2 ^ size / 2 ^ group < 2 ^ size / 2 ^ group
  secondary_inside e pa =
      by_size (λ s. pa % 2 ^ s / 2 ^ group < 2 ^ s / 2 ^ group) size (is.size_least e) is.size_most
      (by_group (λ g. pa % 131072 / 2 ^ g < 131072 / 2 ^ g) group (group_least e) is.group_most (omega arith) (omega arith) (omega arith) (omega arith))
      (by_group (λ g. pa % 262144 / 2 ^ g < 262144 / 2 ^ g) group (group_least e) is.group_most (omega arith) (omega arith) (omega arith) (omega arith))
      (by_group (λ g. pa % 524288 / 2 ^ g < 524288 / 2 ^ g) group (group_least e) is.group_most (omega arith) (omega arith) (omega arith) (omega arith))
      (by_group (λ g. pa % 1048576 / 2 ^ g < 1048576 / 2 ^ g) group (group_least e) is.group_most (omega arith) (omega arith) (omega arith) (omega arith))
