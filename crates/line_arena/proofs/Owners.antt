-- Each slot has one owner after a change.
use Rattle.std.proofs.Common.{◌≡◌, ◌≢◌, ◌⊎◌, ℕ, ◌<◌, Bool, true, false, List, length, get_or, set, Option, Some, None, refl, sym, ap, ◌∙◌, inl, inr, arith, length-set, get_or-set_same, get_or-set_other}
use Rattle.std.proofs.lemmas.Bool.{cases_eq, cases_Bool}
use Rattle.std.proofs.lemmas.List.{get_or_past}
use Rattle.std.proofs.lemmas.Option.{none-some, same_Some}
use Rattle.line_arena.specs.Holding.{IsOwned}
use Rattle.line_arena.proofs.Lists.{set_cases}

-- a holder's slot, and whether it owns it
abbrev at : List (Option ℕ) → ℕ → Option ℕ
at held k = get_or held k None

abbrev own : List Bool → ℕ → Bool
own owns k = get_or owns k false

pub differ : false ≡ true → ⊥
differ e = cc

-- whoever has a slot is a holder
pub is_holder : (held : List (Option ℕ)) (k slot : ℕ) → at held k ≡ Some slot → k < length held
is_holder held k slot e = grind (arith, get_or_past)

-- a holder without a slot owns none
pub owns_none : (held : List (Option ℕ)) (owns : List Bool) (h : ℕ) → IsOwned held owns → at held h ≡ None → own owns h ≡ false
owns_none held owns h is none = elim (cases_Bool (own owns h)) [
  | inl owner ↦ absurd (differ (rw none at (is.holds h owner)))
  | inr not_owner ↦ not_owner
]

-- A free slot is taken by a holder that has none.
pub owned_taken : (held : List (Option ℕ)) (owns : List Bool) (h s : ℕ) → IsOwned held owns → h < length held → at held h ≡ None → ((k : ℕ) → at held k ≡ Some s → ⊥) → IsOwned (set held h (Some s)) (set owns h true)
owned_taken held owns h s is lt none free =
    let lt2 : h < length owns = omega (arith, is.length_is) in
    record {
      length_is = rw (length-set held h (Some s), length-set owns h true) is.length_is;
      owned = λ k slot e. elim (set_cases held h k (Some s) None lt) [
        | inl here ↦ (h, get_or-set_same held h (Some s) None lt ∙ sym here.1 ∙ e, get_or-set_same owns h true false lt2)
        | inr other ↦
            let o = is.owned k slot (sym other.1 ∙ e) in
            let ne : o.0 ≢ h = λ q. none-some slot (sym none ∙ ap (at held) (sym q) ∙ o.1) in
            (o.0, get_or-set_other held h o.0 (Some s) None ne ∙ o.1, get_or-set_other owns h o.0 true false ne ∙ o.2)
      ];
      one = λ k j slot ek ej ok oj. elim (set_cases held h k (Some s) None lt) [
        | inl here ↦ elim (set_cases held h j (Some s) None lt) [
          | inl there ↦ here.0 ∙ sym there.0
          | inr other ↦ absurd (free j (sym other.1 ∙ ej ∙ sym ek ∙ here.1))
        ]
        | inr first ↦ elim (set_cases held h j (Some s) None lt) [
          | inl there ↦ absurd (free k (sym first.1 ∙ ek ∙ sym ej ∙ there.1))
          | inr other ↦ is.one k j slot (sym first.1 ∙ ek) (sym other.1 ∙ ej) (sym (get_or-set_other owns h k true false first.0) ∙ ok) (sym (get_or-set_other owns h j true false other.0) ∙ oj)
        ]
      ];
      holds = λ k o. elim (set_cases held h k (Some s) None lt) [
        | inl here ↦ rw here.1 refl
        | inr other ↦ rw other.1 (is.holds k (sym (get_or-set_other owns h k true false other.0) ∙ o))
      ];
    }

-- A holder without a slot gets one that another has.
pub owned_lent : (held : List (Option ℕ)) (owns : List Bool) (from h s : ℕ) → IsOwned held owns → h < length held → at held h ≡ None → at held from ≡ Some s → IsOwned (set held h (Some s)) owns
owned_lent held owns from h s is lt none has =
    let none_owned = owns_none held owns h is none in
    record {
      length_is = rw (length-set held h (Some s)) is.length_is;
      owned = λ k slot e. elim (set_cases held h k (Some s) None lt) [
        | inl here ↦
            let o = is.owned from slot (has ∙ sym here.1 ∙ e) in
            let ne : o.0 ≢ h = λ q. none-some slot (sym none ∙ ap (at held) (sym q) ∙ o.1) in
            (o.0, get_or-set_other held h o.0 (Some s) None ne ∙ o.1, o.2)
        | inr other ↦
            let o = is.owned k slot (sym other.1 ∙ e) in
            let ne : o.0 ≢ h = λ q. none-some slot (sym none ∙ ap (at held) (sym q) ∙ o.1) in
            (o.0, get_or-set_other held h o.0 (Some s) None ne ∙ o.1, o.2)
      ];
      one = λ k j slot ek ej ok oj.
          let nk : k ≢ h = λ q. differ (sym none_owned ∙ sym (ap (own owns) q) ∙ ok) in
          let nj : j ≢ h = λ q. differ (sym none_owned ∙ sym (ap (own owns) q) ∙ oj) in
          is.one k j slot (sym (get_or-set_other held h k (Some s) None nk) ∙ ek) (sym (get_or-set_other held h j (Some s) None nj) ∙ ej) ok oj;
      holds = λ k o. elim (set_cases held h k (Some s) None lt) [
        | inl here ↦ rw here.1 refl
        | inr other ↦ rw other.1 (is.holds k o)
      ];
    }

-- A holder leaves its slot, which no other has, or of which it is not the owner.
pub owned_left : (held : List (Option ℕ)) (owns : List Bool) (h s : ℕ) → IsOwned held owns → h < length held → at held h ≡ Some s → ((k : ℕ) → k ≢ h → at held k ≡ Some s → own owns h ≡ true → ⊥) → IsOwned (set held h None) (set owns h false)
owned_left held owns h s is lt has alone =
    let lt2 : h < length owns = omega (arith, is.length_is) in
    record {
      length_is = rw (length-set held h None, length-set owns h false) is.length_is;
      owned = λ k slot e. elim (set_cases held h k None None lt) [
        | inl here ↦ absurd (none-some slot (sym here.1 ∙ e))
        | inr other ↦
            let o = is.owned k slot (sym other.1 ∙ e) in
            let ne : o.0 ≢ h = λ q. alone k other.0 (sym other.1 ∙ e ∙ sym o.1 ∙ ap (at held) q ∙ has) (sym (ap (own owns) q) ∙ o.2) in
            (o.0, get_or-set_other held h o.0 None None ne ∙ o.1, get_or-set_other owns h o.0 false false ne ∙ o.2)
      ];
      one = λ k j slot ek ej ok oj. elim (set_cases held h k None None lt) [
        | inl here ↦ absurd (none-some slot (sym here.1 ∙ ek))
        | inr first ↦ elim (set_cases held h j None None lt) [
          | inl there ↦ absurd (none-some slot (sym there.1 ∙ ej))
          | inr other ↦ is.one k j slot (sym first.1 ∙ ek) (sym other.1 ∙ ej) (sym (get_or-set_other owns h k false false first.0) ∙ ok) (sym (get_or-set_other owns h j false false other.0) ∙ oj)
        ]
      ];
      holds = λ k o. elim (set_cases owns h k false false lt2) [
        | inl here ↦ absurd (differ (sym here.1 ∙ o))
        | inr other ↦ rw (get_or-set_other held h k None None other.0) (is.holds k (sym other.1 ∙ o))
      ];
    }

-- The owner of a slot leaves it, and another that has it is its owner.
pub owned_passed : (held : List (Option ℕ)) (owns : List Bool) (h s heir : ℕ) → IsOwned held owns → h < length held → at held h ≡ Some s → own owns h ≡ true → heir ≢ h → at held heir ≡ Some s → IsOwned (set held h None) (set (set owns h false) heir true)
owned_passed held owns h s heir is lt has owner ne takes =
    let lt2 : h < length owns = omega (arith, is.length_is) in
    let lt3 : heir < length owns = omega (arith, is.length_is, is_holder held heir s takes) in
    let lt4 : heir < length (set owns h false) = rw (length-set owns h false) lt3 in
    let old : (k : ℕ) → own (set (set owns h false) heir true) k ≡ true → (k ≡ heir) ⊎ ((k ≢ h) × (own owns k ≡ true)) =
    λ k o. elim (set_cases (set owns h false) heir k true false lt4) [
      | inl here ↦ inl here.0
      | inr other ↦ elim (set_cases owns h k false false lt2) [
        | inl there ↦ absurd (differ (sym there.1 ∙ sym other.1 ∙ o))
        | inr more ↦ inr (more.0, sym more.1 ∙ sym other.1 ∙ o)
      ]
    ] in
    -- no owner of another slot is the heir, and no old owner has this one
    let not_old : (k : ℕ) → k ≢ h → own owns k ≡ true → at held k ≡ Some s → ⊥ = λ k differs o e. differs (is.one k h s e has o owner) in
    record {
      length_is = rw (length-set held h None, length-set (set owns h false) heir true, length-set owns h false) is.length_is;
      owned = λ k slot e. elim (set_cases held h k None None lt) [
        | inl here ↦ absurd (none-some slot (sym here.1 ∙ e))
        | inr other ↦
            let o = is.owned k slot (sym other.1 ∙ e) in
            elim (cases_eq slot s) [
              | inl same ↦ (heir, get_or-set_other held h heir None None ne ∙ takes ∙ ap Some (sym same), get_or-set_same (set owns h false) heir true false lt4)
              | inr differs ↦
                  let apart : o.0 ≢ h = λ q. differs (same_Some slot s (sym o.1 ∙ ap (at held) q ∙ has)) in
                  let nh : o.0 ≢ heir = λ q. differs (same_Some slot s (sym o.1 ∙ ap (at held) q ∙ takes)) in
                  (o.0, get_or-set_other held h o.0 None None apart ∙ o.1, get_or-set_other (set owns h false) heir o.0 true false nh ∙ get_or-set_other owns h o.0 false false apart ∙ o.2)
            ]
      ];
      one = λ k j slot ek ej ok oj. elim (set_cases held h k None None lt) [
        | inl here ↦ absurd (none-some slot (sym here.1 ∙ ek))
        | inr first ↦ elim (set_cases held h j None None lt) [
          | inl there ↦ absurd (none-some slot (sym there.1 ∙ ej))
          | inr other ↦ elim (old k ok) [
            | inl k_heir ↦ elim (old j oj) [
              | inl j_heir ↦ k_heir ∙ sym j_heir
              | inr j_old ↦ absurd (not_old j j_old.0 j_old.1 (sym other.1 ∙ ej ∙ sym ek ∙ first.1 ∙ ap (at held) k_heir ∙ takes))
            ]
            | inr k_old ↦ elim (old j oj) [
              | inl j_heir ↦ absurd (not_old k k_old.0 k_old.1 (sym first.1 ∙ ek ∙ sym ej ∙ other.1 ∙ ap (at held) j_heir ∙ takes))
              | inr j_old ↦ is.one k j slot (sym first.1 ∙ ek) (sym other.1 ∙ ej) k_old.1 j_old.1
            ]
          ]
        ]
      ];
      holds = λ k o. elim (old k o) [
        | inl k_heir ↦
            let e : at (set held h None) k ≡ Some s = ap (at (set held h None)) k_heir ∙ get_or-set_other held h heir None None ne ∙ takes in
            rw e refl
        | inr k_old ↦ rw (get_or-set_other held h k None None k_old.0) (is.holds k k_old.1)
      ];
    }
