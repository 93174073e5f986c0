-- What the arena keeps, after each change of its parts.
use Rattle.std.proofs.Common.{◌≡◌, ◌≢◌, ◌⊎◌, ℕ, ◌+◌, ◌<◌, ◌≤◌, ◌^◌, Bool, true, false, List, length, get_or, set, Option, Some, None, is_some, IsSome, count_by, refl, sym, ap, ◌∙◌, inl, inr, arith, length-set, get_or-set_same, get_or-set_other}
use Rattle.std.proofs.lemmas.Bool.{cases_Bool, cases_eq, eqb-true, eq-eqb}
use Rattle.std.proofs.lemmas.List.{get_or_past}
use Rattle.std.proofs.lemmas.Option.{none-some, same_Some}
use Rattle.std.proofs.lemmas.List.Sums.{count_by-le-length}
use Rattle.slab.specs.Slab.{Slab, get, slab_len, Updates, with_value}
use Rattle.slab.proofs.SlabLemmas.{Updates-with_value}
use Rattle.line_arena.specs.Holding.{IsOwned, is_slot}
use Rattle.line_arena.specs.Parts.{Parts, IsKept, holders_of}
use Rattle.line_arena.proofs.Lists.{default, set_cases, count_gain, count_loss, count_stay, count_keep, count_none, count_some}
use Rattle.line_arena.proofs.Owners.{is_holder, owns_none, owned_taken, owned_lent, owned_left, owned_passed, differ}

abbrev at : List (Option ℕ) → ℕ → Option ℕ
at held k = get_or held k None

-- the test of one slot
pub is_it : (s : ℕ) → is_slot (Some s) (Some s) ≡ true
is_it s = eq-eqb s s refl

pub is_other : (s : ℕ) (o : Option ℕ) → (o ≡ Some s → ⊥) → is_slot (Some s) o ≡ false
is_other s None ne = refl
is_other s (Some t) ne = elim (cases_Bool (is_slot (Some s) (Some t))) [
  | inl same ↦ absurd (ne (ap Some (eqb-true t s same)))
  | inr apart ↦ apart
]

pub slot_is : (s : ℕ) (o : Option ℕ) → is_slot (Some s) o ≡ true → o ≡ Some s
slot_is s None e = absurd (differ e)
slot_is s (Some t) e = ap Some (eqb-true t s e)

-- a slot without bytes is free
pub is_free : (p : Parts) (s : ℕ) → IsKept p → get p.store s ≡ None → (k : ℕ) → at p.held k ≡ Some s → ⊥
is_free p s is vacant k e = differ (rw vacant at (is.stored k s e))

-- there is room for the slot of a holder that has none
pub has_room : (p : Parts) (h : ℕ) → IsKept p → h < length p.held → at p.held h ≡ None → slab_len p.store + 1 ≤ p.store.capacity
has_room p h is lt none =
    let unowned = owns_none p.held p.owns h is.owners none in
    let lt2 : h < length p.owns = omega (arith, is.owners.length_is) in
    let more = count_gain (λ own. own) p.owns h true false lt2 unowned refl in
    omega (arith, more, is.in_use, is.room, is.owners.length_is, length-set p.owns h true, count_by-le-length (λ own. own) (set p.owns h true))

-- the holders of each slot, where one holder more has a slot
gained : (held : List (Option ℕ)) (h s slot : ℕ) → h < length held → at held h ≡ None → ((slot ≡ s) × (holders_of slot (set held h (Some s)) ≡ holders_of s held + 1)) ⊎ ((slot ≢ s) × (holders_of slot (set held h (Some s)) ≡ holders_of slot held))
gained held h s slot lt none = elim (cases_eq slot s) [
  | inl e ↦ inl (e, ap (λ (n : ℕ). holders_of n (set held h (Some s))) e ∙ count_gain (is_slot (Some s)) held h (Some s) None lt (rw none refl) (is_it s))
  | inr ne ↦ inr (ne, count_stay (is_slot (Some slot)) held h (Some s) None lt (rw none refl) (is_other slot (Some s) (λ e. ne (sym (same_Some s slot e)))))
]

-- the holders of each slot, where one holder fewer has a slot
lost : (held : List (Option ℕ)) (h s slot : ℕ) → h < length held → at held h ≡ Some s → ((slot ≡ s) × (holders_of slot (set held h None) + 1 ≡ holders_of s held)) ⊎ ((slot ≢ s) × (holders_of slot (set held h None) ≡ holders_of slot held))
lost held h s slot lt has = elim (cases_eq slot s) [
  | inl e ↦ inl (e, ap (λ (n : ℕ). holders_of n (set held h None) + 1) e ∙ count_loss (is_slot (Some s)) held h None None lt (rw has (is_it s)) refl)
  | inr ne ↦ inr (ne, count_stay (is_slot (Some slot)) held h None None lt (rw has (is_other slot (Some s) (λ e. ne (sym (same_Some s slot e))))) refl)
]

-- A holder without a slot takes a free one.
pub kept_taken : (p : Parts) (h s : ℕ) (bytes : List ℕ) (store : Slab (List ℕ)) → IsKept p → h < length p.held → at p.held h ≡ None → get p.store s ≡ None → Updates p.store store s (Some bytes) → slab_len store ≡ slab_len p.store + 1 → s < store.capacity → store.capacity ≡ p.store.capacity → length bytes ≡ 32 → IsKept (record p { store = store; held = set p.held h (Some s); counts = set p.counts s 1; owns = set p.owns h true })
kept_taken p h s bytes store is lt none vacant updates more inside cap long =
    let free = is_free p s is vacant in
    let unowned = owns_none p.held p.owns h is.owners none in
    let lt2 : h < length p.owns = omega (arith, is.owners.length_is) in
    let lt3 : s < length p.counts = omega (arith, is.counts_length) in
    record {
      line_is = is.line_is;
      few = rw (length-set p.held h (Some s)) is.few;
      owners = owned_taken p.held p.owns h s is.owners lt none free;
      room = rw (length-set p.held h (Some s), cap) is.room;
      in_use = omega (arith, more, is.in_use, count_gain (λ own. own) p.owns h true false lt2 unowned refl);
      within = λ k slot e. elim (set_cases p.held h k (Some s) None lt) [
        | inl here ↦ let q = same_Some s slot (sym here.1 ∙ e) in omega (arith, q)
        | inr other ↦ omega (arith, cap, is.within k slot (sym other.1 ∙ e))
      ];
      stored = λ k slot e. elim (set_cases p.held h k (Some s) None lt) [
        | inl here ↦
            let q : slot ≡ s = sym (same_Some s slot (sym here.1 ∙ e)) in
            ap is_some (ap (get store) q ∙ updates.changed)
        | inr other ↦
            let ne : slot ≢ s = λ q. free k (sym other.1 ∙ e ∙ ap Some q) in
            ap is_some (updates.others slot ne) ∙ is.stored k slot (sym other.1 ∙ e)
      ];
      sized = λ slot bs e. elim (cases_eq slot s) [
        | inl q ↦
            let same : bytes ≡ bs = same_Some bytes bs (sym updates.changed ∙ ap (get store) (sym q) ∙ e) in
            ap length (sym same) ∙ long
        | inr ne ↦ is.sized slot bs (sym (updates.others slot ne) ∙ e)
      ];
      counts_length = length-set p.counts s 1 ∙ is.counts_length ∙ sym cap;
      counted = λ slot below. elim (gained p.held h s slot lt none) [
        | inl here ↦
            let none_yet = count_none (is_slot (Some s)) p.held None (λ k _. is_other s (at p.held k) (free k)) in
            let one : get_or (set p.counts s 1) slot 0 ≡ 1 = ap (λ (n : ℕ). get_or (set p.counts s 1) n 0) here.0 ∙ get_or-set_same p.counts s 1 0 lt3 in
            omega (arith, one, none_yet, here.1)
        | inr other ↦ get_or-set_other p.counts s slot 1 0 other.0 ∙ is.counted slot (omega (arith, cap)) ∙ sym other.1
      ];
    }

-- A holder without a slot gets one that another has.
pub kept_lent : (p : Parts) (from h s c : ℕ) → IsKept p → h < length p.held → at p.held h ≡ None → at p.held from ≡ Some s → c ≡ get_or p.counts s 0 + 1 → IsKept (record p { held = set p.held h (Some s); counts = set p.counts s c })
kept_lent p from h s c is lt none has one_more =
    let inside = is.within from s has in
    let lt3 : s < length p.counts = omega (arith, is.counts_length) in
    record {
      line_is = is.line_is;
      few = rw (length-set p.held h (Some s)) is.few;
      owners = owned_lent p.held p.owns from h s is.owners lt none has;
      room = rw (length-set p.held h (Some s)) is.room;
      in_use = is.in_use;
      within = λ k slot e. elim (set_cases p.held h k (Some s) None lt) [
        | inl here ↦ is.within from slot (has ∙ sym here.1 ∙ e)
        | inr other ↦ is.within k slot (sym other.1 ∙ e)
      ];
      stored = λ k slot e. elim (set_cases p.held h k (Some s) None lt) [
        | inl here ↦ is.stored from slot (has ∙ sym here.1 ∙ e)
        | inr other ↦ is.stored k slot (sym other.1 ∙ e)
      ];
      sized = is.sized;
      counts_length = length-set p.counts s c ∙ is.counts_length;
      counted = λ slot below. elim (gained p.held h s slot lt none) [
        | inl here ↦
            let more : get_or (set p.counts s c) slot 0 ≡ c = ap (λ (n : ℕ). get_or (set p.counts s c) n 0) here.0 ∙ get_or-set_same p.counts s c 0 lt3 in
            omega (arith, more, one_more, is.counted s inside, here.1)
        | inr other ↦ get_or-set_other p.counts s slot c 0 other.0 ∙ is.counted slot below ∙ sym other.1
      ];
    }

-- one holder more of a slot is no more than all holders
pub lent_few : (p : Parts) (from h s : ℕ) → IsKept p → h < length p.held → at p.held h ≡ None → at p.held from ≡ Some s → get_or p.counts s 0 + 1 < 2 ^ 32
lent_few p from h s is lt none has =
    let more = count_gain (is_slot (Some s)) p.held h (Some s) None lt (rw none refl) (is_it s) in
    omega (arith, more, is.few, is.counted s (is.within from s has), length-set p.held h (Some s), count_by-le-length (is_slot (Some s)) (set p.held h (Some s)))

-- A slot that no other holder has gets other bytes.
pub kept_written : (p : Parts) (h s : ℕ) (bytes : List ℕ) → IsKept p → at p.held h ≡ Some s → length bytes ≡ 32 → IsKept (record p { store = with_value p.store s bytes })
kept_written p h s bytes is has long =
    let there = is.stored h s has in
    let updates = Updates-with_value p.store s bytes there in
    let lt : s < length p.store.slots = slot_within p.store.slots s there in
    record {
      line_is = is.line_is;
      few = is.few;
      owners = is.owners;
      room = is.room;
      in_use = count_keep is_some p.store.slots s (Some bytes) None lt there refl ∙ is.in_use;
      within = is.within;
      stored = λ k slot e. elim (cases_eq slot s) [
        | inl q ↦ ap is_some (ap (get (with_value p.store s bytes)) q ∙ updates.changed)
        | inr ne ↦ ap is_some (updates.others slot ne) ∙ is.stored k slot e
      ];
      sized = λ slot bs e. elim (cases_eq slot s) [
        | inl q ↦
            let same : bytes ≡ bs = same_Some bytes bs (sym updates.changed ∙ ap (get (with_value p.store s bytes)) (sym q) ∙ e) in
            ap length (sym same) ∙ long
        | inr ne ↦ is.sized slot bs (sym (updates.others slot ne) ∙ e)
      ];
      counts_length = is.counts_length;
      counted = is.counted;
    }
  where
    slot_within : (slots : List (Option (List ℕ))) (s : ℕ) → IsSome (get_or slots s None) → s < length slots
    slot_within slots s present = grind (arith, get_or_past)

-- A holder has left its slot, and the slots that the others have are in use as before.
kept_left : (p : Parts) (h s c : ℕ) (store : Slab (List ℕ)) (owns : List Bool) → IsKept p → h < length p.held → at p.held h ≡ Some s → c + 1 ≡ get_or p.counts s 0 → IsOwned (set p.held h None) owns → store.capacity ≡ p.store.capacity → slab_len store ≡ count_by (λ own. own) owns → ((k slot : ℕ) → k ≢ h → at p.held k ≡ Some slot → get store slot ≡ get p.store slot) → ((slot : ℕ) (bytes : List ℕ) → get store slot ≡ Some bytes → length bytes ≡ 32) → IsKept (record p { store = store; held = set p.held h None; counts = set p.counts s c; owns = owns })
kept_left p h s c store owns is lt has less owners cap in_use stays sized =
    let inside = is.within h s has in
    let lt3 : s < length p.counts = omega (arith, is.counts_length) in
    record {
      line_is = is.line_is;
      few = rw (length-set p.held h None) is.few;
      owners = owners;
      room = rw (length-set p.held h None, cap) is.room;
      in_use = in_use;
      within = λ k slot e. elim (set_cases p.held h k None None lt) [
        | inl here ↦ absurd (none-some slot (sym here.1 ∙ e))
        | inr other ↦ omega (arith, cap, is.within k slot (sym other.1 ∙ e))
      ];
      stored = λ k slot e. elim (set_cases p.held h k None None lt) [
        | inl here ↦ absurd (none-some slot (sym here.1 ∙ e))
        | inr other ↦ ap is_some (stays k slot other.0 (sym other.1 ∙ e)) ∙ is.stored k slot (sym other.1 ∙ e)
      ];
      sized = sized;
      counts_length = length-set p.counts s c ∙ is.counts_length ∙ sym cap;
      counted = λ slot below. elim (lost p.held h s slot lt has) [
        | inl here ↦
            let value : get_or (set p.counts s c) slot 0 ≡ c = ap (λ (n : ℕ). get_or (set p.counts s c) n 0) here.0 ∙ get_or-set_same p.counts s c 0 lt3 in
            omega (arith, value, less, is.counted s inside, here.1)
        | inr other ↦ get_or-set_other p.counts s slot c 0 other.0 ∙ is.counted slot (omega (arith, cap)) ∙ sym other.1
      ];
    }

-- no other holder has a slot of one holder
pub alone : (p : Parts) (h s : ℕ) → IsKept p → at p.held h ≡ Some s → get_or p.counts s 0 ≡ 1 → (k : ℕ) → k ≢ h → at p.held k ≡ Some s → ⊥
alone p h s is has one k ne e =
    let lt = is_holder p.held h s has in
    let left = count_loss (is_slot (Some s)) p.held h None None lt (rw has (is_it s)) refl in
    let stays : at (set p.held h None) k ≡ Some s = get_or-set_other p.held h k None None ne ∙ e in
    let some = count_some (is_slot (Some s)) (set p.held h None) k None (is_holder (set p.held h None) k s stays) (rw stays (is_it s)) in
    omega (arith, left, some, one, is.counted s (is.within h s has))

-- the owner of a slot that no other holder has is its holder
pub alone_owns : (p : Parts) (h s : ℕ) → IsKept p → at p.held h ≡ Some s → get_or p.counts s 0 ≡ 1 → get_or p.owns h false ≡ true
alone_owns p h s is has one =
    let owner = is.owners.owned h s has in
    elim (cases_eq owner.0 h) [
      | inl q ↦ ap (λ (n : ℕ). get_or p.owns n false) (sym q) ∙ owner.2
      | inr ne ↦ absurd (alone p h s is has one owner.0 ne owner.1)
    ]

-- A holder leaves a slot that no other has.
pub kept_given : (p : Parts) (h s c : ℕ) (store : Slab (List ℕ)) → IsKept p → at p.held h ≡ Some s → get_or p.counts s 0 ≡ 1 → c ≡ 0 → Updates p.store store s None → slab_len store + 1 ≡ slab_len p.store → store.capacity ≡ p.store.capacity → IsKept (record p { store = store; held = set p.held h None; counts = set p.counts s c; owns = set p.owns h false })
kept_given p h s c store is has one zero updates less cap =
    let lt = is_holder p.held h s has in
    let lt2 : h < length p.owns = omega (arith, is.owners.length_is) in
    let owner = alone_owns p h s is has one in
    let fewer = count_loss (λ own. own) p.owns h false false lt2 owner refl in
    kept_left p h s c store (set p.owns h false) is lt has (omega arith) (owned_left p.held p.owns h s is.owners lt has (λ k ne e _. alone p h s is has one k ne e)) cap (omega (arith, fewer, is.in_use))
    (λ k slot ne e. updates.others slot (λ q. alone p h s is has one k ne (e ∙ ap Some q)))
    (λ slot bytes e. elim (cases_eq slot s) [
      | inl q ↦ absurd (none-some bytes (sym updates.changed ∙ ap (get store) (sym q) ∙ e))
      | inr ne ↦ is.sized slot bytes (sym (updates.others slot ne) ∙ e)
    ])

-- A holder leaves a slot that it does not own.
pub kept_borrower : (p : Parts) (h s c : ℕ) → IsKept p → at p.held h ≡ Some s → c + 1 ≡ get_or p.counts s 0 → get_or p.owns h false ≡ false → IsKept (record p { held = set p.held h None; counts = set p.counts s c; owns = set p.owns h false })
kept_borrower p h s c is has less unowned =
    let lt = is_holder p.held h s has in
    let lt2 : h < length p.owns = omega (arith, is.owners.length_is) in
    let as_many = count_stay (λ own. own) p.owns h false false lt2 unowned refl in
    kept_left p h s c p.store (set p.owns h false) is lt has less (owned_left p.held p.owns h s is.owners lt has (λ k ne e owner. differ (sym unowned ∙ owner))) refl (is.in_use ∙ sym as_many) (λ k slot ne e. refl) is.sized

-- The owner of a slot leaves it, and another holder that has it is its owner.
pub kept_passed : (p : Parts) (h s c heir : ℕ) → IsKept p → at p.held h ≡ Some s → c + 1 ≡ get_or p.counts s 0 → get_or p.owns h false ≡ true → heir ≢ h → at p.held heir ≡ Some s → IsKept (record p { held = set p.held h None; counts = set p.counts s c; owns = set (set p.owns h false) heir true })
kept_passed p h s c heir is has less owner ne takes =
    let lt = is_holder p.held h s has in
    let lt2 : h < length p.owns = omega (arith, is.owners.length_is) in
    let lt3 : heir < length (set p.owns h false) = omega (arith, is.owners.length_is, is_holder p.held heir s takes, length-set p.owns h false) in
    let not_two : get_or p.owns heir false ≡ false = elim (cases_Bool (get_or p.owns heir false)) [
      | inl two ↦ absurd (ne (is.owners.one heir h s takes has two owner))
      | inr one ↦ one
    ] in
    let fewer = count_loss (λ own. own) p.owns h false false lt2 owner refl in
    let more = count_gain (λ own. own) (set p.owns h false) heir true false lt3 (get_or-set_other p.owns h heir false false ne ∙ not_two) refl in
    kept_left p h s c p.store (set (set p.owns h false) heir true) is lt has less (owned_passed p.held p.owns h s heir is.owners lt has owner ne takes) refl (omega (arith, fewer, more, is.in_use)) (λ k slot differs e. refl) is.sized

-- the count of a slot, and that its holder is counted
pub count_read : (p : Parts) (h s n : ℕ) → IsKept p → at p.held h ≡ Some s → n ≡ get_or p.counts s n → (n ≡ get_or p.counts s 0) × (0 < n)
count_read p h s n is has read =
    let inside = is.within h s has in
    let lt : s < length p.counts = omega (arith, is.counts_length) in
    let value : n ≡ get_or p.counts s 0 = read ∙ default p.counts s n 0 lt in
    let some = count_some (is_slot (Some s)) p.held h None (is_holder p.held h s has) (rw has (is_it s)) in
    (value, omega (arith, value, some, is.counted s inside))

-- the owner's mark of a holder
pub own_read : (p : Parts) (h : ℕ) (b : Bool) → IsKept p → h < length p.held → b ≡ get_or p.owns h b → get_or p.owns h false ≡ b
own_read p h b is lt read = default p.owns h false b (omega (arith, is.owners.length_is)) ∙ sym read
